use Rattle.std.proofs.Common.{◌≡◌, [], ◌∷◌, ◌++◌, ◌∙◌, rules, arith}
use Rattle.mg_memdisk.proofs.Choosing.{goes_on}
use Rattle.mg_memdisk.proofs.choices.Choice.pick_tail.Goals as goal

pub loop-self-preserved : goal.loop-self-preserved
loop-self-preserved c =
    let more : c.push.new.self.items ≡ c.loop-self.bytes.items ++ c.in-Some.byte ∷ [] = search rules in
    let len = c.len.ensures ∙ c.loop-self.bytes.ok.0 in
    let one = goes_on c.args.most c.loop-self.bytes.items c.push.new.self.items c.loop-self.self.rest.now c.pick_behind.new.self.rest.now c.in-Some.byte (omega (arith, c.loop-self-test.true, len)) more c.in-Some.ensures.byte c.in-Some.ensures.rest in
    record { most = one.within; tail = c.loop-self.invariant.tail ∙ one.tail; after = c.loop-self.invariant.after ∙ one.after }
