use Rattle.std.proofs.Common.{◌≡◌, ◌<◌, ◌-◌, ℕ, length, get_or, refl, rules, ap, ◌∙◌, sym}
use Rattle.mg_faults.specs.Causes.{raised, kept_count}
use Rattle.mg_memdisk.specs.Hosts.{slot_faults}
use Rattle.mg_memdisk.proofs.Slots.{out_exists, gives, slot_there, kept_raised}
use Rattle.mg_memdisk.proofs.hosts.MemHostHost.give_back.Goals as goal

pub returns-clause-given : goal.returns-clause-given
returns-clause-given c =
    let lt : c.place-at.result < length c.args.self.now.slots = search rules in
    gives _ c.args.self.now.slots c.args.n c.place-at.result _ c.place-at.ensures.place lt (out_exists c.args.self.now.slots c.args.n c.requires) c.args.vol _ refl refl

pub returns-clause-faults : goal.returns-clause-faults
returns-clause-faults c =
    let lt : c.place-at.result < length c.args.self.now.slots = search rules in
    let slot = slot_there c.args.self.now.slots c.args.n c.place-at.result c.index-self-at.result c.place-at.ensures.place lt (out_exists c.args.self.now.slots c.args.n c.requires) in
    let lent = (get_or c.args.self.now.slots c.place-at.result c.index-self-at.result).lent_faults in
    let count : _ ≡ raised c.args.self.now.faults (kept_count c.args.vol.calls.faults - lent) = c.rise_by.ensures.count ∙ ap (λ (k : ℕ). raised c.args.self.now.faults (k - lent)) c.faults.ensures in
    ap kept_count count ∙ kept_raised c.args.self.now.faults _ ∙ ap (λ (k : ℕ). raised (kept_count c.args.self.now.faults) (kept_count c.args.vol.calls.faults - k)) (sym (ap slot_faults slot))
