use Rattle.std.proofs.Common.{◌≡◌, ◌∙◌, ap, ◌++◌, ◌∷◌, [], ◌<◌, ◌≤◌, ◌+◌, ◌&&◌, ◌==◌, nat_lt, true, false, length, arith}
use Rattle.std.specs.Bool.{if◌then◌else◌}
use Rattle.mg_model.specs.Mutations.{held, newest, item_of}
use Rattle.mg_model.proofs.ListLemmas.{feed_more, feed_so_far, fed_due, fed_not_due, fed_full}
use Rattle.mg_model.proofs.scan.feed_items.Goals as goal
use Rattle.mg_model.proofs.scan.feed_items.Goals.{then-len-from+then-is_due+in_ok-numbered+in_ok-push, else-len-from, else-len-from-via-then-len-from+else-is_due, else-len-from-via-else-len-from}

pub loop-index-preserved : goal.loop-index-preserved
loop-index-preserved c =
    let ms = c.args.mutations.now in
    let after = c.args.after in
    let limit = c.args.limit in
    let i = c.loop-index.index in
    let x = c.index-mutations-index.result in
    let so_far = feed_so_far ms after limit i in
    let more = feed_more ms after limit i x c.loop-index-test.true c.index-mutations-index.is in
    elim c.if-len-from.branch [
      | then-len-from+then-is_due+in_ok-numbered+in_ok-push w ↦
          let due : (nat_lt after (i + 1) && (newest (held ms) x.key == i + 1)) ≡ true = cc in
          let room : length so_far < limit = (let e = ap length c.loop-index.invariant in omega arith) in
          let step = more ∙ ap (λ t. if t then so_far ++ item_of (i + 1) x ∷ [] else so_far) (fed_due ms after limit i x due room) in
          cc (step, w.in_ok-push.ensures.ok, w.in_ok-numbered.ensures.ok)
      | else-len-from w ↦
          elim w.else-len-from.branch [
            | else-len-from-via-then-len-from+else-is_due w' ↦
                let not_due : (nat_lt after (i + 1) && (newest (held ms) x.key == i + 1)) ≡ false = cc in
                let step = more ∙ ap (λ t. if t then so_far ++ item_of (i + 1) x ∷ [] else so_far) (fed_not_due ms after limit i x not_due) in
                cc step
            | else-len-from-via-else-len-from w' ↦
                let full : limit ≤ length so_far = (let e = ap length c.loop-index.invariant in omega arith) in
                let step = more ∙ ap (λ t. if t then so_far ++ item_of (i + 1) x ∷ [] else so_far) (fed_full ms after limit i x full) in
                cc step
          ]
    ]
