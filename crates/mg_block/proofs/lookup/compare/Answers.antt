use Rattle.std.proofs.Common.{◌≡◌, ◌<◌, ◌≤◌, ◌⊎◌, length, get_or, inl, inr, arith}
use Rattle.mg_block.proofs.Finding.{Tail, StandsAt-longer, StandsAt-shorter, StandsAt-below, StandsAt-here, StandsAt-above, above_from_not_below}
use Rattle.mg_block.proofs.lookup.compare.Goals as goal
use Rattle.mg_block.proofs.lookup.compare.Goals.{then-len-item-2, else-len-item-2}

pub returns-then-shared-matched : goal.returns-then-shared-matched
returns-then-shared-matched c previous x m =
    StandsAt-longer previous c.args.key.now c.args.item.shared c.args.item.rest.now c.args.matched x m (grind arith)

pub returns-then-shared-matched-2 : goal.returns-then-shared-matched-2
returns-then-shared-matched-2 c previous x m =
    StandsAt-shorter previous c.args.key.now c.args.item.shared c.args.item.rest.now c.args.matched x m (grind arith)

pub returns-then-len-item : goal.returns-then-len-item
returns-then-len-item c previous x m =
    let rest = c.args.item.rest.now in
    let tail = c.split_at.result.1.now in
    let t : Tail previous c.args.key.now rest c.args.item.shared c.args.matched tail c.shared_len-len.result = record { same = grind arith; matches = m; tail_is = c.split_at.ensures.back; len_is = c.shared_len-len.ensures.shared } in
    StandsAt-here previous c.args.key.now rest c.args.item.shared c.args.matched tail c.shared_len-len.result t (grind arith) (grind arith)

pub returns-else-len-item : goal.returns-else-len-item
returns-else-len-item c previous x m =
    let rest = c.args.item.rest.now in
    let tail = c.split_at.result.1.now in
    let t : Tail previous c.args.key.now rest c.args.item.shared c.args.matched tail c.shared_len-len.result = record { same = grind arith; matches = m; tail_is = c.split_at.ensures.back; len_is = c.shared_len-len.ensures.shared } in
    StandsAt-above previous c.args.key.now rest c.args.item.shared c.args.matched tail c.shared_len-len.result t (grind arith) (inl (grind arith))

pub returns-then-item-len : goal.returns-then-item-len
returns-then-item-len c previous x m =
    let rest = c.args.item.rest.now in
    let tail = c.split_at.result.1.now in
    let len = c.shared_len-len.result in
    let t : Tail previous c.args.key.now rest c.args.item.shared c.args.matched tail len = record { same = grind arith; matches = m; tail_is = c.split_at.ensures.back; len_is = c.shared_len-len.ensures.shared } in
    let ends : (len ≡ length rest) ⊎ (get_or rest len 0 < get_or tail len 0) =
    elim c.if-len-item-2.branch [ then-len-item-2 w ↦ inl (grind arith) | else-len-item-2 w ↦ inr (grind arith) ] in
    StandsAt-below previous c.args.key.now rest c.args.item.shared c.args.matched tail len t (grind arith) ends

pub returns-else-item-len : goal.returns-else-item-len
returns-else-item-len c previous x m =
    let rest = c.args.item.rest.now in
    let tail = c.split_at.result.1.now in
    let len = c.shared_len-len.result in
    let t : Tail previous c.args.key.now rest c.args.item.shared c.args.matched tail len = record { same = grind arith; matches = m; tail_is = c.split_at.ensures.back; len_is = c.shared_len-len.ensures.shared } in
    let inside : len < length tail = grind arith in
    let both : (len < length rest) × (get_or tail len 0 ≤ get_or rest len 0) =
    elim c.if-len-item-2.branch [ then-len-item-2 w ↦ absurd (grind arith) | else-len-item-2 w ↦ (grind arith, grind arith) ] in
    StandsAt-above previous c.args.key.now rest c.args.item.shared c.args.matched tail len t both.0 (inr (above_from_not_below rest tail len t.len_is both.0 inside both.1))
