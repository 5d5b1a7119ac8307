use Rattle.std.proofs.Common.{◌≡◌, ◌≢◌, ◌≤◌, ◌<◌, ◌∙◌, List, [], ◌∷◌, ◌+◌, ◌++◌, ℕ, map, sym, ap, subst, length, arith}
use Rattle.std.proofs.lemmas.Grind.{common_steps}
use Rattle.std.proofs.lemmas.Result.{on_ok_weaker}
use Rattle.mg_block.specs.Block.{block_of}
use Rattle.mg_block.specs.View.{last_pair}
use Rattle.mg_block.specs.declared.pair.Pair.{Pair}
use Rattle.mg_block.proofs.Spelling.{last_pair_after-push}
use Rattle.mg_indexed.specs.Writing.{Closed}
use Rattle.mg_sealed.proofs.FilledLaws.{push-some}
use Rattle.mg_table.specs.Entries.{pair_of}
use Rattle.mg_table.specs.Writing.{IsOpen, IsPut}
use Rattle.mg_table.proofs.WriterLaws.{begins-open, opened, put-begun, put-stays, stays-open, IsClosing}
use Rattle.mg_table.proofs.writer.put_pair.Goals as goal
use Rattle.mg_table.proofs.writer.put_pair.Goals.{else-not-is_empty-via-then-not-is_empty+else-size_with-le-BLOCK_LIMIT, else-not-is_empty-via-else-not-is_empty}

pub returns-then-size_with-le-BLOCK_LIMIT-clause-last : goal.returns-then-size_with-le-BLOCK_LIMIT-clause-last
returns-then-size_with-le-BLOCK_LIMIT-clause-last g c =
    let old = c.args.block.now in
    let given : Pair = record { key = c.args.key.now; payload = c.args.payload.now } in
    on_ok_weaker c.push_pair.result
    (λ (put : c.push_pair.new.block ≡ old ++ given ∷ []). (
      λ (none : c.push_pair.new.block ≡ []). push-some old given (sym put ∙ none),
      ap (λ (ps : List Pair). (last_pair ps).key) put ∙ ap (λ (p : Pair). p.key) (last_pair_after-push (record { key = []; payload = [] }) old given),
    ))
    c.push_pair.ensures.ok

pub returns-then-size_with-le-BLOCK_LIMIT-clause-opened : goal.returns-then-size_with-le-BLOCK_LIMIT-clause-opened
returns-then-size_with-le-BLOCK_LIMIT-clause-opened g c =
    let index = c.args.closed.now.index in
    let old = c.args.block.now in
    let first = c.args.first.now.items in
    let given : Pair = record { key = c.args.key.now; payload = c.args.payload.now } in
    let some : old ≢ [] = λ none. absurd (grind (arith, common_steps, c.is_empty.ensures.1 none)) in
    let fits : length (block_of (old ++ given ∷ [])) ≤ 4096 = grind (arith, c.size_with.ensures) in
    let stays = stays-open index old first given (opened index old first c.requires.begun some) c.requires.follows fits in
    on_ok_weaker c.push_pair.result (λ (put : c.push_pair.new.block ≡ old ++ given ∷ []). subst (λ (ps : List Pair). IsOpen index ps first) (sym put) stays) c.push_pair.ensures.ok

pub returns-then-size_with-le-BLOCK_LIMIT-clause-put : goal.returns-then-size_with-le-BLOCK_LIMIT-clause-put
returns-then-size_with-le-BLOCK_LIMIT-clause-put g c = λ blocks last entry has is was fills key payload.
    let closed = c.args.closed.now in
    let old = c.args.block.now in
    let first = c.args.first.now.items in
    let given : Pair = record { key = c.args.key.now; payload = c.args.payload.now } in
    let same : given ≡ pair_of entry = cc in
    let some : old ≢ [] = λ none. absurd (grind (arith, common_steps, c.is_empty.ensures.1 none)) in
    let fits : length (block_of (old ++ given ∷ [])) ≤ 4096 = grind (arith, c.size_with.ensures) in
    let stays = put-stays g.F.Files.drafted closed old first blocks last entry has is some was fills (subst (λ (p : Pair). length (block_of (old ++ p ∷ [])) ≤ 4096) same fits) in
    on_ok_weaker c.push_pair.result
    (λ (put : c.push_pair.new.block ≡ old ++ given ∷ []).
    subst (λ (ps : List Pair). IsPut g.F.Files.drafted closed ps first blocks last entry) (sym (put ∙ ap (λ (p : Pair). old ++ p ∷ []) same)) stays)
    c.push_pair.ensures.ok

pub returns-clause-opened : goal.returns-clause-opened
returns-clause-opened g c =
    let index = c.args.closed.now.index in
    let new = c.close_block.new.closed.index in
    let old = c.args.block.now in
    let first = c.args.first.now.items in
    let given : Pair = record { key = c.args.key.now; payload = c.args.payload.now } in
    let full : old ≢ [] → 4096 < length (block_of (old ++ given ∷ [])) = λ some. elim c.else-not-is_empty.branch [
      | else-not-is_empty-via-then-not-is_empty+else-size_with-le-BLOCK_LIMIT w ↦ grind (arith, w.size_with.ensures)
      | else-not-is_empty-via-else-not-is_empty w ↦ absurd (some (c.is_empty.ensures.0 (grind (arith, common_steps))))
    ] in
    let closing : IsClosing index old first new = record {
      none = λ none. ap (λ (closed : Closed g.row.F-Draft.Denot (List ℕ)). closed.index) (c.in_ok-close_block.ensures.none none);
      some = λ some. (record { first = c.deref.result.now; at = c.args.closed.now.frames.len; len = length (block_of old) + 20 }, c.deref.ensures.value, c.in_ok-close_block.ensures.index some);
    } in
    let begun = c.in_ok-next.ensures.begun in
    subst (λ (ps : List Pair). IsOpen new ps c.in_ok-next.next_first.items) (sym begun.0)
    (subst (λ (k : List ℕ). IsOpen new (given ∷ []) k) (sym begun.1)
    (begins-open index new old first given c.requires.begun closing c.requires.follows c.requires.key c.requires.payload c.requires.room full))

pub returns-clause-put : goal.returns-clause-put
returns-clause-put g c = λ blocks last entry has is was fills key payload.
    let drafted = g.F.Files.drafted in
    let closed = c.close_block.new.closed in
    let old = c.args.block.now in
    let given : Pair = record { key = c.args.key.now; payload = c.args.payload.now } in
    let same : given ≡ pair_of entry = cc in
    let full : old ≢ [] → 4096 < length (block_of (old ++ given ∷ [])) = λ some. elim c.else-not-is_empty.branch [
      | else-not-is_empty-via-then-not-is_empty+else-size_with-le-BLOCK_LIMIT w ↦ grind (arith, w.size_with.ensures)
      | else-not-is_empty-via-else-not-is_empty w ↦ absurd (some (c.is_empty.ensures.0 (grind (arith, common_steps))))
    ] in
    let begun = c.in_ok-next.ensures.begun in
    let put = put-begun drafted c.args.closed.now closed old blocks last entry has is fills c.in_ok-close_block.ensures.none
    (λ some. c.in_ok-close_block.ensures.blocks blocks last has some is (c.deref.ensures.value ∙ was (λ none. some (is ∙ ap (λ es. map pair_of es) none))))
    (λ some. subst (λ (p : Pair). 4096 < length (block_of (old ++ p ∷ []))) same (full some)) in
    subst (λ (ps : List Pair). IsPut drafted closed ps c.in_ok-next.next_first.items blocks last entry) (sym (begun.0 ∙ ap (λ (p : Pair). p ∷ []) same))
    (subst (λ (k : List ℕ). IsPut drafted closed (pair_of entry ∷ []) k blocks last entry) (sym (begun.1 ∙ key)) put)
