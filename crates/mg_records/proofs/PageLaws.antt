-- What is read of one block.
use Rattle.std.proofs.Common.{◌≡◌, ℕ, ◌+◌, ◌≤◌, List, [], ◌∷◌, ◌++◌, length, drop, sym, ap, ◌∙◌, arith, append_assoc, Option}
use Rattle.std.proofs.lemmas.List.{length-append, drop_all, drop_at}
use Rattle.std.specs.Prelude.{filter, nat_lt}
use Rattle.mg_sealed.specs.Filling.{items_of}
use Rattle.mg_records.specs.File.{last_number}
use Rattle.mg_records.specs.Lookup.{IsBlock}
use Rattle.mg_records.specs.Pages.{IsPage, records_from}
use Rattle.mg_records.specs.Record.{Kind}
use Rattle.mg_records.specs.Writing.{Filed, Represents}
use Rattle.mg_records.proofs.LookupLaws.{blocks_many, none_over_last, scan_step}
use Rattle.mg_indexed.specs.declared.footer.Footer.{Footer}

-- the records above a number of a block of a file
pub page_of : {T : Type 0} (kind : Kind T) (blocks : List (List T)) (after number : ℕ) (body : List ℕ) (old page : List T) → (b : IsBlock kind blocks number body) → old ≡ []
    → page ≡ old ++ filter (λ it. nat_lt after (kind.seq it)) b.block → IsPage kind after blocks number page
page_of kind blocks after number body old page b none is =
    let split = b.all ∙ sym (append_assoc b.before (b.block ∷ []) b.later) in
    let next : drop (number + 1) blocks ≡ b.later =
    ap (drop (number + 1)) split ∙ drop_at (b.before ++ b.block ∷ []) b.later (number + 1) (omega (arith, b.many, length-append b.before (b.block ∷ []))) in
    record {
      block = b.block;
      here = ap (drop number) b.all ∙ drop_at b.before (b.block ∷ b.later) number b.many ∙ ap (λ bs. b.block ∷ bs) (sym next);
      are = is ∙ ap (λ xs. xs ++ filter (λ it. nat_lt after (kind.seq it)) b.block) none;
      follow = scan_step kind blocks after number body old page b is ∙ ap (λ xs. xs ++ records_from kind after number blocks) none;
    }

-- behind all blocks there are no records, and none is above a number from the last one on
pub none_from : {T S : Type 0} (kind : Kind T) (told : S → Option (List ℕ)) (filed : Filed S) (records : List T) (holds : Represents kind told filed records) (after number : ℕ)
    → filed.footer.high ≤ after → length filed.index ≤ number → records_from kind after number holds.blocks ≡ filter (λ it. nat_lt after (kind.seq it)) records
none_from {T} kind told filed records holds after number over past =
    let above : List T → List T = filter (λ it. nat_lt after (kind.seq it)) in
    let under : last_number kind (items_of holds.blocks) ≤ after = omega (arith, over, ap (λ (f : Footer). f.high) holds.footer) in
    ap (λ (bs : List (List T)). above (items_of bs)) (drop_all number holds.blocks (omega (arith, past, blocks_many kind told filed records holds)))
    ∙ sym (ap above (sym holds.all) ∙ none_over_last kind after (items_of holds.blocks) holds.are.rise under)
