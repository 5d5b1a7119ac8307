-- What is read of one block of a table.
use Rattle.std.proofs.Common.{◌≡◌, ℕ, zero, suc, ◌+◌, ◌<◌, ◌≤◌, List, [], ◌∷◌, ◌++◌, length, drop, take, get_or, map, refl, sym, ap, subst, ◌∙◌, arith, Option, Result, Err, MatchResult}
use Rattle.std.proofs.lemmas.List.{append-nil, take_more}
use Rattle.std.proofs.lemmas.List.Elements.{at_read}
use Rattle.std.proofs.Math.Seq.{drop-cons}
use Rattle.std.specs.Prelude.{HoldsAt}
use Rattle.mg_block.specs.Block.{Precedes}
use Rattle.mg_types.specs.declared.faults.Fault.{Fault}
use Rattle.mg_sealed.specs.Answers.{IsOutside}
use Rattle.mg_sealed.specs.Filling.{items_of}
use Rattle.mg_sealed.proofs.FilledLaws.{items_of-push}
use Rattle.mg_table.specs.Entries.{block_body, first_key, AreEntries}
use Rattle.mg_table.specs.Pages.{IsPage, IsPlaced}
use Rattle.mg_table.specs.Scanning.{last_key, IsNext}
use Rattle.mg_table.specs.Table.{Represents}
use Rattle.mg_types.specs.declared.items.Entry.{Entry}
use Rattle.mg_indexed.specs.declared.handle.BlockHandle.{BlockHandle}
use Rattle.mg_table.specs.declared.table.Table.{Table}
use Rattle.mg_table.proofs.LoadingLaws.{length-handles_from}
use Rattle.mg_table.proofs.ReadingLaws.{block-is, filled-at}
use Rattle.mg_table.proofs.ScanningLaws.{last-behind, len_before, next-in-table, rises-into}

-- a fault from outside is a right answer, whatever the entries are
pub outside-answer : {V : Type 0} (result : Result V Fault) (fault : Fault) (P : V → Type 0) → result ≡ Err fault → IsOutside fault → MatchResult result P (λ f. IsOutside f)
outside-answer {V} result fault P is outside = subst (λ (r : Result V Fault). MatchResult r P (λ f. IsOutside f)) (sym is) outside

handle-there : (index : List (BlockHandle (List ℕ))) (k : ℕ) → k < length index → (handle : BlockHandle (List ℕ)) × (handle ≡ get_or index k handle)
handle-there [] k within = absurd (omega (arith, within))
handle-there (e ∷ index) zero within = (e, refl)
handle-there (e ∷ index) (suc k) within = handle-there index k (omega (arith, within))

-- what was listed of the block of a number is that block of the table
pub page-of : (blocks : List (List Entry)) (number : ℕ) (old page : List Entry) → number < length blocks → old ≡ [] → page ≡ old ++ get_or blocks number [] → IsPage blocks number page
page-of blocks number old page within none is =
    drop-cons blocks number [] within ∙ ap (λ (n : ℕ). get_or blocks number [] ∷ drop n blocks) (let next : suc number ≡ number + 1 = omega arith in next)
    ∙ ap (λ (p : List Entry). p ∷ drop (number + 1) blocks) (sym (is ∙ ap (λ (es : List Entry). es ++ get_or blocks number []) none))

-- each block of a table may stand where it does
pub placed-in-table : {S : Type 0} (told : S → Option (List ℕ)) (table : Table S) (all : List Entry) (stands : Represents told table all) (k : ℕ) (handle : BlockHandle (List ℕ))
    (block : List Entry) (size : ℕ) → k < length table.indexed.index → handle ≡ get_or table.indexed.index k handle → block ≡ get_or stands.blocks k [] → size ≡ length (block_body block)
    → IsPlaced table.indexed.index k block size
placed-in-table {S} told table all stands k handle block size within is here same =
    let blocks = stands.blocks in
    let index = table.indexed.index in
    let one = get_or blocks k [] in
    let many : length index ≡ length blocks = ap length stands.index ∙ length-handles_from 0 blocks in
    let some = (filled-at block_body blocks k [] stands.parts.listed.filled (omega (arith, many, within))).some in
    let are = block-is told table all stands k [] within in
    let next = next-in-table told table all stands k handle (items_of (take k blocks)) block (len_before blocks k) size within is refl here refl same in
    let above : Precedes [] (first_key block) = subst (λ (b : List Entry). Precedes [] (first_key b)) (sym here)
    (rises-into [] one [] some (subst AreEntries (sym (append-nil one)) are)) in
    record {
      first = at_read index (λ (h : BlockHandle (List ℕ)). IsNext h.first [] 4096 block size) k handle within is (next.0, above, next.2, omega arith);
      below = λ more.
          let there = handle-there index (k + 1) more in
          let front : items_of (take (k + 1) blocks) ≡ items_of (take k blocks) ++ one = ap items_of (take_more blocks k [] (omega (arith, many, within))) ∙ items_of-push (take k blocks) one in
          let last : last_key (items_of (take (k + 1) blocks)) ≡ last_key block = ap last_key front ∙ last-behind (items_of (take k blocks)) one some ∙ ap last_key (sym here) in
          let behind = next-in-table told table all stands (k + 1) there.0 (items_of (take (k + 1) blocks)) (get_or blocks (k + 1) []) (len_before blocks (k + 1))
          (length (block_body (get_or blocks (k + 1) []))) more there.1 refl refl refl refl in
          at_read index (λ (h : BlockHandle (List ℕ)). Precedes (last_key block) h.first) (k + 1) there.0 more there.1
          (subst (λ (key : List ℕ). Precedes (last_key block) key) behind.0 (subst (λ (key : List ℕ). Precedes key (first_key (get_or blocks (k + 1) []))) last behind.1));
    }
