use Rattle.std.proofs.Common.{◌≡◌, ◌-◌, ◌∙◌, ◌⊎◌, true, ap, subst, refl, sym, arith, length, List, ℕ, Result, Ok, Err, IfSome}
use Rattle.std.proofs.lemmas.Grind.{common_steps}
use Rattle.mg_types.specs.declared.faults.Fault.{Fault}
use Rattle.mg_sealed.specs.Answers.{Answers, IsOutside}
use Rattle.mg_sealed.specs.Blocks.{IsUnfitAt}
use Rattle.mg_indexed.specs.Footer.{offset_of}
use Rattle.mg_indexed.specs.Loading.{IsFooterRead, IsIndexRead, Loaded}
use Rattle.mg_indexed.specs.TableKeys.{table_keys}
use Rattle.mg_indexed.specs.declared.footer.Footer.{Footer}
use Rattle.mg_table.specs.Index.{handles_from}
use Rattle.mg_table.specs.Loading.{IsFilterRead, IsRefused}
use Rattle.mg_table.specs.Table.{footer_of}
use Rattle.mg_table.specs.declared.table.Table.{Table}
use Rattle.mg_indexed.proofs.LoadingSteps.{Under}
use Rattle.mg_sealed.proofs.AnswerLaws.{answered, err_is, refused}
use Rattle.mg_table.proofs.KnownLaws.{Of, knows_then, knows_both, knows_loaded, known_before, outside_err, loads}
use Rattle.mg_table.proofs.RefusalLaws.{filter_refused, indexed_refused, part-kind, table_read}
use Rattle.mg_table.proofs.table.Table.load.Goals as goal

pub returns-in_err-indexed-clause-loaded : goal.returns-in_err-indexed-clause-loaded
returns-in_err-indexed-clause-loaded g c =
    let told = g.F.Files.told in
    let arg = c.args.file in
    let fault = c.in_err-indexed.field-0.0 in
    let answer : Result (Loaded g.row.S.Denot (List ℕ)) Fault = Err fault in
    outside_err told (told arg) c.args.len _ fault (grind (arith, common_steps)) (knows_loaded (told arg) c.args.len answer c.in_err-indexed.ensures.loaded)

pub returns-in_err-indexed-clause-refusals : goal.returns-in_err-indexed-clause-refusals
returns-in_err-indexed-clause-refusals g c =
    let told = g.F.Files.told in
    let arg = c.args.file in
    let fault = c.in_err-indexed.field-0.0 in
    err_is _ fault (λ fault. IfSome (told arg) (λ bytes. IsRefused c.args.id arg c.args.len bytes fault)) (grind (arith, common_steps))
    (indexed_refused (told arg) c.args.id arg c.args.len fault c.in_err-indexed.ensures.refusals)

pub returns-in_err-filter-clause-loaded : goal.returns-in_err-filter-clause-loaded
returns-in_err-filter-clause-loaded g c =
    let told = g.F.Files.told in
    let arg = c.args.file in
    let indexed = c.in_ok-indexed.indexed in
    let said = c.footer-footer.result.now in
    let file : c.file.result.now ≡ record { id = c.args.id; file = arg; len = c.args.len } = c.file.ensures ∙ c.in_ok-indexed.ensures.file in
    let answer : Result (Loaded g.row.S.Denot (List ℕ)) Fault = Ok indexed in
    let fault = c.in_err-filter.field-0.0 in
    let Kept : Of = λ lo hi blocks filter. (indexed.footer ≡ footer_of lo hi blocks filter) × (indexed.index ≡ handles_from 0 blocks) in
    let Refused : Of = λ lo hi blocks filter. c.filter_offset-at.result ≡ offset_of (footer_of lo hi blocks filter).filter_at → said.blocks ≡ length blocks → Answers (Ok filter) (Err fault) in
    outside_err told (told arg) c.args.len _ fault (grind (arith, common_steps))
    (knows_then (told arg) c.args.len (λ lo hi blocks filter. Kept lo hi blocks filter × Refused lo hi blocks filter) (λ _ _ _ _. IsOutside fault)
    (λ lo hi entries blocks filter of h.
    let same = c.footer-footer.ensures.footer ∙ h.0.0 in
    refused filter _ fault refl (h.1 (c.filter_offset-at.ensures ∙ ap (λ (f : Footer). offset_of f.filter_at) same) (ap (λ (f : Footer). f.blocks) same)))
    (knows_both (told arg) c.args.len Kept Refused
    (knows_loaded (told arg) c.args.len answer c.in_ok-indexed.ensures.loaded)
    (known_before told c.file.result.now c.args.id arg c.args.len Refused file c.in_err-filter.ensures.told)))

pub returns-in_err-filter-clause-kinds : goal.returns-in_err-filter-clause-kinds
returns-in_err-filter-clause-kinds g c =
    let id = c.args.id in
    let fault = c.in_err-filter.field-0.0 in
    let read = c.file.result.now in
    let file : read ≡ record { id = id; file = c.args.file; len = c.args.len } = c.file.ensures ∙ c.in_ok-indexed.ensures.file in
    err_is _ fault (λ f. IsOutside f ⊎ ((at : ℕ) × IsUnfitAt id at f)) (grind (arith, common_steps))
    (part-kind read.id id c.filter_offset-at.result (read.len - 73) fault (ap (λ f. f.id) file) c.in_err-filter.ensures.kinds)

pub returns-in_err-filter-clause-refusals : goal.returns-in_err-filter-clause-refusals
returns-in_err-filter-clause-refusals g c =
    let told = g.F.Files.told in
    let arg = c.args.file in
    let id = c.args.id in
    let indexed = c.in_ok-indexed.indexed in
    let file : c.file.result.now ≡ record { id = id; file = arg; len = c.args.len } = c.file.ensures ∙ c.in_ok-indexed.ensures.file in
    let fault = c.in_err-filter.field-0.0 in
    let Read : Footer → Type 0 = λ f. IfSome (told arg) (λ bytes. IsFooterRead true id bytes f × IsIndexRead table_keys id bytes f indexed.index) in
    err_is _ fault (λ fault. IfSome (told arg) (λ bytes. IsRefused id arg c.args.len bytes fault)) (grind (arith, common_steps))
    (filter_refused told c.file.result.now id arg c.args.len c.filter_offset-at.result c.footer-footer.result.now indexed.index fault file c.filter_offset-at.ensures c.in_ok-indexed.ensures.len.1
    (subst Read (sym c.footer-footer.ensures.footer) c.in_ok-indexed.ensures.read) c.in_err-filter.ensures.refusals)

pub returns-clause-loaded : goal.returns-clause-loaded
returns-clause-loaded g c =
    let told = g.F.Files.told in
    let arg = c.args.file in
    let len = c.args.len in
    let indexed = c.in_ok-indexed.indexed in
    let said = c.footer-footer.result.now in
    let table : Table g.row.S.Denot = record { indexed = indexed; filter = c.in_ok-filter.filter } in
    let file : c.file.result.now ≡ record { id = c.args.id; file = arg; len = len } = c.file.ensures ∙ c.in_ok-indexed.ensures.file in
    let answer : Result (Loaded g.row.S.Denot (List ℕ)) Fault = Ok indexed in
    let filter : Result (List ℕ) Fault = Ok c.in_ok-filter.filter in
    let Kept : Of = λ lo hi blocks kept. (indexed.footer ≡ footer_of lo hi blocks kept) × (indexed.index ≡ handles_from 0 blocks) in
    let Filtered : Of = λ lo hi blocks kept. c.filter_offset-at.result ≡ offset_of (footer_of lo hi blocks kept).filter_at → said.blocks ≡ length blocks → Answers (Ok kept) filter in
    loads told arg table len (ap (λ f. f.file) c.in_ok-indexed.ensures.file) (ap (λ f. f.len) c.in_ok-indexed.ensures.file)
    (knows_then (told arg) len (λ lo hi blocks kept. Kept lo hi blocks kept × Filtered lo hi blocks kept) _
    (λ lo hi entries blocks kept of h.
    let same = c.footer-footer.ensures.footer ∙ h.0.0 in
    (h.0.0, (h.0.1, answered kept c.in_ok-filter.filter _ refl (h.1 (c.filter_offset-at.ensures ∙ ap (λ (f : Footer). offset_of f.filter_at) same) (ap (λ (f : Footer). f.blocks) same)))))
    (knows_both (told arg) len Kept Filtered
    (knows_loaded (told arg) len answer c.in_ok-indexed.ensures.loaded)
    (known_before told c.file.result.now c.args.id arg len Filtered file c.in_ok-filter.ensures.told)))

pub returns-clause-read : goal.returns-clause-read
returns-clause-read g c =
    let told = g.F.Files.told in
    let arg = c.args.file in
    let id = c.args.id in
    let indexed = c.in_ok-indexed.indexed in
    let table : Table g.row.S.Denot = record { indexed = indexed; filter = c.in_ok-filter.filter } in
    let said = c.footer-footer.ensures.footer in
    let file : c.file.result.now ≡ record { id = id; file = arg; len = c.args.len } = c.file.ensures ∙ c.in_ok-indexed.ensures.file in
    let at = c.filter_offset-at.result in
    let read = c.file.result.now in
    let Filtered : Footer → Type 0 = λ f. Under (told read.file) read.len (λ bytes. IsFilterRead read.id bytes at f.blocks table.filter) in
    table_read told read id arg c.args.len at table file (c.filter_offset-at.ensures ∙ ap (λ (f : Footer). offset_of f.filter_at) said) c.in_ok-indexed.ensures.kept c.in_ok-indexed.ensures.len.1 c.in_ok-indexed.ensures.read
    (subst Filtered said c.in_ok-filter.ensures.read)
