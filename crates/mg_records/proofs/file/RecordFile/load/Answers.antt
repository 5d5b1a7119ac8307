use Rattle.std.proofs.Common.{◌⊎◌, ◌∙◌, ℕ, ap, inr, subst, sym, IfSome, arith}
use Rattle.std.proofs.lemmas.Grind.{common_steps}
use Rattle.mg_types.specs.declared.faults.Fault.TheVariants.{Malformed}
use Rattle.mg_sealed.specs.Answers.{IsOutside}
use Rattle.mg_sealed.proofs.AnswerLaws.{err_is}
use Rattle.mg_indexed.specs.declared.footer.Footer.{Footer}
use Rattle.mg_records.specs.Reading.{Agrees}
use Rattle.mg_records.specs.Refusals.{IsRefused}
use Rattle.mg_records.proofs.RefusalLaws.{apart_refused, file_read, loaded, not_apart, not_loaded, unloaded}
use Rattle.mg_records.proofs.file.RecordFile.load.Goals as goal

pub returns-in_err-indexed-clause-loaded : goal.returns-in_err-indexed-clause-loaded
returns-in_err-indexed-clause-loaded g c =
    not_loaded g.R.Record.kind g.met.R.Record.lawful g.R.BlockItem.form g.met.R.Record.framed (g.F.Files.told c.args.file) c.args.len c.from_residual.result c.in_err-indexed.field-0.0 _ (grind (arith, common_steps))
    c.in_err-indexed.ensures.loaded

pub returns-in_err-indexed-clause-refusals : goal.returns-in_err-indexed-clause-refusals
returns-in_err-indexed-clause-refusals g c =
    let form = g.R.BlockItem.form in
    let told = g.F.Files.told c.args.file in
    let fault = c.in_err-indexed.field-0.0 in
    err_is _ fault (λ fault. IfSome told (λ bytes. IsOutside fault ⊎ IsRefused form c.args.id c.args.file c.args.len bytes fault)) (grind (arith, common_steps))
    (unloaded form told c.args.id c.args.file c.args.len fault c.in_err-indexed.ensures.refusals)

pub returns-then-not-agrees-clause-loaded : goal.returns-then-not-agrees-clause-loaded
returns-then-not-agrees-clause-loaded g c =
    let filed = c.in_ok-indexed.indexed in
    let apart : Agrees filed.footer filed.index → ⊥ = λ same.
    (let yes = c.agrees.ensures.1 (subst (λ (f : Footer). Agrees f c.handles.result.now) (sym c.footer.ensures.footer) (subst (λ es. Agrees filed.footer es) (sym c.handles.ensures.handles) same)) in
    absurd (grind (arith, common_steps, yes))) in
    not_apart g.R.Record.kind g.met.R.Record.lawful g.R.BlockItem.form g.met.R.Record.framed (g.F.Files.told c.args.file) c.args.len filed c.malformed.result apart c.in_ok-indexed.ensures.loaded

pub returns-then-not-agrees-clause-refusals : goal.returns-then-not-agrees-clause-refusals
returns-then-not-agrees-clause-refusals g c =
    let filed = c.in_ok-indexed.indexed in
    let apart : Agrees filed.footer filed.index → ⊥ = λ same.
    (let yes = c.agrees.ensures.1 (subst (λ (f : Footer). Agrees f c.handles.result.now) (sym c.footer.ensures.footer) (subst (λ es. Agrees filed.footer es) (sym c.handles.ensures.handles) same)) in
    absurd (grind (arith, common_steps, yes))) in
    apart_refused g.R.BlockItem.form g.met.R.Record.framed.unfiltered (g.F.Files.told c.args.file) c.args.id c.args.file c.args.len filed c.malformed.result
    c.in_ok-indexed.ensures.len.1 c.in_ok-indexed.ensures.read c.in_ok-indexed.ensures.kept apart (c.malformed.ensures ∙ ap (λ (n : ℕ). Malformed c.args.id n) (omega (arith, c.saturating_sub.ensures, c.footer_len.ensures)))

pub returns-then-not-agrees-clause-kinds : goal.returns-then-not-agrees-clause-kinds
returns-then-not-agrees-clause-kinds g c = inr (c.saturating_sub.result, inr c.malformed.ensures)

pub invariant_of-result : goal.invariant_of-result
invariant_of-result g c =
    let filed = c.in_ok-indexed.indexed in
    let same : Agrees c.footer.result.now c.handles.result.now = c.agrees.ensures.0 (grind (arith, common_steps)) in
    record {
      whole = c.in_ok-indexed.ensures.kept;
      agrees = subst (λ (f : Footer). Agrees f filed.index) c.footer.ensures.footer (subst (λ es. Agrees c.footer.result.now es) c.handles.ensures.handles same);
    }

pub returns-clause-read : goal.returns-clause-read
returns-clause-read g c =
    let read = c.in_ok-indexed.ensures in
    file_read g.R.BlockItem.form g.met.R.Record.framed.unfiltered (g.F.Files.told c.args.file) c.args.id c.args.file c.args.len c.in_ok-indexed.indexed read.file read.len.0 (invariant_of-result g c) read.len.1 read.read

pub returns-clause-loaded : goal.returns-clause-loaded
returns-clause-loaded g c =
    let read = c.in_ok-indexed.ensures in
    loaded g.R.Record.kind g.met.R.Record.lawful g.R.BlockItem.form g.met.R.Record.framed g.F.Files.told c.args.id c.args.file c.args.len c.in_ok-indexed.indexed read.file read.loaded
