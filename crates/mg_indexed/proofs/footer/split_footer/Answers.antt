use Rattle.std.proofs.Common.{◌≡◌, ◌++◌, ◌∙◌, [], sym, ap, arith, rules, ℕ, List, length, Option, Some}
use Rattle.std.proofs.lemmas.Bool.{false≢true}
use Rattle.std.proofs.lemmas.Grind.{common_steps}
use Rattle.mg_indexed.specs.Footer.{counts_bytes, offsets_bytes, span_bytes}
use Rattle.mg_indexed.specs.declared.footer.Footer.{Footer}
use Rattle.mg_indexed.proofs.FieldLaws.{footer_is, footer_parts, none_left}
use Rattle.mg_indexed.proofs.footer.split_footer.Goals as goal

pub returns-in_err-index_at-clause-written : goal.returns-in_err-index_at-clause-written
returns-in_err-index_at-clause-written c = λ footer fit is.
    let counts = (c.in_ok-count.ensures.written footer.count footer.sum _ fit.count fit.sum (is ∙ footer_parts footer)).1 in
    let span = (c.in_ok-low.ensures.written footer.low footer.high _ fit.low fit.high counts.1).1 in
    absurd (false≢true (c.in_err-index_at.ensures.written footer.index_at footer.filter_at footer.blocks [] fit.index_at fit.filter_at fit.form fit.blocks span.1).0)

pub returns-then-not-is_empty-clause-written : goal.returns-then-not-is_empty-clause-written
returns-then-not-is_empty-clause-written c = λ footer fit is.
    let counts = (c.in_ok-count.ensures.written footer.count footer.sum _ fit.count fit.sum (is ∙ footer_parts footer)).1 in
    let span = (c.in_ok-low.ensures.written footer.low footer.high _ fit.low fit.high counts.1).1 in
    let offsets = (c.in_ok-index_at.ensures.written footer.index_at footer.filter_at footer.blocks [] fit.index_at fit.filter_at fit.form fit.blocks span.1).1 in
    grind (arith, common_steps, offsets.1, ap length offsets.1)

pub returns-clause-split : goal.returns-clause-split
returns-clause-split c =
    let counts = counts_bytes c.in_ok-count.count c.in_ok-count.sum in
    let span = span_bytes c.in_ok-low.low c.in_ok-low.high in
    let offsets = offsets_bytes c.in_ok-index_at.index_at c.in_ok-index_at.filter_at c.in_ok-index_at.blocks in
    let footer : Footer = record {
      count = c.in_ok-count.count;
      sum = c.in_ok-count.sum;
      low = c.in_ok-low.low;
      high = c.in_ok-low.high;
      index_at = c.in_ok-index_at.index_at;
      filter_at = c.in_ok-index_at.filter_at;
      blocks = c.in_ok-index_at.blocks;
    } in
    let zero : length c.in_ok-index_at.rest.now ≡ 0 = grind (arith, common_steps) in
    let spelled = c.in_ok-count.ensures.split
    ∙ ap (λ (rest : List ℕ). counts ++ rest)
    (c.in_ok-low.ensures.split ∙ ap (λ (rest : List ℕ). span ++ rest) (c.in_ok-index_at.ensures.split ∙ ap (λ (rest : List ℕ). offsets ++ rest) (none_left c.in_ok-index_at.rest.now zero)))
    ∙ sym (footer_parts footer) in (
      record {
        count = search rules;
        sum = search rules;
        low = search rules;
        high = search rules;
        index_at = search rules;
        filter_at = c.in_ok-index_at.ensures.fits.0;
        blocks = search rules;
        form = c.in_ok-index_at.ensures.fits.1;
      },
      spelled,
    )

pub returns-clause-written : goal.returns-clause-written
returns-clause-written c = λ footer fit is.
    let counts = (c.in_ok-count.ensures.written footer.count footer.sum _ fit.count fit.sum (is ∙ footer_parts footer)).1 in
    let span = (c.in_ok-low.ensures.written footer.low footer.high _ fit.low fit.high counts.1).1 in
    let offsets = (c.in_ok-index_at.ensures.written footer.index_at footer.filter_at footer.blocks [] fit.index_at fit.filter_at fit.form fit.blocks span.1).1 in
    ap (λ (f : Footer). let o : Option Footer = Some f in o)
    (footer_is _ footer (ap (λ (p : ℕ × ℕ). p.0) counts.0) (ap (λ (p : ℕ × ℕ). p.1) counts.0) (ap (λ (p : ℕ × ℕ). p.0) span.0) (ap (λ (p : ℕ × ℕ). p.1) span.0)
    (ap (λ (p : ℕ × Option ℕ × ℕ). p.0) offsets.0) (ap (λ (p : ℕ × Option ℕ × ℕ). p.1) offsets.0) (ap (λ (p : ℕ × Option ℕ × ℕ). p.2) offsets.0))
