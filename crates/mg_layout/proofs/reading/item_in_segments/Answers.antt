use Rattle.std.proofs.Common.{◌≡◌, ◌+◌, ◌<◌, ◌≤◌, ◌⊎◌, ◌∙◌, inl, inr, length, get_or, drop, map, None, Ok, sym, ap, subst, arith}
use Rattle.std.specs.Arc.{arc_value}
use Rattle.std.specs.List.{find}
use Rattle.std.specs.Option.{is_some}
use Rattle.std.specs.Prelude.{Any, true}
use Rattle.std.proofs.lemmas.Grind.{common_steps}
use Rattle.std.proofs.lemmas.List.{get_or-map, length-map}
use Rattle.std.proofs.lemmas.List.Elements.{All-get_or}
use Rattle.mg_core.specs.Layouts.{records_of}
use Rattle.mg_records.specs.Lookup.{IsBlockFault}
use Rattle.mg_records.specs.Writing.{Filed}
use Rattle.mg_sealed.specs.Answers.{IsOutside}
use Rattle.mg_sealed.proofs.AnswerLaws.{err_is, outside}
use Rattle.mg_layout.proofs.SeekLaws.{has_number, none_is, or_is, record_behind, record_from, segment_gives, segment_outside}
use Rattle.mg_layout.proofs.reading.item_in_segments.Goals as goal

pub returns-in_err-found-clause-found : goal.returns-in_err-found-clause-found
returns-in_err-found-clause-found g c tells records holds =
    let files = map arc_value c.args.segments.now in
    let i = c.loop-segment.segment-index in
    let file = arc_value c.segment-item.result in
    let within : i < length files = omega (arith, length-map c.args.segments.now arc_value, c.loop-segment-test.true) in
    let is : file ≡ get_or files i file = ap arc_value c.segment-item.is ∙ sym (get_or-map arc_value c.args.segments.now i c.segment-item.result file c.loop-segment-test.true) in
    outside _ c.from_residual.result c.in_err-found.field-0.0 (grind (arith, common_steps))
    (segment_outside g.F.Files.told files records c.args.seq i file c.deref.result.now c.in_err-found.field-0.0 within is c.deref.ensures tells holds c.in_err-found.ensures.found)

pub returns-in_err-found-clause-unread : goal.returns-in_err-found-clause-unread
returns-in_err-found-clause-unread g c elsewhere =
    let files = map arc_value c.args.segments.now in
    let i = c.loop-segment.segment-index in
    let file = arc_value c.segment-item.result in
    let within : i < length files = omega (arith, length-map c.args.segments.now arc_value, c.loop-segment-test.true) in
    let is : file ≡ get_or files i file = ap arc_value c.segment-item.is ∙ sym (get_or-map arc_value c.args.segments.now i c.segment-item.result file c.loop-segment-test.true) in
    let outer = λ (s : Filed g.row.S.Denot). (c.args.seq < s.footer.low) ⊎ (s.footer.high < c.args.seq) in
    let here = subst outer (sym is ∙ sym c.deref.ensures) (All-get_or outer files i file within elsewhere) in
    let unread = (c.in_err-found.ensures.unread here).1 in
    absurd cc

pub returns-in_err-found-clause-refusals : goal.returns-in_err-found-clause-refusals
returns-in_err-found-clause-refusals g c =
    let files = map arc_value c.args.segments.now in
    let i = c.loop-segment.segment-index in
    let file = arc_value c.segment-item.result in
    let within : i < length files = omega (arith, length-map c.args.segments.now arc_value, c.loop-segment-test.true) in
    let is : file ≡ get_or files i file = ap arc_value c.segment-item.is ∙ sym (get_or-map arc_value c.args.segments.now i c.segment-item.result file c.loop-segment-test.true) in
    let fault = c.in_err-found.field-0.0 in
    err_is c.from_residual.result fault (λ f. IsOutside f ⊎ Any (λ (s : Filed g.row.S.Denot). IsBlockFault s.file.id s.index f) files) (grind (arith, common_steps))
    (elim c.in_err-found.ensures.refusals [
      | inl from ↦ inl from
      | inr unfit ↦ inr (i, file, within, sym is, subst (λ (s : Filed g.row.S.Denot). IsBlockFault s.file.id s.index fault) c.deref.ensures unfit)
    ])

pub returns-then-is_some-clause-found : goal.returns-then-is_some-clause-found
returns-then-is_some-clause-found g c tells records holds =
    let told = g.F.Files.told in
    let files = map arc_value c.args.segments.now in
    let i = c.loop-segment.segment-index in
    let file = arc_value c.segment-item.result in
    let within : i < length files = omega (arith, length-map c.args.segments.now arc_value, c.loop-segment-test.true) in
    let is : file ≡ get_or files i file = ap arc_value c.segment-item.is ∙ sym (get_or-map arc_value c.args.segments.now i c.segment-item.result file c.loop-segment-test.true) in
    let o = c.in_ok-found.found in
    let some : is_some o ≡ true = sym c.is_some.ensures ∙ c.if-is_some.true in
    ap Ok (c.loop-segment.invariant.0.left tells records holds
    ∙ (record_from told files records c.args.seq i file o within is holds (segment_gives told file c.deref.result.now c.args.seq o c.deref.ensures tells c.in_ok-found.ensures.found)
    ∙ or_is o (find (has_number c.args.seq) (records_of (drop (i + 1) records))) some))

pub returns-then-is_some-clause-unread : goal.returns-then-is_some-clause-unread
returns-then-is_some-clause-unread g c elsewhere =
    let files = map arc_value c.args.segments.now in
    let i = c.loop-segment.segment-index in
    let file = arc_value c.segment-item.result in
    let within : i < length files = omega (arith, length-map c.args.segments.now arc_value, c.loop-segment-test.true) in
    let is : file ≡ get_or files i file = ap arc_value c.segment-item.is ∙ sym (get_or-map arc_value c.args.segments.now i c.segment-item.result file c.loop-segment-test.true) in
    let outer = λ (s : Filed g.row.S.Denot). (c.args.seq < s.footer.low) ⊎ (s.footer.high < c.args.seq) in
    let here = subst outer (sym is ∙ sym c.deref.ensures) (All-get_or outer files i file within elsewhere) in
    let unread = c.in_ok-found.ensures.unread here in
    (unread.0 ∙ c.loop-segment.invariant.1 elsewhere, unread.1)

pub loop-segment-preserved : goal.loop-segment-preserved
loop-segment-preserved g c =
    let told = g.F.Files.told in
    let files = map arc_value c.args.segments.now in
    let i = c.loop-segment.segment-index in
    let file = arc_value c.segment-item.result in
    let within : i < length files = omega (arith, length-map c.args.segments.now arc_value, c.loop-segment-test.true) in
    let is : file ≡ get_or files i file = ap arc_value c.segment-item.is ∙ sym (get_or-map arc_value c.args.segments.now i c.segment-item.result file c.loop-segment-test.true) in
    let o = c.in_ok-found.found in
    let none : o ≡ None = none_is o (sym c.is_some.ensures ∙ c.if-is_some.false) in
    let outer = λ (s : Filed g.row.S.Denot). (c.args.seq < s.footer.low) ⊎ (s.footer.high < c.args.seq) in (
      record {
        kept = c.in_ok-found.ensures.once.kept ∙ c.loop-segment.invariant.0.kept;
        bounded = c.loop-segment.invariant.0.bounded;
        left = λ tells records holds. c.loop-segment.invariant.0.left tells records holds
            ∙ record_from told files records c.args.seq i file None within is holds
            (λ held stands. segment_gives told file c.deref.result.now c.args.seq o c.deref.ensures tells c.in_ok-found.ensures.found held stands ∙ none);
      },
      λ elsewhere.
          (c.in_ok-found.ensures.unread (subst outer (sym is ∙ sym c.deref.ensures) (All-get_or outer files i file within elsewhere))).0 ∙ c.loop-segment.invariant.1 elsewhere,
    )

pub returns-clause-found : goal.returns-clause-found
returns-clause-found g c tells records holds =
    let files = map arc_value c.args.segments.now in
    let past : length files ≤ c.loop-segment.segment-index = omega (arith, length-map c.args.segments.now arc_value, c.loop-segment-test.false) in
    ap Ok (c.loop-segment.invariant.0.left tells records holds ∙ record_behind g.F.Files.told files records c.args.seq c.loop-segment.segment-index past holds)
