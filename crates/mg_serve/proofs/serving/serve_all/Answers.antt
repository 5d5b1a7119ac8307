use Rattle.std.proofs.Common.{◌≡◌, ◌<◌, ◌∙◌, arith, length, subst}
use Rattle.std.specs.Vec.Iter.{into_iter_items}
use Rattle.mg_serve.specs.Answers.{line_limit}
use Rattle.mg_serve.specs.Serving.{Made, ServedAll}
use Rattle.mg_serve.specs.Sessions.{session_volume, standing_of}
use Rattle.mg_serve.proofs.Pieces.{match_err}
use Rattle.mg_serve.proofs.ServingLemmas.{all_given, broke_on, few_given, next_given, served_on}
use Rattle.mg_serve.proofs.serving.serve_all.Goals as goal

pub serve-requires-clause-reached : goal.serve-requires-clause-reached
serve-requires-clause-reached g c =
    let lines = c.loop-line.yielded in
    let begun = c.requires.stands in
    let so_far = c.loop-line.invariant.served begun.0 0 begun.1 in
    record {
      basis = begun.0;
      lines = lines;
      answers = so_far.answers;
      at = so_far.made.stands;
      few = few_given c.args.lines.items lines c.in-Some.line (into_iter_items c.next.new.self) c.requires.few
          (next_given c.args.lines.items c.into_iter-line-iterator.result lines c.loop-line.line-iterator c.next.new.self c.in-Some.line c.into_iter-line-iterator.ensures.into_iter_gives.0 c.loop-line.yielded_by c.in-Some.ensures.steps.0);
    }

pub loop-line-preserved : goal.loop-line-preserved
loop-line-preserved g c = record {
  next = tt;
  finite = tt;
  parts = c.in_ok-serve.ensures.parts ∙ c.loop-line.invariant.parts;
  served = λ basis opening begun.
      let lines = c.loop-line.yielded in
      let so_far = c.loop-line.invariant.served basis opening begun in
      let few : length lines < line_limit = few_given c.args.lines.items lines c.in-Some.line (into_iter_items c.next.new.self) c.requires.few
      (next_given c.args.lines.items c.into_iter-line-iterator.result lines c.loop-line.line-iterator c.next.new.self c.in-Some.line c.into_iter-line-iterator.ensures.into_iter_gives.0 c.loop-line.yielded_by c.in-Some.ensures.steps.0) in
      served_on basis lines c.in-Some.line _ _ opening _ _ _ _ _ _ _ _ _ _ _ _ _ _ so_far (c.in_ok-serve.ensures.served basis lines so_far.answers so_far.made.stands few) c.in_ok-serve.ensures.good;
}

pub returns-in_err-serve-clause-later : goal.returns-in_err-serve-clause-later
returns-in_err-serve-clause-later g c =
    let begun = c.requires.stands in
    omega (arith, c.in_err-serve.ensures.later, (c.loop-line.invariant.served begun.0 0 begun.1).sink)

pub returns-in_err-serve-clause-served : goal.returns-in_err-serve-clause-served
returns-in_err-serve-clause-served g c = λ basis opening begun.
    let lines = c.loop-line.yielded in
    let so_far = c.loop-line.invariant.served basis opening begun in
    let split = next_given c.args.lines.items c.into_iter-line-iterator.result lines c.loop-line.line-iterator c.next.new.self c.in-Some.line c.into_iter-line-iterator.ensures.into_iter_gives.0 c.loop-line.yielded_by c.in-Some.ensures.steps.0 in
    let few : length lines < line_limit = few_given c.args.lines.items lines c.in-Some.line (into_iter_items c.next.new.self) c.requires.few split in
    match_err c.from_residual.result c.in_err-serve.field-0.0 _ _ c.from_residual.ensures.1
    (broke_on basis c.args.lines.items lines (into_iter_items c.next.new.self) c.in-Some.line _ _ opening _ _ _ _ _ _ _ _ _ _ _ _ _ _ c.in_err-serve.field-0.0 split so_far
    (c.in_err-serve.ensures.served basis lines so_far.answers so_far.made.stands few))

pub returns-clause-served : goal.returns-clause-served
returns-clause-served g c = λ basis opening begun.
    let all : c.loop-line.yielded ≡ c.args.lines.items = all_given c.args.lines.items c.into_iter-line-iterator.result c.loop-line.yielded c.loop-line.line-iterator c.into_iter-line-iterator.ensures.into_iter_gives.0 c.loop-line.yielded_by c.in-None.ensures.steps.0 in
    subst (λ lines. ServedAll lines (g.K.Sink.written c.args.out.now) (g.K.Sink.written c.loop-line.out) (g.K.Sink.faults c.args.out.now) (g.K.Sink.faults c.loop-line.out)
    (λ lines answers. Made basis lines answers (standing_of c.loop-line.session) opening (g.V.Volume.faults (session_volume c.args.session.now)) (g.V.Volume.faults (session_volume c.loop-line.session))
    g.V.Volume.tells (standing_of c.args.session.now).book (g.V.Volume.view (session_volume c.args.session.now)) (g.V.Volume.view (session_volume c.loop-line.session)))) all
    (c.loop-line.invariant.served basis opening begun)
