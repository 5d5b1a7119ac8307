use Rattle.std.proofs.Common.{◌∙◌, ap, arith}
use Rattle.mg_serve.specs.Placed.{placed_of}
use Rattle.mg_serve.specs.Statuses.{graver}
use Rattle.mg_serve.proofs.Holding.{holds_next}
use Rattle.mg_serve.proofs.Standing.{line_fault, next_answer, places_few}
use Rattle.mg_serve.proofs.session.Session.answer.Goals as goal

pub call-answer-requires-clause-few : goal.call-answer-requires-clause-few
call-answer-requires-clause-few g c =
    let it = c.requires.reached in
    omega (arith, it.at.stands.places c.args.line.part c.requires.form.part, places_few it.lines it.answers c.args.line.part, it.few)

pub returns-clause-answered : goal.returns-clause-answered
returns-clause-answered g c = λ basis lines answers at few.
    next_answer basis lines answers c.args.line c.from-client.result _ (record { book = _; partitions = _; counts = c.args.self.now.counts; status = c.args.self.now.status }) _ _ c.graver_of-self.result at few c.requires.form.call
    (c.call-answer.ensures.answered basis (placed_of lines answers) c.args.line.client at.stands)
    c.call-answer.ensures.tries
    c.from-client.ensures
    (omega (arith, c.requires.form.client, c.from-client.ensures))
    (c.graver_of-self.ensures ∙ ap (graver c.args.self.now.status) c.status_of_result.ensures)

pub returns-clause-holds : goal.returns-clause-holds
returns-clause-holds g c = λ tells basis lines answers opening at holds.
    holds_next basis lines answers c.args.line _ opening _ _ _ _ _ at.fit
    (c.call-answer.ensures.answered basis (placed_of lines answers) c.args.line.client at.stands)
    (c.call-answer.ensures.reaches tells basis (placed_of lines answers) c.args.line.client at.stands)
    (g.met.V.Volume.only_now tells _)
    holds

pub returns-clause-fault : goal.returns-clause-fault
returns-clause-fault g c =
    let it = c.requires.reached in
    line_fault it.basis (placed_of it.lines it.answers) c.args.line _ _ _ _ (c.call-answer.ensures.answered it.basis (placed_of it.lines it.answers) c.args.line.client it.at.stands)
