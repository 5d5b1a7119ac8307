use Rattle.std.proofs.Common.{subst}
use Rattle.mg_script.specs.Transcript.{answer_line}
use Rattle.mg_serve.specs.Writing.{Wrote}
use Rattle.mg_serve.proofs.session.Session.serve.Goals as goal

pub returns-clause-served : goal.returns-clause-served
returns-clause-served g c = λ basis lines answers at few.
    let next = c.answer-number.ensures.answered basis lines answers at few in
    record {
      answer = c.answer-number.result.1;
      stands = next.stands;
      cause = c.answer-number.ensures.cause;
      once = c.answer-number.ensures.once;
      text = subst (λ n. Wrote (g.K.Sink.written c.args.out.now) (g.K.Sink.written c.write_answer.new.out) (g.K.Sink.faults c.args.out.now) (g.K.Sink.faults c.write_answer.new.out)
          (answer_line c.args.line.client n c.args.line.part c.answer-number.result.1) c.write_answer.result) next.numbered c.write_answer.ensures.wrote;
      keeps = λ tells opening holds. c.answer-number.ensures.holds tells basis lines answers opening at holds;
    }
