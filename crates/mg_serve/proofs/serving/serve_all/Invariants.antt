use Rattle.std.proofs.Common.{◌≡◌, ℕ, []}
use Rattle.mg_serve.specs.Serving.{Made, ServedAll}
use Rattle.mg_serve.specs.Sessions.{session_volume, standing_of, StandsAt}
use Rattle.mg_wal.specs.Book.{parts_in}
use Rattle.mg_wal.specs.Lists.{Basis}
use Rattle.mg_serve.proofs.serving.serve_all.Given as goal

abbrev pub invariant-loop-line : goal.invariant-loop-line
invariant-loop-line g l = record {
  next : (goal.iterator-loop-line g).can_next l.line-iterator;
  finite : (goal.iterator-loop-line g).is_finite l.line-iterator;
  parts : parts_in (standing_of l.session).book ≡ parts_in (standing_of l.fn.session).book;
  served : (basis : Basis) (opening : ℕ) → StandsAt basis [] [] (standing_of l.fn.session)
      → ServedAll l.yielded (g.K.Sink.written l.fn.out) (g.K.Sink.written l.out) (g.K.Sink.faults l.fn.out) (g.K.Sink.faults l.out)
      (λ lines answers. Made basis lines answers (standing_of l.session) opening (g.V.Volume.faults (session_volume l.fn.session)) (g.V.Volume.faults (session_volume l.session))
      g.V.Volume.tells (standing_of l.fn.session).book (g.V.Volume.view (session_volume l.fn.session)) (g.V.Volume.view (session_volume l.session)));
}
