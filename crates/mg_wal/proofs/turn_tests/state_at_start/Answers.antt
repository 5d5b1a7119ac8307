use Rattle.std.proofs.Common.{rules, refl, sym, ◌∙◌}
use Rattle.mg_wal.specs.Openings.{basis_for}
use Rattle.mg_wal.specs.States.{book_of}
use Rattle.mg_wal.proofs.StartLaws.{stands_at_start}
use Rattle.mg_wal.proofs.turn_tests.state_at_start.Goals as goal

pub volume-requires-clause-here : goal.volume-requires-clause-here
volume-requires-clause-here c = c.new-host.ensures.inside 3

pub returns : goal.returns
returns c =
    let found = c.in-Ok.found in
    let records = sym c.deref.ensures.value in
    let low = sym c.deref-2.ensures.value in
    let is = (λ i. basis_for (book_of found.0) (records i) (low i)) ∙ c.found_nothing.ensures (search rules) in
    stands_at_start _ _ _ _ _ is c.in-Ok.ensures.stands c.in-Ok.ensures.fresh.2 (sym c.in_ok-vol.ensures.lent.moment) (c.in-Ok.ensures.since refl)
