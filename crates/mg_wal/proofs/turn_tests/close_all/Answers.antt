use Rattle.mg_wal.proofs.StartLaws.{only_of_three}
use Rattle.mg_wal.proofs.turn_tests.close_all.Goals as goal

pub returns : goal.returns
returns c =
    let end = c.close-named.ensures in
    only_of_three _ _ _ _ _ _ _ _ _ c.requires.rest c.requires.one c.requires.two c.meet.ensures.pass c.meet-2.ensures.pass end.stands.3 end.stands.1 end.calls end.counted
