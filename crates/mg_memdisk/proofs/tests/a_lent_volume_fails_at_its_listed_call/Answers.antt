use Rattle.mg_memdisk.proofs.tests.a_lent_volume_fails_at_its_listed_call.Goals as goal

pub put-requires-clause-here : goal.put-requires-clause-here
put-requires-clause-here g c = c.new-host.ensures.inside 3
