use Rattle.mg_memdisk.proofs.client_tests.stored_and_left.Goals as goal

pub put-requires-clause-here : goal.put-requires-clause-here
put-requires-clause-here c = c.new-host.ensures.inside 3
