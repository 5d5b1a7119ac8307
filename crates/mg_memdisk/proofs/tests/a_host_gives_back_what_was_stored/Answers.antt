use Rattle.mg_memdisk.proofs.tests.a_host_gives_back_what_was_stored.Goals as goal

pub fill_third-requires-clause-here : goal.fill_third-requires-clause-here
fill_third-requires-clause-here g c = c.new-host.ensures.inside 3
