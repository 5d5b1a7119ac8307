use Rattle.mg_bench.proofs.script.run.Goals as goal

pub alone-ran-requires : goal.alone-ran-requires
alone-ran-requires c = c.new-host.ensures.inside 65535
