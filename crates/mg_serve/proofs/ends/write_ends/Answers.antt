use Rattle.mg_recover.specs.Stores.{partitions_of}
use Rattle.mg_serve.specs.Serving.{partition_end, partition_ends, BrokeInEnds}
use Rattle.mg_serve.proofs.Pieces.{match_err, stops_behind}
use Rattle.mg_serve.proofs.ends.write_ends.Goals as goal

pub returns-in_err-write_end-clause-wrote : goal.returns-in_err-write_end-clause-wrote
returns-in_err-write_end-clause-wrote g c =
    let so_far = c.loop-part.invariant in
    let partitions = partitions_of c.args.store.now in
    match_err c.from_residual.result c.in_err-write_end.field-0.0 _ (BrokeInEnds partitions c.args.parts _ _ _ _) c.from_residual.ensures.1 (record {
      part = c.loop-part.part;
      within = c.loop-part-test.true;
      text = stops_behind (partition_ends partitions c.loop-part.part) (partition_end partitions c.loop-part.part) _ _ _ _ _ _ c.in_err-write_end.field-0.0 so_far.text so_far.same c.in_err-write_end.ensures.wrote;
    })
