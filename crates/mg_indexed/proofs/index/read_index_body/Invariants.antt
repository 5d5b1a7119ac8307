use Rattle.std.proofs.Common.{◌≡◌, ◌++◌, length}
use Rattle.mg_indexed.specs.Index.{index_bytes, IsIndexFrom}
use Rattle.mg_indexed.proofs.index.read_index_body.Given as goal

-- the handles so far are right, and the rest follows them
abbrev pub invariant-loop-item : goal.invariant-loop-item
invariant-loop-item g l = record {
  right : IsIndexFrom g.K.BlockKey.keys g.T.BlockItem.form g.K.BlockKey.keys.lowest 0 l.index l.end;
  begins : l.body ≡ index_bytes g.K.BlockKey.keys l.index ++ l.rest;
}

abbrev pub decreases-loop-item : goal.decreases-loop-item
decreases-loop-item g l = length l.rest
