use Rattle.std.proofs.Common.{◌≡◌, take}
use Rattle.mg_indexed.specs.Index.{index_bytes}
use Rattle.mg_indexed.proofs.index.index_body.Given as goal

abbrev pub invariant-loop-handle : goal.invariant-loop-handle
invariant-loop-handle g l = l.body.items ≡ index_bytes g.K.BlockKey.keys (take l.handle-index l.handles)
