use Rattle.std.proofs.Common.{◌≡◌, ◌-◌, ◌^◌, min, take}
use Rattle.std.specs.Prelude.{sum_by}
use Rattle.mg_records.proofs.lookup.sum_of_sizes.Given as goal

abbrev pub invariant-loop-it : goal.invariant-loop-it
invariant-loop-it g l = l.sum ≡ min (sum_by g.R.Record.kind.size (take l.it-index l.records)) (2 ^ 64 - 1)
