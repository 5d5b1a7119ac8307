use Rattle.std.proofs.Common.{◌≡◌, take}
use Rattle.mg_table.specs.Table.{sizes_of}
use Rattle.mg_table.proofs.checks.sum_of_sizes.Given as goal

-- the sum so far
abbrev pub invariant-loop-entry : goal.invariant-loop-entry
invariant-loop-entry l = l.sum ≡ sizes_of (take l.entry-index l.entries)
