use Rattle.std.proofs.Common.{◌≡◌, ◌+◌, ◌≤◌, ◌++◌, List, length, None}
use Rattle.std.specs.List.{AllByRecursion}
use Rattle.mg_records.specs.File.{block_of, record_of}
use Rattle.mg_records.specs.Lookup.{IsWithin, bound_after, low_after}
use Rattle.mg_records.specs.Record.{IsRecord}
use Rattle.mg_records.proofs.block.find_in_block.Given as goal

-- the body is records so far, which are right and none of which is the sought one, and then the rest
abbrev pub invariant-loop-rest : goal.invariant-loop-rest
invariant-loop-rest g l = (1 ≤ l.low) × (front : List g.row.R.Denot) × AllByRecursion (IsRecord g.R.Record.kind) front
    × IsWithin g.R.Record.kind l.span.first (l.span.first + 1) l.span.end front × (l.body ≡ block_of g.R.Record.kind front ++ l.rest)
    × (l.low ≡ low_after g.R.Record.kind l.span.first front) × (l.bound ≡ bound_after (l.span.first + 1) l.span.end front) × (record_of g.R.Record.kind l.number front ≡ None)

abbrev pub decreases-loop-rest : goal.decreases-loop-rest
decreases-loop-rest g l = length l.rest
