use Rattle.std.proofs.Common.{◌≡◌, ◌+◌, ◌≤◌, ◌++◌, List, length}
use Rattle.std.specs.List.{AllByRecursion}
use Rattle.std.specs.Prelude.{filter, nat_lt}
use Rattle.mg_records.specs.File.{block_of}
use Rattle.mg_records.specs.Lookup.{IsWithin, bound_after, low_after}
use Rattle.mg_records.specs.Record.{IsRecord}
use Rattle.mg_records.proofs.block.scan_block.Given as goal

-- the body is records so far, which are right and whose greater ones were appended, and then the rest
abbrev pub invariant-loop-rest : goal.invariant-loop-rest
invariant-loop-rest g l = (1 ≤ l.low) × (front : List g.row.R.Denot) × AllByRecursion (IsRecord g.R.Record.kind) front
    × IsWithin g.R.Record.kind l.span.first (l.span.first + 1) l.span.end front × (l.body ≡ block_of g.R.Record.kind front ++ l.rest)
    × (l.low ≡ low_after g.R.Record.kind l.span.first front) × (l.bound ≡ bound_after (l.span.first + 1) l.span.end front)
    × (l.records.items ≡ l.initial.records.items ++ filter (λ it. nat_lt l.after (g.R.Record.kind.seq it)) front)

abbrev pub decreases-loop-rest : goal.decreases-loop-rest
decreases-loop-rest g l = length l.rest
