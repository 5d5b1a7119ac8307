use Rattle.std.proofs.Common.{◌≡◌, ◌≤◌, ◌++◌, List, length, drop, IfSome}
use Rattle.std.specs.Prelude.{filter, nat_lt, IsSome}
use Rattle.mg_faults.specs.Causes.{last_count}
use Rattle.mg_sealed.specs.Filling.{items_of}
use Rattle.mg_records.specs.Writing.{Represents}
use Rattle.mg_records.proofs.ListingLaws.{IsListedUpTo}
use Rattle.mg_records.proofs.LookupLaws.{IsBehind}
use Rattle.mg_records.proofs.file.RecordFile.scan.Given as goal

-- the records above `after` are those so far and those of the blocks that are left, and those so far are of the blocks that were read
abbrev pub invariant-loop-block : goal.invariant-loop-block
invariant-loop-block g l = ((g.F.Files.faults l.port ≡ g.F.Files.faults l.initial.port) × (g.F.Files.faults l.initial.port ≤ last_count))
    × (IsSome (g.F.Files.told l.self.file.file) → (all : List g.row.R.Denot) → (holds : Represents g.R.Record.kind g.F.Files.told l.self all)
    → (l.records.items ++ filter (λ it. nat_lt l.after (g.R.Record.kind.seq it)) (items_of (drop l.block holds.blocks)) ≡ filter (λ it. nat_lt l.after (g.R.Record.kind.seq it)) all)
    × IsBehind g.R.Record.kind holds.blocks l.start l.block l.before l.last)
    × IfSome (g.F.Files.told l.self.file.file) (λ bytes. l.self.file.len ≡ length bytes → IsListedUpTo g.R.Record.kind bytes l.self l.after l.start l.block l.records.items l.before l.last)
