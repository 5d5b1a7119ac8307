use Rattle.std.proofs.Common.{◌≡◌, drop}
use Rattle.mg_wal_format.specs.Faults.{numbers_fault}
use Rattle.mg_wal_format.proofs.head.head_fault.Given as goal

-- what is wrong with the numbers that are left is what is wrong with all
abbrev pub invariant-loop-number : goal.invariant-loop-number
invariant-loop-number l = numbers_fault l.file 0 (drop l.number-index l.head.before) ≡ numbers_fault l.file 0 l.head.before
