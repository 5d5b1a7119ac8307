use Rattle.std.proofs.Common.{◌≡◌, ℕ, length}
use Rattle.mg_recover.specs.Stores.{new_partition, part_at}
use Rattle.mg_recover.proofs.replay.new_partitions.Given as goal

-- so many new partitions
abbrev pub invariant-loop : goal.invariant-loop
invariant-loop l = record { parts : length l.partitions.items ≡ l.counter; new : (part : ℕ) → part_at l.partitions.items part ≡ new_partition }
