use Rattle.std.proofs.Common.{length, take}
use Rattle.std.specs.List.{concat}
use Rattle.mg_bloom.specs.Bloom.{bit_count, IsBitCountFor}
use Rattle.mg_bloom.specs.Folding.{HasBitsOf}
use Rattle.mg_table.specs.Table.{hashed_keys}
use Rattle.mg_table.proofs.filters.filter_of.Given as goal

-- the filter has the size for all keys, and the bits of those so far
abbrev pub invariant-loop-entry : goal.invariant-loop-entry
invariant-loop-entry l = IsBitCountFor (length l.entries) (bit_count l.filter) × HasBitsOf l.filter (concat (hashed_keys (take l.entry-index l.entries)))
