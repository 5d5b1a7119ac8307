-- Keys as first keys, in tables.
use Rattle.std.specs.Prelude.{◌≡◌, ℕ, ◌<◌, ◌≤◌, ◌^◌, List, [], length}
use Rattle.std.specs.Cmp.Lexicographic.{slice_cmp}
use Rattle.std.specs.Ordering.{nat_cmp}
use Rattle.std.specs.declared.cmp.Ordering.TheVariants.{Less}
use Rattle.mg_frame.specs.BigEndian.{counted}
use Rattle.mg_types.specs.declared.faults.Fault.TheVariants.{Malformed}
use Rattle.mg_indexed.specs.Keys.{Keys}

-- a block with this first key may stand behind one with the first key `previous`
abbrev pub MayFollow : List ℕ → List ℕ → Type 0
MayFollow previous key = (slice_cmp nat_cmp previous key ≡ Less) × (length key ≤ 250)

-- keys of at most 250 bytes that rise byte by byte, each behind its length
abbrev pub table_keys : Keys (List ℕ)
table_keys = record {
  bytes = λ key. counted 1 key;
  fits = λ key. length key < 2 ^ 8;
  lowest = [];
  before = λ key other. slice_cmp nat_cmp key other ≡ Less;
  follows = MayFollow;
  refused = λ id at previous key fault. (MayFollow previous key → ⊥) × (fault ≡ Malformed id at);
}
