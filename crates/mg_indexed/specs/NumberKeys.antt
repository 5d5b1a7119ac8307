-- Sequence numbers as first keys, in files of records.
use Rattle.std.specs.Prelude.{◌≡◌, ℕ, ◌<◌, ◌≤◌, ◌^◌, ◌⊎◌, [], ◌∷◌}
use Rattle.mg_frame.specs.BigEndian.{big_endian}
use Rattle.mg_types.specs.declared.faults.Fault.TheVariants.{Malformed}
use Rattle.mg_sealed.specs.Numbers.{IsTooGreat}
use Rattle.mg_indexed.specs.Keys.{Keys}

-- numbers from 1 on that rise and are below 2 ^ 62
abbrev pub number_keys : Keys ℕ
number_keys = record {
  bytes = λ number. big_endian 8 number;
  fits = λ number. number < 2 ^ 64;
  lowest = 0;
  before = λ number other. number < other;
  follows = λ previous number. (number < 2 ^ 62) × (previous < number);
  refused = λ id at previous number fault.
      IsTooGreat id at (number ∷ []) fault ⊎ ((number < 2 ^ 62) × (number ≤ previous) × (fault ≡ Malformed id at));
}
