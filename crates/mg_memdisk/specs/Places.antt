-- Where a host in memory keeps volume n.
use Rattle.std.specs.Prelude.{ℕ, Bool, ◌==◌, ◌||◌, if◌then◌else◌, nat_lt}

-- the place of volume n among 65, the last of which is the shared log's
abbrev pub place_of : ℕ → ℕ
place_of n = if nat_lt n 64 then n else 64

-- whether there is a volume n
abbrev pub is_volume : ℕ → Bool
is_volume n = nat_lt n 64 || (n == 65535)
