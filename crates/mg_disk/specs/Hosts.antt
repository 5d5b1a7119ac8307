-- What a host holds, and what lending and giving back do to it.
use Rattle.std.specs.Prelude.{◌≡◌, ◌≢◌, ◌<◌, ◌⊎◌, ℕ, Bool, true, false, IsTrue, List, Option, Some, IsSome}
use Rattle.mg_disk.specs.Images.{View}

-- the numbers of volumes: one for each partition, and one for the shared log
abbrev pub IsVolume : ℕ → Type 0
IsVolume n = (n < 64) ⊎ (n ≡ 65535)

-- all that is said of a host whose volumes are these
pub record HostState (V : Type 0) : Type 0 where
  pub settings : Option (List ℕ)
  -- which volumes are lent
  pub out : ℕ → Bool
  -- each volume that is in, as it was found or given back, where volumes tell what they hold
  pub inside : ℕ → Option V
  -- the count of faults of each volume, and the moment of its clock, when it was last lent
  pub lent_faults : ℕ → ℕ
  pub lent_moment : ℕ → ℕ

-- the same but for what is said of volume n
pub record SameButFor {V : Type 0} (n : ℕ) (old new : HostState V) : Type 0 where
  pub settings : new.settings ≡ old.settings
  pub out : (m : ℕ) → m ≢ n → new.out m ≡ old.out m
  pub inside : (m : ℕ) → m ≢ n → new.inside m ≡ old.inside m
  pub lent_faults : (m : ℕ) → m ≢ n → new.lent_faults m ≡ old.lent_faults m
  pub lent_moment : (m : ℕ) → m ≢ n → new.lent_moment m ≡ old.lent_moment m

-- volume n is out, with this count and moment
pub record Lent {V : Type 0} (n count now : ℕ) (old new : HostState V) : Type 0 where
  pub others : SameButFor n old new
  pub out : new.out n ≡ true
  pub faults : new.lent_faults n ≡ count
  pub moment : new.lent_moment n ≡ now

-- volume n is in, and is this one where volumes tell what they hold
pub record GivenBack {V : Type 0} (tells : Bool) (n : ℕ) (vol : V) (old new : HostState V) : Type 0 where
  pub others : SameButFor n old new
  pub out : new.out n ≡ false
  pub inside : IsTrue tells → new.inside n ≡ Some vol
  pub lent_faults : new.lent_faults n ≡ old.lent_faults n
  pub lent_moment : new.lent_moment n ≡ old.lent_moment n

-- this volume has the contents of the volume that was inside at n
pub record HasFound {V : Type 0} (n : ℕ) (view : V → View) (old : HostState V) (vol : V) : Type 0 where
  pub found : V
  pub was : old.inside n ≡ Some found
  pub contents : (view vol).contents ≡ (view found).contents

-- each volume that is in is inside
abbrev pub HasVolumes : {V : Type 0} → HostState V → Type 0
HasVolumes state = (n : ℕ) → IsVolume n → state.out n ≡ false → IsSome (state.inside n)
