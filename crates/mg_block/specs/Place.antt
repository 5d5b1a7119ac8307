-- Where a key stands beside a sought one.
use Rattle.std.specs.Prelude.{◌≡◌, ℕ, List}
use Rattle.mg_block.specs.Block.{Precedes, shared_len}
use Rattle.mg_block.specs.declared.lookup.Place.{Place}
use Rattle.mg_block.specs.declared.lookup.Place.TheVariants.{Below, Here, Above}

-- the key is below, and shares so many bytes with the sought one; it is the sought one; it is above
abbrev pub StandsAt : Place → List ℕ → List ℕ → Type 0
StandsAt (Below matched) key sought = Precedes key sought × (matched ≡ shared_len key sought)
StandsAt Here key sought = key ≡ sought
StandsAt Above key sought = Precedes sought key
