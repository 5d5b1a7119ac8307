-- Pieces of a log, while they are put together from what happened.
use Rattle.std.specs.Prelude.{◌≡◌, ◌-◌, ℕ, List, length, take, drop}
use Rattle.mg_memdisk.specs.declared.pieces.Piece.{Piece}
use Rattle.mg_memdisk.specs.declared.pieces.Wanted.{Wanted}

-- the wanted bytes of a log
abbrev pub wanted_of : Wanted → List ℕ → List ℕ
wanted_of wanted log = take wanted.most (drop wanted.at log)

-- The piece has the wanted bytes of what has gone by, and counts how many more would stand before them.
pub record Takes (wanted : Wanted) (gone : List ℕ) (piece : Piece) : Type 0 where
  pub items : piece.items.items ≡ wanted_of wanted gone
  pub before : piece.before ≡ wanted.at - length gone
