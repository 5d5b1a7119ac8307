-- The words of a command line.
use Rattle.std.specs.Prelude.{ℕ, List, [], ◌∷◌, length, slice_index, Bool, false, not, ◌&&◌, ◌==◌, nat_lt, codes}
use Rattle.std.specs.Str.{bytes_eq}
use Rattle.std.specs.String.{string_bytes}
use Rattle.std.specs.declared.string.String.{String}
use Rattle.std.specs.Global.{Global}

-- a folder's name: not empty, and not beginning with a dash
abbrev pub is_folder : List ℕ → Bool
is_folder name = nat_lt 0 (length name) && not (slice_index name 0 == 45)

-- whether the words are a folder and `alone`
abbrev pub are_alone_words : List (String Global) → Bool
are_alone_words [] = false
are_alone_words (folder ∷ []) = false
are_alone_words (folder ∷ command ∷ []) = is_folder (string_bytes folder) && bytes_eq (string_bytes command) (codes "alone")
are_alone_words (folder ∷ command ∷ word ∷ words) = false
