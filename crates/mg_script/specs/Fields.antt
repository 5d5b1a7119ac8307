-- What is left of a line, as its fields.
use Rattle.std.specs.Prelude.{ℕ, List, [], Option, None, Some, ◌==◌}
use Rattle.std.specs.Borrow.{Bor}
use Rattle.std.specs.List.{slice_split}

-- the fields of what is left of a line; behind the last field there are none
abbrev pub fields_left : Option (Bor (List ℕ)) → List (List ℕ)
fields_left None = []
fields_left (Some rest) = slice_split (λ b. b == 32) rest.now
