-- Bytes that are there or not.
use Rattle.std.specs.Prelude.{ℕ, Option, option_map, List, Vec}
use Rattle.std.specs.declared.alloc.Global.{Global}

-- the bytes in the list, where there is one
abbrev pub items_of : Option (Vec ℕ Global) → Option (List ℕ)
items_of list = option_map (λ bytes. bytes.items) list
