-- What a volume in a real folder knows of its files and logs.
use Rattle.std.specs.Prelude.{ℕ, Bool, Option, option_map, List, [], ◌∷◌}
use Rattle.std.specs.BTreeMap.{BTreeMap, get}
use Rattle.std.specs.BTreeSet.{BTreeSet, contains}
use Rattle.std.specs.Ordering.{nat_cmp}
use Rattle.mg_types.specs.contracts.names.NameOrd.TheImpl as names
use Rattle.mg_types.specs.declared.names.Name.{Name}
use Rattle.mg_realdisk.specs.declared.opened.FileNumber.{FileNumber}

-- what a file is known by
abbrev pub number_list : FileNumber → List ℕ
number_list number = number.device ∷ number.inode ∷ []

-- what the file is known by that stands under a name
abbrev pub known_number : BTreeMap Name FileNumber → Name → Option (List ℕ)
known_number known name = option_map number_list (get names.ghosts.cmp known name)

-- whether the log with that name is in writing
abbrev pub has_in_writing : BTreeSet Name → Name → Bool
has_in_writing writing name = contains names.ghosts.cmp writing name

-- whether the volume is lent
abbrev pub is_lent : BTreeSet ℕ → ℕ → Bool
is_lent lent n = contains nat_cmp lent n
