-- A short list and layouts of it, worked out by hand.
use Rattle.std.specs.Prelude.{[], ◌∷◌, map, None, Some}
use Rattle.mg_types.specs.declared.items.Item.{Item}
use Rattle.mg_types.specs.declared.keys.Key.{Key}
use Rattle.mg_model.specs.Mutations.{Mutations}
use Rattle.mg_core.specs.Layouts.{Layout, dead_of, entry_of}
use Rattle.mg_core.specs.Results.{with_clean, with_merge}

-- two keys
abbrev pub key_a : Key
key_a = 97 ∷ []

abbrev pub key_b : Key
key_b = 98 ∷ []

-- a write of one key, one of the other, and again one of the first
abbrev pub first : Item
first = record { seq = 1; key = key_a; doc = Some (1 ∷ []) }

abbrev pub second : Item
second = record { seq = 2; key = key_b; doc = Some (2 ∷ []) }

abbrev pub third : Item
third = record { seq = 3; key = key_a; doc = Some (3 ∷ []) }

-- the list of these
abbrev pub three_writes : Mutations
three_writes = map (λ i. Some (record { key = i.key; doc = i.doc })) (first ∷ second ∷ third ∷ [])

-- the layout after a flush of the first two and one of the third
abbrev pub two_runs : Layout
two_runs = record {
  runs = record { lo = 2; hi = 3; entries = entry_of third ∷ [] } ∷ record { lo = 0; hi = 2; entries = entry_of first ∷ entry_of second ∷ [] } ∷ [];
  segments = (first ∷ second ∷ []) ∷ (third ∷ []) ∷ [];
  deletes = [];
}

-- the layout after a merge of both runs
abbrev pub one_run : Layout
one_run = with_merge two_runs [] (record { lo = 0; hi = 3; entries = entry_of third ∷ entry_of second ∷ [] }) [] (dead_of (entry_of first) ∷ [])

-- the layout after a cleaning of the newer segment, in which the delete entry finds no record
abbrev pub half_cleaned : Layout
half_cleaned = with_clean one_run ((first ∷ second ∷ []) ∷ []) (third ∷ []) [] (dead_of (entry_of first) ∷ []) []

-- a layout with one mutation alone
abbrev pub only : Item → Layout
only i = record { runs = record { lo = 0; hi = i.seq; entries = entry_of i ∷ [] } ∷ []; segments = (i ∷ []) ∷ []; deletes = [] }

-- a delete of the other key, at the place of the first write
abbrev pub other : Item
other = record { seq = 1; key = key_b; doc = None }
