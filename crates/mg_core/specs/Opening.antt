-- The mutation list to which a layout opens.
use Rattle.std.specs.Prelude.{ℕ, zero, suc, ◌+◌, List, [], ◌∷◌, ◌++◌, map, ◌==◌, Option}
use Rattle.std.specs.Option.{option_map}
use Rattle.std.specs.List.{filter, find}
use Rattle.mg_types.specs.declared.items.Item.{Item}
use Rattle.mg_model.specs.declared.mutations.Mutation.{Mutation}
use Rattle.mg_model.specs.Mutations.{Mutations}
use Rattle.mg_model.specs.State.{State}
use Rattle.mg_core.specs.Lists.{occurs}
use Rattle.mg_core.specs.Layouts.{Layout, entries_of, records_of}

-- the records of a layout that have the number of an entry
abbrev pub entered_records : Layout → List Item
entered_records l = filter (λ r. occurs (λ e. e.seq) (entries_of l.runs) r.seq) (records_of l.segments)

-- the mutation that the first of some records with this number has
abbrev pub mutation_at : List Item → ℕ → Option Mutation
mutation_at records n = option_map (λ r. record { key = r.key; doc = r.doc }) (find (λ r. r.seq == n) records)

-- so many places from the number n on, each with the mutation of the first record of its number, or empty
abbrev pub places_from : List Item → ℕ → ℕ → Mutations
places_from records n zero = []
places_from records n (suc count) = mutation_at records n ∷ places_from records (n + 1) count

-- a list of this length, whose places hold the first record of their number
abbrev pub opened : List Item → ℕ → Mutations
opened records length = places_from records 1 length

-- the records that the entries of some layouts name, from the last layout to the first
abbrev pub records_back : List (ℕ × Layout) → List Item
records_back [] = []
records_back (k ∷ kept) = records_back kept ++ entered_records k.1

-- the records from which a list is opened: those of the present layout, and behind them those of the layouts of marks
abbrev pub opened_records : Layout → List (ℕ × Layout) → List Item
opened_records l kept = entered_records l ++ records_back kept

-- A state of this length and epoch as it is opened from the present layout and from those of its marks, which rise, each layout
-- beside its mark. A place holds what the present layout's entries name, and else what those of the greatest mark's layout do.
abbrev pub opened_state : Layout → List (ℕ × Layout) → ℕ → ℕ → State
opened_state l kept length epoch = record { mutations = opened (opened_records l kept) length; marks = map (λ k. k.0) kept; epoch = epoch }
