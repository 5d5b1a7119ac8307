-- What memtables have over the older items below them. A memtable of an interval has the newest item of each key there, `fresh`.
use Rattle.std.specs.Prelude.{ℕ, List, [], ◌∷◌, ◌++◌, length, Bool, not, Option}
use Rattle.std.specs.List.{filter, find, fold, list_any}
use Rattle.std.specs.Str.{bytes_eq}
use Rattle.mg_types.specs.declared.items.Item.{Item}
use Rattle.mg_types.specs.declared.keys.Key.{Key}
use Rattle.mg_model.specs.Mutations.{Mutations}
use Rattle.mg_core.specs.Reads.{first_of_two}
use Rattle.mg_core.specs.Results.{fresh}

-- the first of some items that has this key
abbrev pub item_of_key : List Item → Key → Option Item
item_of_key items key = find (λ i. bytes_eq i.key key) items

-- whether one of some items has this key
abbrev pub has_key : List Item → Key → Bool
has_key items key = list_any (λ i. bytes_eq i.key key) items

-- newer items over older ones: the older ones of other keys, and behind them the newer ones
abbrev pub laid_over : List Item → List Item → List Item
laid_over older newer = filter (λ i. not (has_key newer i.key)) older ++ newer

-- What the memtables of a list have, from the oldest: the first begins above `lo`, the frozen ones end at these places, and the last
-- one, which takes writes, ends with the list.
abbrev pub memtables_of : Mutations → ℕ → List ℕ → List (List Item)
memtables_of m lo [] = fresh m lo (length m) ∷ []
memtables_of m lo (hi ∷ ends) = fresh m lo hi ∷ memtables_of m hi ends

-- some memtables, from the oldest, over older items
abbrev pub all_laid_over : List Item → List (List Item) → List Item
all_laid_over older memtables = fold laid_over older memtables

-- what the newest of some memtables that has a key has of it, and else what is below them
abbrev pub looked_up : Key → Option Item → List (List Item) → Option Item
looked_up key below memtables = fold (λ older items. first_of_two (item_of_key items key) older) below memtables
