-- The mutation list of a partition: what it holds, its newest mutations, its reads and its feeds.
use Rattle.std.specs.Prelude.{ℕ, ◌+◌, max, List, [], ◌∷◌, length, take, map, ◌==◌, nat_lt, Option, None, Some, unwrap_or, if◌then◌else◌}
use Rattle.std.specs.Option.{option_map_or, option_and_then, option_map}
use Rattle.std.specs.List.{filter, find, fold}
use Rattle.std.specs.Str.{bytes_eq}
use Rattle.mg_types.specs.declared.documents.Doc.{Doc}
use Rattle.mg_types.specs.declared.keys.Key.{Key}
use Rattle.mg_types.specs.declared.items.Item.{Item}
use Rattle.mg_model.specs.declared.mutations.Mutation.{Mutation}

-- a mutation list has at each place, counted from 1, a mutation, or nothing where its bytes were cleaned away
abbrev pub Mutations : Type 0
Mutations = List (Option Mutation)

-- a mutation with its number
abbrev pub item_of : ℕ → Mutation → Item
item_of n x = record { seq = n; key = x.key; doc = x.doc }

-- the mutations that the places hold, each with its number, where the first place has the number n
abbrev pub items_from : ℕ → Mutations → List Item
items_from n [] = []
items_from n (None ∷ m) = items_from (n + 1) m
items_from n (Some x ∷ m) = item_of n x ∷ items_from (n + 1) m

-- the mutations that a list holds, each with its number
abbrev pub items_of : Mutations → List Item
items_of m = items_from 1 m

-- the greatest of some numbers, if there is one
abbrev pub greatest : List ℕ → Option ℕ
greatest [] = None
greatest (n ∷ ns) = Some (option_map_or (λ k. max n k) (greatest ns) n)

-- the numbers of the mutations of a key
abbrev pub numbers_of : List Item → Key → List ℕ
numbers_of items key = map (λ i. i.seq) (filter (λ i. bytes_eq i.key key) items)

-- the greatest number of a mutation of the key, or 0 where there is none
abbrev pub newest : Mutations → Key → ℕ
newest m key = unwrap_or (greatest (numbers_of (items_of m) key)) 0

-- the newest mutation of each key, in the order of their numbers
abbrev pub live : Mutations → List Item
live m = filter (λ i. newest m i.key == i.seq) (items_of m)

-- the mutation with this number
abbrev pub item_at : Mutations → ℕ → Option Item
item_at m n = find (λ i. i.seq == n) (items_of m)

-- what a list gives of a key: its newest mutation's number and document, or nothing where that is a delete
abbrev pub read : Mutations → Key → Option (ℕ × Doc)
read m key = option_and_then (λ i. option_map (λ doc. (i.seq, doc)) i.doc) (item_at m (newest m key))

-- the first n of some items among those above the number s
abbrev pub feed_of : List Item → ℕ → ℕ → List Item
feed_of items s n = take n (filter (λ i. nat_lt s i.seq) items)

-- the number of the last item, or e where there is none
abbrev pub last_seq : List Item → ℕ → ℕ
last_seq items e = fold (λ _ i. i.seq) e items

-- where a feed of at most n items after s ends that gave these: at its last item where it is full, else at the end of the list
abbrev pub end_of : List Item → ℕ → ℕ → ℕ → ℕ
end_of given end s n = if length given == n then last_seq given s else end

-- the feed of a mutation list: of its newest mutations
abbrev pub feed : Mutations → ℕ → ℕ → List Item
feed m s n = feed_of (live m) s n

-- where this feed ends
abbrev pub feed_end : Mutations → ℕ → ℕ → ℕ
feed_end m s n = end_of (feed m s n) (length m) s n

-- a list that holds a mutation at each place
abbrev pub held : List Mutation → Mutations
held mutations = map (λ x. Some x) mutations
