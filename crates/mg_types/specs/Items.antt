-- Sizes of mutations, and what files may have of them.
use Rattle.std.specs.Prelude.{ℕ, ◌+◌, length, Bool}
use Rattle.std.specs.Option.{option_map_or, is_some}
use Rattle.mg_types.specs.declared.documents.Doc.{Doc}
use Rattle.mg_types.specs.declared.items.Dead.{Dead}
use Rattle.mg_types.specs.declared.items.Entry.{Entry}
use Rattle.mg_types.specs.declared.items.Item.{Item}
use Rattle.mg_types.specs.Limits.{IsSeq, IsSize}

-- the bytes of an item's document; a delete has none
abbrev pub doc_size : Item → ℕ
doc_size i = option_map_or (λ (doc : Doc). length doc) i.doc 0

-- the bytes of an item: of its key and of its document
abbrev pub size_of : Item → ℕ
size_of i = length i.key + doc_size i

-- whether an item is a set
abbrev pub is_set : Item → Bool
is_set i = is_some i.doc

-- a file may have this entry of the index
abbrev pub IsEntry : Entry → Type 0
IsEntry entry = IsSeq entry.seq × IsSize entry.size

-- a file may have this entry of a delete list
abbrev pub IsDead : Dead → Type 0
IsDead dead = IsSeq dead.seq × IsSize dead.size
