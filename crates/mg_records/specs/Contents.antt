-- What stands behind the number of a record: its kind, its key, and the document of a set.
use Rattle.std.specs.Prelude.{ℕ, ◌+◌, List, [], ◌++◌, length, Option, None, Some, IfSome}
use Rattle.std.specs.Option.{option_map_or}
use Rattle.mg_frame.specs.BigEndian.{big_endian, counted}
use Rattle.mg_types.specs.Bytes.{IsKey, IsDoc}

-- 1 for a set, and 2 for a delete, which has no document
abbrev pub kind_of : Option (List ℕ) → ℕ
kind_of None = 2
kind_of (Some doc) = 1

-- a document after its count of 4 bytes; nothing for a delete
abbrev pub doc_part : Option (List ℕ) → List ℕ
doc_part None = []
doc_part (Some doc) = counted 4 doc

-- the kind in a byte, the key after its count of one byte, and the document
abbrev pub contents : List ℕ → Option (List ℕ) → List ℕ
contents key doc = big_endian 1 (kind_of doc) ++ (counted 1 key ++ doc_part doc)

-- a key and a document that are not too long
pub record AreContents (key : List ℕ) (doc : Option (List ℕ)) : Type 0 where
  pub key_fits : IsKey key
  pub doc_fits : IfSome doc (λ d. IsDoc d)

-- the bytes of key and document
abbrev pub contents_size : List ℕ → Option (List ℕ) → ℕ
contents_size key doc = length key + option_map_or (λ (d : List ℕ). length d) doc 0
