-- Records of the shared log as bytes: the body of a record's frame.
use Rattle.std.specs.Prelude.{◌≡◌, ℕ, ◌+◌, ◌<◌, ◌^◌, List, [], ◌++◌, get_or, Option, None, Some, IfSome, ⊤}
use Rattle.mg_frame.specs.BigEndian.{big_endian, counted}
use Rattle.mg_model.specs.declared.calls.Change.{Change}
use Rattle.mg_model.specs.declared.calls.Change.TheVariants.{Set, Del, Mark, Forget, Back, Clear}
use Rattle.mg_types.specs.Bytes.{IsKey, IsDoc}
use Rattle.mg_wal_format.specs.declared.record.Rec.{Rec}

-- What was found is the value whose spelling the bytes are, if one that fits has it, and nothing else.
abbrev pub IsReading : {X : Type 0} → (X → Type 0) → (X → List ℕ) → List ℕ → Option X → Type 0
IsReading Fits spelling bytes found = IfSome found (λ x. Fits x × (bytes ≡ spelling x)) × ((x : _) → Fits x → bytes ≡ spelling x → found ≡ Some x)

-- the byte that spells a kind of change
abbrev pub change_code : Change → ℕ
change_code (Set key doc) = 1
change_code (Del key) = 2
change_code Mark = 3
change_code (Forget mark) = 4
change_code (Back mark) = 5
change_code Clear = 6

-- what stands behind the kind: of a set key and document, of a delete the key, of a forget and a rollback the mark in 8 bytes
abbrev pub change_rest : Change → List ℕ
change_rest (Set key doc) = counted 1 key ++ counted 4 doc
change_rest (Del key) = counted 1 key
change_rest Mark = []
change_rest (Forget mark) = big_endian 8 mark
change_rest (Back mark) = big_endian 8 mark
change_rest Clear = []

-- a change: its kind in a byte, and what stands behind it
unfoldable pub change_bytes : Change → List ℕ
change_bytes what = big_endian 1 (change_code what) ++ change_rest what

-- a key and a document that are not too long, and a mark that has room in its field
abbrev pub IsChange : Change → Type 0
IsChange (Set key doc) = IsKey key × IsDoc doc
IsChange (Del key) = IsKey key
IsChange Mark = ⊤
IsChange (Forget mark) = mark < 2 ^ 64
IsChange (Back mark) = mark < 2 ^ 64
IsChange Clear = ⊤

-- a change of the kind that this byte spells
abbrev pub IsOfKind : ℕ → Change → Type 0
IsOfKind kind what = IsChange what × (change_code what ≡ kind)

-- the mark that a change names
abbrev pub mark_of : Change → Option ℕ
mark_of (Set key doc) = None
mark_of (Del key) = None
mark_of Mark = None
mark_of (Forget mark) = Some mark
mark_of (Back mark) = Some mark
mark_of Clear = None

-- the body of a record: its partition in 2 bytes, its number among the changes of the partition in 8, and the change
unfoldable pub record_body : ℕ → ℕ → Change → List ℕ
record_body part change what = big_endian 2 part ++ (big_endian 8 change ++ change_bytes what)

-- the body of this record
abbrev pub record_bytes : Rec → List ℕ
record_bytes rec = record_body rec.part rec.change rec.what

-- a record whose fields have room for what it says
pub record IsRecord (rec : Rec) : Type 0 where
  pub part : rec.part < 2 ^ 16
  pub change : rec.change < 2 ^ 64
  pub what : IsChange rec.what

-- such a record of this number
abbrev pub IsNumbered : ℕ → Rec → Type 0
IsNumbered number rec = (rec.number ≡ number) × IsRecord rec

-- how many changes each partition has had
abbrev pub Counts : Type 0
Counts = ℕ → ℕ

-- the counts of the first partitions; another has had no change
abbrev pub counts_in : List ℕ → Counts
counts_in counts part = get_or counts part 0

-- a record that may stand behind so many changes of so many partitions, and whose numbers a file may keep
pub record IsNext (parts : ℕ) (counts : Counts) (rec : Rec) : Type 0 where
  pub fits : IsRecord rec
  pub part : rec.part < parts
  pub change : rec.change ≡ counts rec.part + 1
  pub change_is_kept : rec.change < 2 ^ 62
  pub mark_is_kept : IfSome (mark_of rec.what) (λ mark. mark < 2 ^ 62)
