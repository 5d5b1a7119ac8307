-- The records of one log, and of logs one after another.
use Rattle.std.specs.Prelude.{◌≡◌, ℕ, ◌+◌, ◌<◌, ◌≤◌, ◌^◌, List, [], ◌∷◌, ◌++◌, length, map, ◌==◌, if◌then◌else◌, ⊤}
use Rattle.mg_frame.specs.Frame.{NoFrame}
use Rattle.mg_frame.specs.Frames.{frames}
use Rattle.mg_wal_format.specs.declared.head.Head.{Head}
use Rattle.mg_wal_format.specs.declared.record.Rec.{Rec}
use Rattle.mg_wal_format.specs.Heads.{head_bytes, parts_of}
use Rattle.mg_wal_format.specs.Records.{Counts, counts_in, record_bytes, IsNext}

-- counts with one change more of a partition
abbrev pub one_more : Counts → ℕ → Counts
one_more counts part other = if other == part then counts other + 1 else counts other

-- counts behind some records
abbrev pub counts_after : Counts → List Rec → Counts
counts_after counts [] = counts
counts_after counts (rec ∷ recs) = counts_after (one_more counts rec.part) recs

-- the number and the body of a record's frame
unfoldable pub entry_of : Rec → ℕ × List ℕ
entry_of rec = (rec.number, record_bytes rec)

-- records with numbers that rise by one from this one on, each the next change of its partition
abbrev pub InOrder : ℕ → Counts → ℕ → List Rec → Type 0
InOrder parts counts number [] = ⊤
InOrder parts counts number (rec ∷ recs) = (rec.number ≡ number) × (number < 2 ^ 62) × IsNext parts counts rec × InOrder parts (one_more counts rec.part) (number + 1) recs

-- the bytes are the frames of these records, in order, and then a rest
pub record BeginsWith (parts : ℕ) (counts : Counts) (number : ℕ) (bytes : List ℕ) (recs : List Rec) (rest : List ℕ) : Type 0 where
  pub in_order : InOrder parts counts number recs
  pub spelled : bytes ≡ frames (map entry_of recs) ++ rest

-- a log that has a whole head: its number, the head, and the bytes behind the head's frame
pub record Log : Type 0 where
  pub number : ℕ
  pub head : Head
  pub rest : List ℕ

-- the counts that a head gives; a partition that it does not name has had no change
abbrev pub counts_of : Head → Counts
counts_of head = counts_in head.before

-- a head gives these counts
abbrev pub Continues : Counts → Head → Type 0
Continues counts head = (part : ℕ) → counts_of head part ≡ counts part

-- each head begins no earlier and counts no fewer partitions than the one before
abbrev pub HeadsRise : List Log → Type 0
HeadsRise [] = ⊤
HeadsRise (log ∷ []) = ⊤
HeadsRise (log ∷ next ∷ logs) = (log.head.first ≤ next.head.first) × (parts_of log.head ≤ parts_of next.head) × HeadsRise (next ∷ logs)

-- The records of logs one after another, for so many partitions, behind so many changes and from this number on: of the last log all up to where no frame of the next number
-- begins, of each other log all below the first number of the next, which gives the counts of what stands before it.
abbrev pub Gives : ℕ → Counts → ℕ → List Log → List Rec → Type 0
Gives parts counts number [] recs = recs ≡ []
Gives parts counts number (log ∷ []) recs = (rest : List ℕ) × BeginsWith parts counts number log.rest recs rest × NoFrame (number + length recs) rest
Gives parts counts number (log ∷ next ∷ logs) recs =
    (mine : List Rec) × (others : List Rec) × (rest : List ℕ) × (recs ≡ mine ++ others) × BeginsWith parts counts number log.rest mine rest
    × (number + length mine ≡ next.head.first) × Continues (counts_after counts mine) next.head
    × Gives parts (counts_after counts mine) (number + length mine) (next ∷ logs) others

-- the frames of a log: of its head, with the log's number, and of its records
abbrev pub log_entries : ℕ → Head → List Rec → List (ℕ × List ℕ)
log_entries number head recs = (number, head_bytes head) ∷ map entry_of recs
