-- Logs that were to be written one after another for one list of records, and what a crash may leave of them.
use Rattle.std.specs.Prelude.{◌≡◌, ℕ, ◌+◌, ◌≤◌, List, [], ◌∷◌, ◌++◌, length, take}
use Rattle.mg_wal_format.specs.declared.record.Rec.{Rec}
use Rattle.mg_wal_format.specs.Heads.{parts_of}
use Rattle.mg_wal_format.specs.Logs.{counts_after, Continues, Gives, HeadsRise, InOrder, Log}
use Rattle.mg_wal_format.specs.Records.{Counts}
use Rattle.mg_wal_format.specs.Torn.{EndsAt, HasFront, Plan}

-- the log was to be written for these records: its head has the number and the counts before them, and its records are a front of them
pub record IsFor (counts : Counts) (number : ℕ) (recs : List Rec) (plan : Plan) : Type 0 where
  pub first : plan.head.first ≡ number
  pub gives : Continues counts plan.head
  pub more : List Rec
  pub front : recs ≡ plan.recs ++ more

-- Logs were to be written for these records, one after another, none of whose heads counts fewer partitions than the one before. Each but the last is
-- followed by one that begins behind some of its records, or of those that were to be written behind them.
abbrev pub AreFor : Counts → ℕ → List Rec → List Plan → Type 0
AreFor counts number recs [] = ⊥
AreFor counts number recs (plan ∷ []) = IsFor counts number recs plan
AreFor counts number recs (plan ∷ next ∷ plans) = IsFor counts number recs plan × (parts_of plan.head ≤ parts_of next.head)
    × (mine : List Rec) × (others : List Rec) × (recs ≡ mine ++ others) × AreFor (counts_after counts mine) (number + length mine) others (next ∷ plans)

-- What is left of such logs has a front of the records of each: of each but the last at least those before the first of the next, and of the last all
-- that are numbered below `behind`, and then no frame of the next number.
abbrev pub Leaves : List Plan → List Log → ℕ → Type 0
Leaves [] logs behind = ⊥
Leaves (plan ∷ plans) [] behind = ⊥
Leaves (plan ∷ []) (log ∷ []) behind = (count : ℕ) × EndsAt plan log count × (plan.head.first + count ≡ behind)
Leaves (plan ∷ []) (log ∷ other ∷ logs) behind = ⊥
Leaves (plan ∷ next ∷ plans) (log ∷ logs) behind = (count : ℕ) × (rest : List ℕ) × HasFront plan log count rest × (next.head.first ≤ plan.head.first + count) × Leaves (next ∷ plans) logs behind

-- the logs give the records of the list that are numbered below `behind`, and their heads rise
pub record GivesFront (parts : ℕ) (counts : Counts) (number : ℕ) (recs : List Rec) (logs : List Log) (behind : ℕ) : Type 0 where
  pub count : ℕ
  pub among : count ≤ length recs
  pub reaches : number + count ≡ behind
  pub gives : Gives parts counts number logs (take count recs)
  pub heads : HeadsRise logs

-- what a crash left of logs that were to be written for records in order gives a front of these records
abbrev pub FrontOfListLaw : Type 0
FrontOfListLaw = (parts : ℕ) (counts : Counts) (number : ℕ) (recs : List Rec) (plans : List Plan) (logs : List Log) (behind : ℕ) → InOrder parts counts number recs → AreFor counts number recs plans
    → Leaves plans logs behind → GivesFront parts counts number recs logs behind
