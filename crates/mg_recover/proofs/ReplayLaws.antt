-- The loops of a replay.
use Rattle.std.proofs.Common.{◌≡◌, ℕ, zero, suc, ◌+◌, ◌-◌, ◌<◌, ◌≤◌, ◌⊎◌, inl, inr, List, [], ◌∷◌, ◌++◌, length, get_or, set, take, drop, false, IsTrue, drop-cons, add-one, refl, sym, ap, subst, ◌∙◌, arith, append_assoc}
use Rattle.std.specs.List.{AllByRecursion}
use Rattle.std.proofs.lemmas.List.{take-append-drop, take_more, get_or_default, get_or_append_left, get_or_push, get_or_past, length_push}
use Rattle.std.proofs.lemmas.List.Sums.{sum_by_more}
use Rattle.std.proofs.lemmas.Bool.{cases_lt}
use Rattle.mg_model.specs.declared.calls.Call.{Call}
use Rattle.mg_model.specs.History.{after_change, allows, call_for}
use Rattle.mg_model.specs.State.{HasRoom, State}
use Rattle.mg_recover.specs.declared.partition.Partition.{Partition}
use Rattle.mg_recover.specs.Answers.{IsAtLimit}
use Rattle.mg_recover.specs.Made.{entries_of, states_after, AreMade, MayMake}
use Rattle.mg_recover.specs.Refusals.{IsStoreRefusal, IsUnfit, IsUnfitFor}
use Rattle.mg_recover.specs.Replays.{offset_in, replayed, size_from, AreGiven, AreReplayed, BeginLater, IsForbidden, IsNewestAt, NamesLog}
use Rattle.mg_recover.specs.Stores.{new_partition, part_at}
use Rattle.mg_types.specs.declared.faults.Fault.{Fault}
use Rattle.mg_types.specs.declared.faults.Fault.TheVariants.{NoMemory}
use Rattle.mg_wal.specs.declared.known.KnownLog.{KnownLog}
use Rattle.mg_recover.proofs.MadeLaws.{made_push, replayed_own, replayed_push}
use Rattle.mg_wal.proofs.StepLaws.{all_append}
use Rattle.mg_wal_format.specs.declared.record.Rec.{Rec}
use Rattle.mg_wal_format.specs.Logs.{Log}

-- ---- new partitions

pub new_more : (partitions : List Partition) (new : Partition) → new ≡ new_partition → ((part : ℕ) → part_at partitions part ≡ new_partition) → (part : ℕ) → part_at (partitions ++ new ∷ []) part ≡ new_partition
new_more partitions new is are part = by_order (cases_lt part (length partitions))
  where
    behind : (count : ℕ) → length partitions + count ≡ part → part_at (partitions ++ new ∷ []) part ≡ new_partition
    behind zero here = get_or_push partitions new new_partition part (omega (arith, here)) ∙ is
    behind (suc count) past = get_or_past (partitions ++ new ∷ []) part new_partition (omega (arith, past, length_push partitions new))

    by_order : (part < length partitions) ⊎ (length partitions ≤ part) → part_at (partitions ++ new ∷ []) part ≡ new_partition
    by_order (inl within) = get_or_append_left partitions (new ∷ []) new_partition part within ∙ are part
    by_order (inr past) = behind (part - length partitions) (omega (arith, past))

-- ---- the offset

pub offset_more : (log : KnownLog) (recs : List Rec) (i : ℕ) (rec : Rec) → i < length recs → rec ≡ get_or recs i rec → offset_in log (take (i + 1) recs) ≡ offset_in log (take i recs) + size_from log.head.first rec
offset_more log recs i rec within is =
    let size : size_from log.head.first (get_or recs i rec) ≡ size_from log.head.first rec = ap (size_from log.head.first) (sym is) in
    omega (arith, sum_by_more (size_from log.head.first) recs i rec within, size)

-- ---- the newest log that begins early enough

pub later_more : (logs : List KnownLog) (i number : ℕ) (log : KnownLog) → i < length logs → log ≡ get_or logs i log → BeginLater number (take i logs) → number < log.head.first → BeginLater number (take (i + 1) logs)
later_more logs i number log within is later above =
    subst (BeginLater number) (sym (take_more logs i log within ∙ ap (λ (l : KnownLog). take i logs ++ l ∷ []) (sym is)))
    (all_append (λ (other : KnownLog). number < other.head.first) (take i logs) (log ∷ []) later (above, tt))

pub newest_more : (logs : List KnownLog) (i number : ℕ) (log newest : KnownLog) → i < length logs → log ≡ get_or logs i log → IsNewestAt (take i logs) number newest → number < log.head.first
    → IsNewestAt (take (i + 1) logs) number newest
newest_more logs i number log newest within is found above =
    record {
      older = found.older;
      newer = found.newer ++ log ∷ [];
      split = take_more logs i log within
          ∙ ap (λ (l : KnownLog). take i logs ++ l ∷ []) (sym is)
          ∙ ap (λ (ls : List KnownLog). ls ++ log ∷ []) found.split
          ∙ append_assoc found.older (newest ∷ found.newer) (log ∷ []);
      begins = found.begins;
      later = all_append (λ (other : KnownLog). number < other.head.first) found.newer (log ∷ []) found.later (above, tt);
    }

pub newest_own : (logs : List KnownLog) (i number : ℕ) (log : KnownLog) → i < length logs → log ≡ get_or logs i log → log.head.first ≤ number → IsNewestAt (take (i + 1) logs) number log
newest_own logs i number log within is begins =
    record {
      older = take i logs;
      newer = [];
      split = take_more logs i log within ∙ ap (λ (l : KnownLog). take i logs ++ l ∷ []) (sym is);
      begins = begins;
      later = tt;
    }

-- ---- a record that may not be made

split_at : (recs : List Rec) (i : ℕ) (rec : Rec) → i < length recs → rec ≡ get_or recs i rec → recs ≡ take i recs ++ rec ∷ drop (i + 1) recs
split_at recs i rec within is =
    sym (take-append-drop i recs)
    ∙ ap (λ (rs : List Rec). take i recs ++ rs) (drop-cons recs i rec within)
    ∙ ap (λ (r : Rec). take i recs ++ r ∷ drop (suc i) recs) (sym is)
    ∙ ap (λ (n : ℕ). take i recs ++ rec ∷ drop n recs) (sym (add-one i))

pub given_at : (parts : ℕ) (found : List Log) (known : List KnownLog) (recs : List Rec) (i : ℕ) (rec : Rec) → i < length recs → rec ≡ get_or recs i rec → AreGiven parts found known recs
    → AreGiven parts found known (take i recs ++ rec ∷ drop (i + 1) recs)
given_at parts found known recs i rec within is given = subst (AreGiven parts found known) (split_at recs i rec within is) given

pub unfit_at : (found : List Log) (recs : List Rec) (i : ℕ) (rec : Rec) (f : Fault) → i < length recs → rec ≡ get_or recs i rec → AreMade (entries_of (take i recs))
    → IsUnfitFor (states_after (entries_of (take i recs)) rec.part) found (take i recs) rec f → IsUnfit found recs f
unfit_at found recs i rec f within is made why = record { before = take i recs; rec = rec; behind = drop (i + 1) recs; split = split_at recs i rec within is; made = made; why = why }

pub names_kind : (parts : ℕ) (f : Fault) → NamesLog f → IsStoreRefusal parts f
names_kind parts f names = subst (IsStoreRefusal parts) (sym names.2) refl

pub limit_kind : (parts : ℕ) (s : State) (call : Call) (f : Fault) → IsAtLimit s call f → IsStoreRefusal parts f
limit_kind parts s call f limit = subst (IsStoreRefusal parts) (sym limit.2) tt

pub part_of : (parts : ℕ) (recs : List Rec) (i : ℕ) (rec : Rec) → AllByRecursion (λ (r : Rec). r.part < parts) recs → i < length recs → rec ≡ get_or recs i rec → rec.part < parts
part_of parts [] i rec all within is = absurd (omega (arith, within))
part_of parts (first ∷ recs) zero rec all within is = subst (λ (r : Rec). r.part < parts) (sym is) all.0
part_of parts (first ∷ recs) (suc i) rec all within is = part_of parts recs i rec all.1 (omega (arith, within)) is

-- ---- one record's change

-- the record's partition stands where the records before it lead
pub old_is : (parts : ℕ) (recs : List Rec) (part place : ℕ) (partitions : List Partition) (old : Partition) → AreReplayed parts recs partitions → place ≡ part → part < parts → length partitions ≡ parts
    → old ≡ get_or partitions place old → old ≡ replayed recs part
old_is parts recs part place partitions old are at below counted is =
    is ∙ ap (λ (n : ℕ). get_or partitions n old) at ∙ get_or_default partitions part old new_partition (omega (arith, below, counted)) ∙ are part below

pub plain_is : (recs : List Rec) (part : ℕ) (old : Partition) → old ≡ replayed recs part → old.plain ≡ states_after (entries_of recs) part
plain_is recs part old is = ap (λ (p : Partition). p.plain) is

pub one_more_rec : (recs : List Rec) (i : ℕ) (rec : Rec) → i < length recs → rec ≡ get_or recs i rec → take (i + 1) recs ≡ take i recs ++ rec ∷ []
one_more_rec recs i rec within is = take_more recs i rec within ∙ ap (λ (r : Rec). take i recs ++ r ∷ []) (sym is)

-- the change is made in its place
pub record IsMadeAt (recs : List Rec) (rec : Rec) (old new : Partition) : Type 0 where
  pub was : old ≡ replayed recs rec.part
  pub room : HasRoom old.plain (call_for rec.what)
  pub allowed : IsTrue (allows old.plain rec.what)
  pub is : new ≡ record { plain = after_change old.plain rec.what; places = old.places }

pub made_step : (recs : List Rec) (i : ℕ) (rec : Rec) (old new : Partition) → i < length recs → rec ≡ get_or recs i rec → AreMade (entries_of (take i recs)) → IsMadeAt (take i recs) rec old new
    → AreMade (entries_of (take (i + 1) recs))
made_step recs i rec old new within is made at =
    let plain = plain_is (take i recs) rec.part old at.was in
    let may : MayMake (states_after (entries_of (take i recs)) rec.part) rec.what = subst (λ (s : State). MayMake s rec.what) plain (at.room, at.allowed) in
    subst (λ (rs : List Rec). AreMade (entries_of rs)) (sym (one_more_rec recs i rec within is)) (made_push (take i recs) rec made may)

pub states_step : (parts : ℕ) (recs : List Rec) (i : ℕ) (rec : Rec) (place : ℕ) (partitions : List Partition) (old new : Partition) → i < length recs → rec ≡ get_or recs i rec → place ≡ rec.part
    → rec.part < parts → length partitions ≡ parts → AreReplayed parts (take i recs) partitions → IsMadeAt (take i recs) rec old new → AreReplayed parts (take (i + 1) recs) (set partitions place new)
states_step parts recs i rec place partitions old new within is at below counted are made =
    subst (λ (rs : List Rec). AreReplayed parts rs (set partitions place new)) (sym (one_more_rec recs i rec within is))
    (subst (λ (n : ℕ). AreReplayed parts (take i recs ++ rec ∷ []) (set partitions n new)) (sym at)
    (replayed_push parts (take i recs) rec partitions new (omega (arith, below, counted)) are (replayed_own (take i recs) rec old new made.was made.is)))

-- ---- a record whose change was not made

pub unfit_limit : (found : List Log) (recs : List Rec) (i : ℕ) (rec : Rec) (old : Partition) (f : Fault) → i < length recs → rec ≡ get_or recs i rec → AreMade (entries_of (take i recs))
    → old ≡ replayed (take i recs) rec.part → (f ≡ NoMemory) ⊎ IsAtLimit old.plain (call_for rec.what) f → (f ≡ NoMemory) ⊎ IsUnfit found recs f
unfit_limit found recs i rec old f within is made was (inl none) = inl none
unfit_limit found recs i rec old f within is made was (inr limit) =
    inr (unfit_at found recs i rec f within is made (inl (subst (λ (s : State). IsAtLimit s (call_for rec.what) f) (plain_is (take i recs) rec.part old was) limit)))

pub unfit_forbidden : (found : List Log) (before : List Rec) (rec : Rec) (old : Partition) (f : Fault) → old ≡ replayed before rec.part → HasRoom old.plain (call_for rec.what) → allows old.plain rec.what ≡ false
    → IsForbidden found before rec f → IsUnfitFor (states_after (entries_of before) rec.part) found before rec f
unfit_forbidden found before rec old f was room not_allowed forbidden =
    let plain = plain_is before rec.part old was in
    let room' : HasRoom (states_after (entries_of before) rec.part) (call_for rec.what) = subst (λ (s : State). HasRoom s (call_for rec.what)) plain room in
    let not_allowed' : allows (states_after (entries_of before) rec.part) rec.what ≡ false = subst (λ (s : State). allows s rec.what ≡ false) plain not_allowed in
    inr (room', not_allowed', forbidden.0, forbidden.1, forbidden.2, forbidden.3)
