-- The rule of a turn, and what each step on its table tells.
-- Word 0 is 0 while the turn is free, and another number while it is taken: 1, or 2 where somebody may wait for it. Word 1 is the number of
-- entries, and slot 0 has the state while the turn is free.
use Rattle.std.specs.Prelude.{◌≡◌, ◌≢◌, ◌⊎◌, ℕ, zero, suc, ◌+◌, ◌-◌, ◌≤◌, ◌<◌, List, [], ◌∷◌, ◌++◌, length, max}
use mathlib.Core.Option.{Option, none, some}
use lib.ListN.{get_elem?}
use Rattle.std.specs.declared.snapshot.Snapshot.{Snapshot}
use Rattle.atomic_table.specs.Table.{State, Me, Step}
use Rattle.mg_turn.specs.declared.state.Counts.{Counts}
use Rattle.mg_turn.specs.declared.rule.Hold.{Hold}
use Rattle.mg_turn.specs.declared.rule.Hold.TheVariants.{Free, Out, Home}
use Rattle.mg_turn.specs.declared.rule.View.{View}
use Rattle.mg_turn.specs.declared.rule.Slot.{Slot}
use Rattle.mg_turn.specs.declared.rule.Slot.TheVariants.{Empty, Full, Note}
use Rattle.mg_turn.specs.declared.rule.Opening.{Opening}
use Rattle.mg_turn.specs.History.{IsPrefix, calls_by, longer, shorter, total, times_among, AreApart, AreCalls, NoOthers, calls_in}

-- both numbers of a value
abbrev pub counts_of : {T : Type 0} → (T → ℕ) → (T → ℕ) → T → Counts
counts_of faults synced state = record { faults = faults state; synced = synced state }

abbrev pub NotAbove : Counts → Counts → Type 0
NotAbove a b = (a.faults ≤ b.faults) × (a.synced ≤ b.synced)

abbrev pub greater : Counts → Counts → Counts
greater a b = record { faults = max a.faults b.faults; synced = max a.synced b.synced }

-- the parts that all views have together
abbrev pub whole : ℕ
whole = 65536

-- n, but nothing of a view without a part
abbrev pub if_live : ℕ → ℕ → ℕ
if_live zero n = 0
if_live (suc parts) n = n

abbrev pub at_most_one : ℕ → ℕ
at_most_one zero = 0
at_most_one (suc n) = 1

module _ {E : Type 0} where
  -- the caller's own calls, and those of the callers that it met
  abbrev pub own : View E → List (ℕ × List E)
  own v = (v.caller, v.calls) ∷ v.met

  abbrev pub times_in : ℕ → View E → ℕ
  times_in caller v = if_live v.parts (times_among caller (own v))

  abbrev pub givers_in : View E → ℕ
  givers_in v = if_live v.parts (at_most_one v.next)

  -- P holds of each view that has a part
  abbrev pub EachLive : List (View E) → (ℕ → View E → Type 0) → Type 0
  EachLive views P = (j : ℕ) (v : View E) → get_elem? views j ≡ some v → 0 < v.parts → P j v

  -- what a view has seen and was told begins the history, and its own calls are all that the history has of their callers
  pub record Fits (first : ℕ) (history : List (ℕ × E)) (v : View E) : Type 0 where
    pub first_is : v.first ≡ first
    pub seen : IsPrefix v.seen history
    pub told : IsPrefix v.told history
    pub calls : AreCalls history (own v)

  -- a view that does not hold the turn, and has seen no greater count
  abbrev pub IsQuiet : Counts → View E → Type 0
  IsQuiet top v = (v.hold ≡ Free) × NotAbove v.counts top

  abbrev pub opening_view : ℕ → Counts → View E
  opening_view first counts = record { first = first; caller = 0; calls = []; met = []; seen = []; told = []; counts = counts; parts = whole; next = 1; hold = Free }

  -- the view of a seat that is spent
  abbrev pub nobody : View E
  nobody = record { first = 0; caller = 0; calls = []; met = []; seen = []; told = []; counts = record { faults = 0; synced = 0 }; parts = 0; next = 0; hold = Free }

  abbrev pub splitter : View E → View E
  splitter v = record v { parts = v.parts - 1; next = v.next + 1 }

  abbrev pub new_caller : View E → View E
  new_caller v = record v { caller = v.next; calls = []; met = []; parts = 1; next = 0 }

  abbrev pub keepsake : View E → View E
  keepsake v = record v { parts = 0 }

  abbrev pub joined : View E → View E → View E
  joined v w = record v { met = v.met ++ own w; seen = longer v.seen w.seen; told = shorter v.seen w.seen; counts = greater v.counts w.counts; parts = v.parts + w.parts; next = max v.next w.next }

  abbrev pub entered : View E → E → View E
  entered v e = record v { calls = v.calls ++ e ∷ []; seen = v.seen ++ (v.caller, e) ∷ [] }

  abbrev pub taken : View E → List (ℕ × E) → Counts → View E
  taken v history counts = record v { seen = history; counts = counts; hold = Out }

  -- what holds of the history and of all views, whoever has the turn
  pub record IsKept (first : ℕ) (history : List (ℕ × E)) (views : List (View E)) : Type 0 where
    pub fits : EachLive views (λ j v. Fits first history v)
    pub parts : total (λ v. v.parts) views ≡ whole
    pub apart : (caller : ℕ) → total (times_in caller) views ≤ 1
    pub known : (caller : ℕ) → total (times_in caller) views ≡ 0 → calls_by caller history ≡ []
    pub givers : total givers_in views ≤ 1
    pub unused : EachLive views (λ j v. 0 < v.next → (caller : ℕ) → v.next ≤ caller → total (times_in caller) views ≡ 0)
    pub complete : (j : ℕ) × ((v : View E) × (get_elem? views j ≡ some v) × (0 < v.parts) × (v.seen ≡ history))

module _ {T E : Type 0} where
  -- the turn is free, and the state at home stands for the history
  pub record IsFree (stands : ℕ → List (ℕ × E) → T → Type 0) (counts : T → Counts) (first : ℕ) (history : List (ℕ × E)) (s : State (Slot T E) (View E)) : Type 0 where
    pub state : T
    pub words : s.words ≡ 0 ∷ length history ∷ []
    pub home : s.homes ≡ some (Full state) ∷ []
    pub stands_for : stands first history state
    pub quiet : EachLive s.views (λ j v. IsQuiet (counts state) v)

  -- where the slot is while a view holds the turn
  abbrev pub SlotOf : Hold → List (Option (Slot T E)) → Type 0
  SlotOf Free homes = ⊥
  SlotOf Out homes = homes ≡ none ∷ []
  SlotOf Home homes = homes ≡ some Empty ∷ []

  -- one view holds the turn and has seen all of the history
  pub record IsHeld (history : List (ℕ × E)) (s : State (Slot T E) (View E)) (id : ℕ) (v : View E) : Type 0 where
    pub waited : ℕ
    pub words : s.words ≡ suc waited ∷ length history ∷ []
    pub view : get_elem? s.views id ≡ some v
    pub live : 0 < v.parts
    pub seen : v.seen ≡ history
    pub slot : SlotOf v.hold s.homes
    pub others : EachLive s.views (λ j w. j ≢ id → IsQuiet v.counts w)

  abbrev pub Holds : (ℕ → List (ℕ × E) → T → Type 0) → (T → Counts) → Opening T → State (Slot T E) (View E) → Type 0
  Holds stands counts o s = (history : List (ℕ × E)) × (IsKept o.first history s.views
      × (IsFree stands counts o.first history s ⊎ ((id : ℕ) × ((v : View E) × IsHeld history s id v))))

  -- the turn was free, and is taken with its slot: the state there stands for all that happened, which begins with what was seen before, and in
  -- which each of the view's own callers made just the calls that the view has. These callers differ
  abbrev pub HasTaken : (ℕ → List (ℕ × E) → T → Type 0) → (T → Counts) → Me (Slot T E) (View E) → Me (Slot T E) (View E) → Type 0
  HasTaken stands counts m n = (history : List (ℕ × E)) × ((state : T) × (n ≡ (taken m.0 history (counts state), (0, Full state) ∷ [])) × stands m.0.first history state × IsPrefix m.0.seen history × NotAbove m.0.counts (counts state) × AreCalls history (own m.0) × AreApart (own m.0))

  -- where the turn was taken already, nothing changes
  abbrev pub took : (ℕ → List (ℕ × E) → T → Type 0) → (T → Counts) → Step (Slot T E) → Me (Slot T E) (View E) → ℕ → Me (Slot T E) (View E) → Type 0
  took stands counts s m found n = (found ≢ 0 → n ≡ m) × (found ≡ 0 → HasTaken stands counts m n)

  -- the holder's empty slot goes home
  abbrev pub put_back : Step (Slot T E) → Me (Slot T E) (View E) → ℕ → Me (Slot T E) (View E) → Type 0
  put_back s m found n = n ≡ (record m.0 { hold = Home }, [])

  -- the holder has its empty slot again
  abbrev pub took_back : Step (Slot T E) → Me (Slot T E) (View E) → ℕ → Me (Slot T E) (View E) → Type 0
  took_back s m found n = n ≡ (record m.0 { hold = Out }, (0, Empty) ∷ [])

  -- nothing changes; a holder learns how long the history is, and anyone that the shorter of two histories begins the longer, and that its own
  -- callers differ
  abbrev pub learned : Step (Slot T E) → Me (Slot T E) (View E) → ℕ → Me (Slot T E) (View E) → Type 0
  learned s m found n = (n ≡ m) × (m.0.hold ≢ Free → found ≡ length m.0.seen) × (length m.0.told ≤ length m.0.seen → IsPrefix m.0.told m.0.seen) × AreApart (own m.0)

  -- the entry of the note is entered
  abbrev pub counted : Step (Slot T E) → Me (Slot T E) (View E) → ℕ → Me (Slot T E) (View E) → Type 0
  counted s m found n = (e : Snapshot E) × (s.said ≡ some (Note e)) × (n ≡ (entered m.0 e.value, m.1)) × (found ≡ length m.0.seen)

  -- the turn is free, with the state in its slot
  abbrev pub gave : (T → Counts) → Step (Slot T E) → Me (Slot T E) (View E) → ℕ → Me (Slot T E) (View E) → Type 0
  gave counts s m found n = (state : T) × (m.1 ≡ (0, Full state) ∷ []) × (n ≡ (record m.0 { counts = counts state; hold = Free }, []))

  -- the view has seen the whole history, all of it by its own callers, and the state stands for it
  pub record HasClosed (stands : ℕ → List (ℕ × E) → T → Type 0) (counts : T → Counts) (v : View E) (state : T) : Type 0 where
    pub stands_for : stands v.first v.seen state
    pub counts_below : NotAbove v.counts (counts state)
    pub calls : AreCalls v.seen (own v)
    pub apart : AreApart (own v)
    pub others : NoOthers v.seen (own v)
    pub counted : length v.seen ≡ calls_in (own v)
