-- What contracts see of a pass.
use Rattle.std.specs.Prelude.{◌≡◌, ◌⊎◌, ℕ, ◌<◌, ◌≤◌, ◌+◌, ◌-◌, ◌^◌, List, [], ◌∷◌, ◌++◌, Bool, true, false, max, length}
use Rattle.std.specs.Prelude.{refl}
use Rattle.std.specs.Coded.{Coded, code_by, coded_ℕ, coded_bool, coded_list, coded×}
use Rattle.atomic_table.specs.Seated.{TableId, table_id_coded}
use Rattle.mg_turn.specs.History.{IsPrefix, longer}

-- the turn that it is of, that turn's first number, the caller with its own calls and those of the callers that it met, the history that it has seen,
-- the greatest counts that it has seen, its parts of the right to close the turn, the number of the next caller that it can make (0 where it can make none), and whether it holds the turn
pub record PassState (E : Type 0) : Type 0 where
  pub turn : TableId
  pub first : ℕ
  pub caller : ℕ
  pub calls : List E
  pub met : List (ℕ × List E)
  pub seen : List (ℕ × E)
  pub faults : ℕ
  pub synced : ℕ
  pub parts : ℕ
  pub next : ℕ
  pub holds : Bool

-- a pass is stored as the tuple of its fields
abbrev pub pass_coded : {E : Type 0} → Coded E → Coded (PassState E)
pass_coded {E} e = code_by (TableId × (ℕ × (ℕ × (List E × (List (ℕ × List E) × (List (ℕ × E) × (ℕ × (ℕ × (ℕ × (ℕ × Bool))))))))))
    (coded× table_id_coded (coded× coded_ℕ (coded× coded_ℕ (coded× (coded_list e) (coded× (coded_list (coded× coded_ℕ (coded_list e))) (coded× (coded_list (coded× coded_ℕ e)) (coded× coded_ℕ (coded× coded_ℕ (coded× coded_ℕ (coded× coded_ℕ coded_bool))))))))))
    (λ p. (p.turn, (p.first, (p.caller, (p.calls, (p.met, (p.seen, (p.faults, (p.synced, (p.parts, (p.next, p.holds)))))))))))
    (λ t. record { turn = t.0; first = t.1.0; caller = t.1.1.0; calls = t.1.1.1.0; met = t.1.1.1.1.0; seen = t.1.1.1.1.1.0; faults = t.1.1.1.1.1.1.0; synced = t.1.1.1.1.1.1.1.0; parts = t.1.1.1.1.1.1.1.1.0; next = t.1.1.1.1.1.1.1.1.1.0; holds = t.1.1.1.1.1.1.1.1.1.1 })
    (λ _. refl)

module _ {E : Type 0} where
  -- the pass is of this turn, and does not hold it
  pub record IsWaiting (turn : TableId) (p : PassState E) : Type 0 where
    pub own : p.turn ≡ turn
    pub live : 0 < p.parts
    pub free : p.holds ≡ false

  -- the pass holds this turn
  pub record IsHolding (turn : TableId) (p : PassState E) : Type 0 where
    pub own : p.turn ≡ turn
    pub live : 0 < p.parts
    pub held : p.holds ≡ true

  -- each caller of the pass with its calls
  abbrev pub own_calls : PassState E → List (ℕ × List E)
  own_calls p = (p.caller, p.calls) ∷ p.met

  -- the pass of a new turn
  abbrev pub first_pass : TableId → ℕ → ℕ → ℕ → PassState E
  first_pass turn first faults synced = record { turn = turn; first = first; caller = 0; calls = []; met = []; seen = []; faults = faults; synced = synced; parts = 65536; next = 1; holds = false }

  -- the pass of a new caller, which has seen what p has
  abbrev pub pass_after : PassState E → PassState E
  pass_after p = record p { caller = p.next; calls = []; met = []; parts = 1; next = 0 }

  -- p once it has met q
  abbrev pub met_with : PassState E → PassState E → PassState E
  met_with p q = record p { met = p.met ++ own_calls q; seen = longer p.seen q.seen; faults = max p.faults q.faults; synced = max p.synced q.synced; parts = p.parts + q.parts; next = max p.next q.next }

  -- p once its caller entered an entry, behind all that stood before it
  pub record HasEntered (p q : PassState E) (entry : E) : Type 0 where
    pub before : List (ℕ × E)
    pub begins : IsPrefix p.seen before
    pub seen : q.seen ≡ before ++ (p.caller, entry) ∷ []
    pub rest : q ≡ record p { calls = p.calls ++ entry ∷ []; seen = q.seen; faults = q.faults; synced = q.synced }

  -- a pass once its caller made so many calls
  pub record AfterCalls (turn : TableId) (p q : PassState E) (count : ℕ) : Type 0 where
    pub waits : IsWaiting turn q
    pub calls : length q.calls ≡ count
    pub caller : q.caller ≡ p.caller
    pub met : q.met ≡ p.met
    pub parts : q.parts ≡ p.parts

  -- so many entries were entered as were to be, or fewer, since the history was full
  abbrev pub IsDoneOrFull : ℕ → PassState E → ℕ → Type 0
  IsDoneOrFull times p entered = (entered ≡ times) ⊎ ((entered < times) × (2 ^ 62 - 1 ≤ length p.seen))
