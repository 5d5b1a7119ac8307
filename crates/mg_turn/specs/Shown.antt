-- A pass as contracts see it, from the view of its seat.
use Rattle.std.specs.Prelude.{◌≡◌, ◌≢◌, List, [], ◌∷◌, Bool, true, false}
use Rattle.atomic_table.specs.Seated.{TableId}
use Rattle.mg_turn.specs.declared.rule.Hold.{Hold}
use Rattle.mg_turn.specs.declared.rule.Hold.TheVariants.{Free, Out, Home}
use Rattle.mg_turn.specs.declared.rule.View.{View}
use Rattle.mg_turn.specs.Rule.{nobody}
use Rattle.mg_turn.specs.Passes.{PassState}

abbrev pub is_held : Hold → Bool
is_held Free = false
is_held Out = true
is_held Home = true

module _ {E : Type 0} where
  abbrev pub view_of : List (View E) → View E
  view_of [] = nobody
  view_of (v ∷ vs) = v

  abbrev pub shown_view : TableId → View E → PassState E
  shown_view turn v = record { turn = turn; first = v.first; caller = v.caller; calls = v.calls; met = v.met; seen = v.seen; faults = v.counts.faults; synced = v.counts.synced; parts = v.parts; next = v.next; holds = is_held v.hold }

  abbrev pub shown : TableId → List (View E) → PassState E
  shown turn views = shown_view turn (view_of views)

  -- between two calls there is one view, and the slot is not with it
  abbrev pub IsResting : List (View E) → Type 0
  IsResting views = (v : View E) × ((views ≡ v ∷ []) × (v.hold ≢ Out))
