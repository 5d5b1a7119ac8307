-- A partition's history, and the changes in it.
use Rattle.std.specs.Prelude.{ℕ, zero, suc, ◌+◌, ◌-◌, List, [], ◌∷◌, ◌++◌, take, map, Bool, true, ◌||◌, ◌==◌, slice_get, unwrap_or, Option, None, Some, IsTrue, ⊤, if◌then◌else◌}
use Rattle.std.specs.Option.{option_map, option_to_list}
use Rattle.std.specs.List.{filter, fold}
use Rattle.mg_model.specs.declared.calls.Call.{Call}
use Rattle.mg_model.specs.declared.calls.Call.TheVariants.{Set, Del, Get, Feed, Mark, Forget, Rollback, Clear, Sync, Compact, Stats}
use Rattle.mg_model.specs.declared.calls.Change.{Change}
use Rattle.mg_model.specs.declared.calls.Change.TheVariants as change
use Rattle.mg_model.specs.declared.replies.Reply.{Reply}
use Rattle.mg_model.specs.State.{State, step, length_of, least, has_mark_room, is_mark, mark_at_most, after_write, after_mark, after_forget, after_back, after_clear}

-- a history has each call that took a place, with its caller, in order
abbrev pub History : Type 0
History = List (ℕ × Call)

-- the state after some calls
abbrev pub after_calls : State → List Call → State
after_calls s calls = fold (λ s call. (step s call).state) s calls

-- the state after a history
abbrev pub after_history : State → History → State
after_history s history = after_calls s (map (λ e. e.1) history)

-- the state in which the call at this place was made, where places count from 1
abbrev pub state_at : State → History → ℕ → State
state_at s history place = after_history s (take (place - 1) history)

-- what the plain list replies to a call at this place
abbrev pub reply_at : State → History → ℕ → Call → Reply
reply_at s history place call = (step (state_at s history place) call).reply

-- the calls of one caller, in order
abbrev pub own_calls : History → ℕ → List Call
own_calls history caller = map (λ e. e.1) (filter (λ e. e.0 == caller) history)

-- the call at this place, where places count from 1
abbrev pub call_at : History → ℕ → Option Call
call_at history place = if place == 0 then None else option_map (λ e. e.1) (slice_get history (place - 1))

-- who made the call at this place, where places count from 1
abbrev pub caller_at : History → ℕ → Option ℕ
caller_at history place = if place == 0 then None else option_map (λ e. e.0) (slice_get history (place - 1))

-- the places of a caller's calls, in rising order, where the first call has this place
abbrev pub own_places_from : ℕ → History → ℕ → List ℕ
own_places_from place [] caller = []
own_places_from place (e ∷ history) caller = if e.0 == caller then place ∷ own_places_from (place + 1) history caller else own_places_from (place + 1) history caller

-- the places of a caller's calls, in rising order
abbrev pub own_places : History → ℕ → List ℕ
own_places history caller = own_places_from 1 history caller

-- the lengths of the lists in which so many calls were made, behind so many others
abbrev pub lengths_behind : State → History → ℕ → ℕ → List ℕ
lengths_behind start history from zero = []
lengths_behind start history from (suc count) = length_of (state_at start history (from + 1)) ∷ lengths_behind start history (from + 1) count

-- The least length of the lists in which the calls behind the place `from` were made, up to that at the place `to`: of the
-- mutations that the first `from` calls left, exactly so many of the first still stand there.
abbrev pub low : State → History → ℕ → ℕ → ℕ
low start history from to = unwrap_or (least (lengths_behind start history from (to - from))) 0

-- the change that a call makes, if it is one
abbrev pub change_of : State → Call → Option Change
change_of s (Set key doc) = Some (change.Set key doc)
change_of s (Del key) = Some (change.Del key)
change_of s (Get key) = None
change_of s (Feed epoch after limit) = None
change_of s Mark = if is_mark s (length_of s) || has_mark_room s then Some change.Mark else None
change_of s (Forget mark) = if is_mark s mark then Some (change.Forget mark) else None
change_of s (Rollback to) = option_map (λ mark. change.Back mark) (mark_at_most s to)
change_of s Clear = Some change.Clear
change_of s Sync = None
change_of s (Compact through) = None
change_of s Stats = None

-- the changes of some calls, in order
abbrev pub changes_of : State → List Call → List Change
changes_of s [] = []
changes_of s (call ∷ calls) = option_to_list (change_of s call) ++ changes_of (step s call).state calls

-- whether a state allows a change: a place that is marked or room for one mark more, and a forget or a way back only of a mark
abbrev pub allows : State → Change → Bool
allows s (change.Set key doc) = true
allows s (change.Del key) = true
allows s change.Mark = is_mark s (length_of s) || has_mark_room s
allows s (change.Forget mark) = is_mark s mark
allows s (change.Back mark) = is_mark s mark
allows s change.Clear = true

-- a call that makes this change where the state allows it
abbrev pub call_for : Change → Call
call_for (change.Set key doc) = Set key doc
call_for (change.Del key) = Del key
call_for change.Mark = Mark
call_for (change.Forget mark) = Forget mark
call_for (change.Back mark) = Rollback mark
call_for change.Clear = Clear

-- the state after one change
abbrev pub after_change : State → Change → State
after_change s (change.Set key doc) = after_write s (record { key = key; doc = Some doc })
after_change s (change.Del key) = after_write s (record { key = key; doc = None })
after_change s change.Mark = after_mark s
after_change s (change.Forget mark) = after_forget s mark
after_change s (change.Back mark) = after_back s mark
after_change s change.Clear = after_clear s

-- the state after some changes
abbrev pub after_changes : State → List Change → State
after_changes s changes = fold after_change s changes

-- each of some changes is allowed by the state to which those before it lead
abbrev pub AllAllowed : State → List Change → Type 0
AllAllowed s [] = ⊤
AllAllowed s (c ∷ changes) = IsTrue (allows s c) × AllAllowed (after_change s c) changes
