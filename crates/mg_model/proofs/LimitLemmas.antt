-- A call that has room keeps a state's numbers in their limits.
use Rattle.std.proofs.Common.{◌≡◌, ℕ, ◌+◌, ◌<◌, ◌≤◌, List, [], ◌∷◌, ◌++◌, length, take, Bool, true, false, ◌||◌, nat_lt, Option, None, Some, refl, arith}
use Rattle.std.specs.Option.{option_and_then}
use Rattle.std.specs.Bool.{if◌then◌else◌}
use Rattle.std.proofs.lemmas.List.{length_push, length-take}
use Rattle.std.proofs.lemmas.Bool.{ltb-true}
use Rattle.mg_model.specs.declared.calls.Call.{Call}
use Rattle.mg_model.specs.declared.calls.Call.TheVariants.{Set, Del, Get, Feed, Mark, Forget, Rollback, Clear, Sync, Compact, Stats}
use Rattle.mg_model.specs.State.{State, HasRoom, InLimits, after_mark, at_limit, epoch_limit, has_mark_room, is_mark, length_of, marks_of, mark_at_most, new_state, seq_limit, step}

-- a number that is not at its limit is below it
below : (limit n : ℕ) → at_limit limit n ≡ None → n < limit
below limit n h = by_test (nat_lt n limit) refl h
  where
    by_test : (b : Bool) → nat_lt n limit ≡ b → (if b then None else Some n) ≡ None → n < limit
    by_test true e h = omega (arith, ltb-true, e)
    by_test false e h = absurd cc

raised_within : (limit n : ℕ) → n < limit → n + 1 ≤ limit
raised_within limit n l = omega arith

pushed_within : {X : Type 0} (limit : ℕ) (xs : List X) (x : X) → length xs < limit → length (xs ++ x ∷ []) ≤ limit
pushed_within limit xs x l = omega (arith, length_push xs x)

taken_within : {X : Type 0} (limit n : ℕ) (xs : List X) → length xs ≤ limit → length (take n xs) ≤ limit
taken_within limit n xs l = omega (arith, length-take n xs)

marked_within : (s : State) → InLimits s → InLimits (after_mark s)
marked_within s i = by_mark (is_mark s (length_of s))
  where
    by_mark : (b : Bool) → InLimits (if b then s else record s { marks = marks_of s ++ length_of s ∷ [] })
    by_mark true = i
    by_mark false = record { places = i.places; epochs = i.epochs }

pub new_in_limits : InLimits new_state
new_in_limits = record { places = omega arith; epochs = omega arith }

pub step_in_limits : (s : State) (call : Call) → HasRoom s call → InLimits s → InLimits (step s call).state
step_in_limits s (Set key doc) r i = record { places = pushed_within seq_limit s.mutations (Some (record { key = key; doc = Some doc })) (below seq_limit (length_of s) r); epochs = i.epochs }
step_in_limits s (Del key) r i = record { places = pushed_within seq_limit s.mutations (Some (record { key = key; doc = None })) (below seq_limit (length_of s) r); epochs = i.epochs }
step_in_limits s (Get key) r i = i
step_in_limits s (Feed epoch after limit) r i = i
step_in_limits s Mark r i = by_room (is_mark s (length_of s) || has_mark_room s) refl
  where
    by_room : (b : Bool) → (is_mark s (length_of s) || has_mark_room s) ≡ b → InLimits (step s Mark).state
    by_room true e = rw e (marked_within s i)
    by_room false e = rw e i
step_in_limits s (Forget mark) r i = by_mark (is_mark s mark) refl
  where
    by_mark : (b : Bool) → is_mark s mark ≡ b → InLimits (step s (Forget mark)).state
    by_mark true e = rw e (record { places = i.places; epochs = i.epochs })
    by_mark false e = rw e i
step_in_limits s (Rollback to) r i = by_mark (mark_at_most s to) refl r
  where
    by_mark : (o : Option ℕ) → mark_at_most s to ≡ o → option_and_then (λ _. at_limit epoch_limit s.epoch) o ≡ None → InLimits (step s (Rollback to)).state
    by_mark None e h = rw e i
    by_mark (Some mark) e h = rw e (record { places = taken_within seq_limit mark s.mutations i.places; epochs = raised_within epoch_limit s.epoch (below epoch_limit s.epoch h) })
step_in_limits s Clear r i = record { places = omega arith; epochs = raised_within epoch_limit s.epoch (below epoch_limit s.epoch r) }
step_in_limits s Sync r i = i
step_in_limits s (Compact through) r i = i
step_in_limits s Stats r i = i
