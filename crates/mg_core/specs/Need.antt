-- What of a state its answers rest on.
use Rattle.std.specs.Prelude.{◌≡◌, ◌≤◌, take, ⊤}
use Rattle.std.specs.List.{AllByRecursion}
use Rattle.mg_model.specs.declared.calls.Call.{Call}
use Rattle.mg_model.specs.declared.calls.Call.TheVariants.{Compact}
use Rattle.mg_model.specs.Mutations.{live}
use Rattle.mg_model.specs.State.{State, length_of, marks_of}

-- Two states of which the same is needed: the same length, marks and epoch, and the same newest mutations now and at each mark.
-- Replaced mutations may be there or not.
pub record NeedSame (s t : State) : Type 0 where
  pub lengths : length_of s ≡ length_of t
  pub same_marks : marks_of s ≡ marks_of t
  pub epochs : s.epoch ≡ t.epoch
  pub within : AllByRecursion (λ mark. mark ≤ length_of s) (marks_of s)
  pub newest : live s.mutations ≡ live t.mutations
  pub marked : AllByRecursion (λ mark. live (take mark s.mutations) ≡ live (take mark t.mutations)) (marks_of s)

-- the replies to a call rest on what is needed: to each but a compact of a part of the list
abbrev pub RestsOnNeed : State → Call → Type 0
RestsOnNeed s (Compact through) = through ≡ length_of s
RestsOnNeed s other = ⊤
