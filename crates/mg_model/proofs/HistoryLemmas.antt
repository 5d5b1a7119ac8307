-- A history's changes lead where its calls lead.
use Rattle.std.proofs.Common.{◌≡◌, ℕ, List, [], ◌∷◌, length, Bool, true, false, ◌||◌, nat_lt, Option, None, Some, refl, ap, ◌∙◌, sym}
use Rattle.std.specs.Option.{option_to_list, option_map}
use Rattle.std.specs.Bool.{if◌then◌else◌}
use Rattle.std.proofs.lemmas.List.Sums.{fold-append}
use Rattle.mg_model.specs.declared.calls.Call.{Call}
use Rattle.mg_model.specs.declared.calls.Call.TheVariants.{Set, Del, Get, Feed, Mark, Forget, Rollback, Clear, Sync, Compact, Stats}
use Rattle.mg_model.specs.declared.calls.Change.{Change}
use Rattle.mg_model.specs.declared.calls.Change.TheVariants as change
use Rattle.mg_model.specs.declared.replies.Reply.TheVariants as reply
use Rattle.mg_model.specs.State.{State, Outcome, step, length_of, mark_limit, is_mark, mark_at_most, after_mark, after_forget, replies, rollback}
use Rattle.mg_model.specs.History.{change_of, changes_of, after_change, after_changes, after_calls}

-- where a choice is between a change and none
chosen : (b : Bool) (s : State) (c : Change) (o : Outcome) → o.state ≡ after_change s c →
    after_changes s (option_to_list (if b then Some c else None)) ≡ (if b then o else replies s reply.Synced).state
chosen true s c o h = sym h
chosen false s c o h = refl

backed : (s : State) (m : Option ℕ) → after_changes s (option_to_list (option_map (λ mark. change.Back mark) m)) ≡ (rollback s m).state
backed s None = refl
backed s (Some mark) = refl

marked : (b : Bool) (s : State) → after_changes s (option_to_list (if b then Some change.Mark else None))
    ≡ (if b then record { state = after_mark s; reply = reply.Marked (length_of s) } else replies s (reply.Full mark_limit)).state
marked true s = refl
marked false s = refl

forgot : (b : Bool) (s : State) (mark : ℕ) → after_changes s (option_to_list (if b then Some (change.Forget mark) else None))
    ≡ (if b then record { state = after_forget s mark; reply = reply.Forgot mark } else replies s (reply.NoMark mark)).state
forgot true s mark = refl
forgot false s mark = refl

-- the change that a call is leads where the call leads
pub change_leads : (s : State) (call : Call) → after_changes s (option_to_list (change_of s call)) ≡ (step s call).state
change_leads s (Set key doc) = refl
change_leads s (Del key) = refl
change_leads s (Get key) = refl
change_leads s (Feed epoch after limit) = refl
change_leads s Mark = marked (is_mark s (length_of s) || nat_lt (length s.marks) mark_limit) s
change_leads s (Forget mark) = forgot (is_mark s mark) s mark
change_leads s (Rollback to) = backed s (mark_at_most s to)
change_leads s Clear = refl
change_leads s Sync = refl
change_leads s (Compact through) = refl
change_leads s Stats = refl

pub changes_lead : (s : State) (calls : List Call) → after_changes s (changes_of s calls) ≡ after_calls s calls
changes_lead s [] = refl
changes_lead s (call ∷ calls) =
    fold-append after_change s (option_to_list (change_of s call)) (changes_of (step s call).state calls)
    ∙ ap (λ (t : State). after_changes t (changes_of (step s call).state calls)) (change_leads s call)
    ∙ changes_lead (step s call).state calls
