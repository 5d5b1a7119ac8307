-- A partition's state, and the one step that each call is.
use Rattle.std.specs.Prelude.{◌≡◌, ℕ, ◌+◌, ◌<◌, ◌≤◌, ◌^◌, min, List, [], ◌∷◌, ◌++◌, length, take, Bool, true, false, not, ◌||◌, ◌==◌, ⊤, ◌-◌, nat_lt, nat_le, Option, None, Some, if◌then◌else◌}
use Rattle.std.specs.Option.{option_and_then, option_map_or}
use Rattle.std.specs.List.{AllByRecursion, filter, list_any, sum_by}
use Rattle.mg_model.specs.declared.calls.Call.{Call}
use Rattle.mg_model.specs.declared.calls.Call.TheVariants.{Set, Del, Get, Feed, Mark, Forget, Rollback, Clear, Sync, Compact, Stats}
use Rattle.mg_model.specs.declared.mutations.Mutation.{Mutation}
use Rattle.mg_model.specs.declared.replies.Reply.{Reply}
use Rattle.mg_model.specs.declared.replies.Reply.TheVariants as reply
use Rattle.mg_types.specs.Items.{doc_size, is_set, size_of}
use Rattle.mg_model.specs.Mutations.{Mutations, live, read, feed, feed_end, greatest}

-- a partition's mutation list, the places to which a rollback can go, in rising order, and its epoch
pub record State : Type 0 where
  pub mutations : Mutations
  pub marks : List ℕ
  pub epoch : ℕ

-- the state of a partition to which nothing has happened
abbrev pub new_state : State
new_state = record { mutations = []; marks = []; epoch = 0 }

-- the number of places of the mutation list
abbrev pub length_of : State → ℕ
length_of s = length s.mutations

-- the places that are marks
abbrev pub marks_of : State → List ℕ
marks_of s = s.marks

-- the most marks that are kept
abbrev pub mark_limit : ℕ
mark_limit = 16

-- whether this place is a mark
abbrev pub is_mark : State → ℕ → Bool
is_mark s place = list_any (λ mark. mark == place) (marks_of s)

-- whether one mark more can be kept
abbrev pub has_mark_room : State → Bool
has_mark_room s = nat_lt (length (marks_of s)) mark_limit

-- the greatest mark that is at most this place
abbrev pub mark_at_most : State → ℕ → Option ℕ
mark_at_most s place = greatest (filter (λ mark. nat_le mark place) (marks_of s))

-- the least of some numbers, if there is one
abbrev pub least : List ℕ → Option ℕ
least [] = None
least (n ∷ ns) = Some (option_map_or (λ k. min n k) (least ns) n)

-- the state with one more mutation
abbrev pub after_write : State → Mutation → State
after_write s mutation = record s { mutations = s.mutations ++ Some mutation ∷ [] }

-- the state with its length as a mark
abbrev pub after_mark : State → State
after_mark s = if is_mark s (length_of s) then s else record s { marks = marks_of s ++ length_of s ∷ [] }

-- the state without this mark
abbrev pub after_forget : State → ℕ → State
after_forget s place = record s { marks = filter (λ mark. not (mark == place)) (marks_of s) }

-- the state cut back to this mark: what is above it goes, and a new epoch begins
abbrev pub after_back : State → ℕ → State
after_back s mark = record { mutations = take mark s.mutations; marks = filter (λ m. nat_le m mark) (marks_of s); epoch = s.epoch + 1 }

-- the state with nothing in it, in a new epoch
abbrev pub after_clear : State → State
after_clear s = record { mutations = []; marks = []; epoch = s.epoch + 1 }

-- what a call makes of a state, and what it replies
pub record Outcome : Type 0 where
  pub state : State
  pub reply : Reply

-- the outcome of a call that changes nothing
abbrev pub replies : State → Reply → Outcome
replies s r = record { state = s; reply = r }

-- what a get replies
abbrev pub get_reply : Option (ℕ × List ℕ) → Reply
get_reply None = reply.Absent
get_reply (Some found) = reply.Found found.0 found.1

-- what a feed replies
abbrev pub feed_reply : State → ℕ → ℕ → ℕ → Reply
feed_reply s epoch after limit =
    if not (epoch == s.epoch) then reply.Epoch s.epoch
    else (if nat_lt (length_of s) after then reply.Ahead (length_of s)
    else reply.Feed s.epoch (feed_end s.mutations after limit) (feed s.mutations after limit))

-- a rollback to what the greatest mark that is low enough is
abbrev pub rollback : State → Option ℕ → Outcome
rollback s None = replies s (reply.Reset (least (marks_of s)))
rollback s (Some mark) = record { state = after_back s mark; reply = reply.Back mark (s.epoch + 1) }

-- each call's outcome
abbrev pub step : State → Call → Outcome
step s (Set key doc) = record { state = after_write s (record { key = key; doc = Some doc }); reply = reply.Seq (length_of s + 1) }
step s (Del key) = record { state = after_write s (record { key = key; doc = None }); reply = reply.Seq (length_of s + 1) }
step s (Get key) = replies s (get_reply (read s.mutations key))
step s (Feed epoch after limit) = replies s (feed_reply s epoch after limit)
step s Mark =
    if is_mark s (length_of s) || has_mark_room s
    then record { state = after_mark s; reply = reply.Marked (length_of s) }
    else replies s (reply.Full mark_limit)
step s (Forget mark) =
    if is_mark s mark then record { state = after_forget s mark; reply = reply.Forgot mark }
    else replies s (reply.NoMark mark)
step s (Rollback to) = rollback s (mark_at_most s to)
step s Clear = record { state = after_clear s; reply = reply.Cleared (s.epoch + 1) }
step s Sync = replies s reply.Synced
step s (Compact through) =
    let first = live (take through s.mutations) in
    replies s (reply.Compacted through (length first) (sum_by size_of first))
step s Stats =
    let documents = filter is_set (live s.mutations) in
    replies s (reply.Stats (length_of s) (length documents) (sum_by doc_size documents) (length (marks_of s)) s.epoch)

-- A reply that takes memory, of itself or for what its call keeps: a set's or a delete's, a mark's, a document and a feed.
abbrev pub takes_memory : Reply → Bool
takes_memory (reply.Seq seq) = true
takes_memory (reply.Found seq doc) = true
takes_memory (reply.Feed epoch end items) = true
takes_memory (reply.Marked mark) = true
takes_memory other = false

-- the greatest sequence number, and the greatest epoch
abbrev pub seq_limit : ℕ
seq_limit = 2 ^ 40 - 1

abbrev pub epoch_limit : ℕ
epoch_limit = 2 ^ 62 - 1

-- a number as it stands, where one more passes its limit
abbrev pub at_limit : ℕ → ℕ → Option ℕ
at_limit limit n = if nat_lt n limit then None else Some n

-- The number, as it stands, that a call would raise past its limit: a set or a delete raises the length, a clear and a
-- rollback that goes to a mark raise the epoch.
abbrev pub worn : State → Call → Option ℕ
worn s (Set key doc) = at_limit seq_limit (length_of s)
worn s (Del key) = at_limit seq_limit (length_of s)
worn s (Get key) = None
worn s (Feed epoch after limit) = None
worn s Mark = None
worn s (Forget mark) = None
worn s (Rollback to) = option_and_then (λ _. at_limit epoch_limit s.epoch) (mark_at_most s to)
worn s Clear = at_limit epoch_limit s.epoch
worn s Sync = None
worn s (Compact through) = None
worn s Stats = None

-- a call that passes no limit of numbers has room
abbrev pub HasRoom : State → Call → Type 0
HasRoom s call = worn s call ≡ None

-- what a compact speaks of is within the list
abbrev pub EndsWithin : State → Call → Type 0
EndsWithin s (Compact through) = through ≤ length_of s
EndsWithin s other = ⊤

-- each number is below those behind it
abbrev pub Rises : List ℕ → Type 0
Rises [] = ⊤
Rises (n ∷ ns) = AllByRecursion (λ k. n < k) ns × Rises ns

-- a state is one where its marks rise, are few enough and are places of its list
pub record IsState (s : State) : Type 0 where
  pub rise : Rises (marks_of s)
  pub few : length (marks_of s) ≤ mark_limit
  pub within : AllByRecursion (λ mark. mark ≤ length_of s) (marks_of s)

-- a state's numbers are at most their limits
pub record InLimits (s : State) : Type 0 where
  pub places : length_of s ≤ seq_limit
  pub epochs : s.epoch ≤ epoch_limit
