-- All calls, one after the other.
use Rattle.std.proofs.Common.{◌≡◌, ◌<◌, ◌≤◌, ℕ, List, [], ◌∷◌, ◌++◌, length, Bool, Option, Result, Ok, Err, ap, subst, sym, ◌∙◌, arith}
use Rattle.std.specs.Iterator.{Yields}
use Rattle.std.proofs.lemmas.List.{append_assoc, append-nil, length-append, length_push, nil_from_length}
use Rattle.std.specs.Prelude.{IsTrue}
use Rattle.std.specs.Io.KnownBytes.{Appends}
use Rattle.std.specs.Vec.Iter.{into_iter_items, into_iter_len, into_iter_steps}
use Rattle.std.specs.declared.vec.IntoIter.{IntoIter}
use Rattle.std.proofs.KnownBytes.{Appends-trans}
use Rattle.mg_disk.specs.Images.{View}
use Rattle.mg_model.specs.declared.replies.Answer.{Answer}
use Rattle.mg_script.specs.declared.script.Line.{Line}
use Rattle.mg_types.specs.declared.faults.Fault.{Fault}
use Rattle.mg_wal.specs.Book.{Book}
use Rattle.mg_wal.specs.Lists.{Basis}
use Rattle.mg_serve.specs.Answers.{line_limit}
use Rattle.mg_serve.specs.Lasting.{Holds}
use Rattle.mg_serve.specs.Serving.{BrokeInLine, Made, ServedAll, ServedNext}
use Rattle.mg_serve.specs.Sessions.{Standing}
use Rattle.mg_serve.specs.Told.{call_texts, joined, numbered_answer, numbered_text}
use Rattle.mg_serve.specs.Writing.{StopsInLast}
use Rattle.mg_serve.proofs.Answering.{joined-push, texts-push}
use Rattle.mg_serve.proofs.Pieces.{stops_behind}
use Rattle.mg_serve.proofs.Rising.{rises_next}

-- what the iterator of a vector has given is a front of its items
pub taken_front : {X A : Type 0} (s : IntoIter X A) (xs : List X) (t : IntoIter X A) → Yields into_iter_steps s xs t → into_iter_items s ≡ xs ++ into_iter_items t
taken_front s [] t y = ap into_iter_items y
taken_front s (x ∷ xs) t y = y.1.0 ∙ ap (λ ys. x ∷ ys) (taken_front y.0 xs t y.2)

-- an iterator with nothing left has no items
none_left : {X A : Type 0} (t : IntoIter X A) → into_iter_len t ≡ 0 → into_iter_items t ≡ []
none_left t none = nil_from_length t.rest.items (sym t.rest.ok.0 ∙ none)

-- all items were given where the iterator has nothing left
pub all_given : {X A : Type 0} (items : List X) (s : IntoIter X A) (xs : List X) (t : IntoIter X A) → into_iter_items s ≡ items → Yields into_iter_steps s xs t → into_iter_len t ≡ 0 → xs ≡ items
all_given items s xs t is given none = sym (append-nil xs) ∙ ap (λ ys. xs ++ ys) (sym (none_left t none)) ∙ sym (taken_front s xs t given) ∙ is

-- the items are those given, the next and those left
pub next_given : {X A : Type 0} (items : List X) (s : IntoIter X A) (xs : List X) (t u : IntoIter X A) (x : X) → into_iter_items s ≡ items → Yields into_iter_steps s xs t → into_iter_items t ≡ x ∷ into_iter_items u
    → items ≡ (xs ++ x ∷ []) ++ into_iter_items u
next_given items s xs t u x is given next = sym is ∙ taken_front s xs t given ∙ ap (λ ys. xs ++ ys) next ∙ sym (append_assoc xs (x ∷ []) (into_iter_items u))

-- with a line more to come, fewer were given than may be
pub few_given : (items lines : List Line) (line : Line) (rest : List Line) → length items ≤ line_limit → items ≡ (lines ++ line ∷ []) ++ rest → length lines < line_limit
few_given items lines line rest few is = omega (arith, few, ap (λ (ls : List Line). length ls) is, length-append (lines ++ line ∷ []) rest, length_push lines line)

-- what a call keeps of the log
abbrev pub Kept : Basis → List Line → List Answer → Line → Bool → Book → View → Book → View → Answer → Type 0
Kept basis lines answers line tells old view new view' answer = IsTrue tells → (opening : ℕ) → Holds basis lines answers opening old view → Holds basis (lines ++ line ∷ []) (answers ++ answer ∷ []) opening new view'

-- one call more was made
made_next : (basis : Basis) (lines : List Line) (answers : List Answer) (line : Line) (standing standing' : Standing) (opening count mid now : ℕ) (tells : Bool) (old : Book) (was view view' : View)
    (w w' : Option (List ℕ)) (k k' : ℕ) (result : Result Unit Fault) → Made basis lines answers standing opening count mid tells old was view
    → (n : ServedNext basis lines answers line standing' mid now w w' k k' result (Kept basis lines answers line tells standing.book view standing'.book view'))
    → Made basis (lines ++ line ∷ []) (answers ++ n.answer ∷ []) standing' opening count now tells old was view'
made_next basis lines answers line standing standing' opening count mid now tells old was view view' w w' k k' result made n = record {
  stands = n.stands;
  rises = rises_next answers n.answer count mid now made.rises n.cause n.once;
  holds = λ t reaches. n.keeps t opening (made.holds t reaches);
}

-- one call more was answered and written
pub served_on : (basis : Basis) (lines : List Line) (line : Line) (standing standing' : Standing) (opening count mid now : ℕ) (tells : Bool) (old : Book) (was view view' : View)
    (w w' w'' : Option (List ℕ)) (k k' k'' : ℕ)
    → (a : ServedAll lines w w' k k' (λ lines answers. Made basis lines answers standing opening count mid tells old was view))
    → ServedNext basis lines a.answers line standing' mid now w' w'' k' k'' (Ok tt) (Kept basis lines a.answers line tells standing.book view standing'.book view') → k'' ≡ k'
    → ServedAll (lines ++ line ∷ []) w w'' k k'' (λ lines answers. Made basis lines answers standing' opening count now tells old was view')
served_on basis lines line standing standing' opening count mid now tells old was view view' w w' w'' k k' k'' a n same =
    let so_far = call_texts lines a.answers in
    let next = numbered_text (numbered_answer lines line n.answer) in
    let text : joined (call_texts (lines ++ line ∷ []) (a.answers ++ n.answer ∷ [])) ≡ joined so_far ++ next =
    ap joined (texts-push basis lines a.answers line n.answer a.made.stands.fit) ∙ joined-push so_far next in
    record {
      answers = a.answers ++ n.answer ∷ [];
      made = made_next basis lines a.answers line standing standing' opening count mid now tells old was view view' w' w'' k' k'' (Ok tt) a.made n;
      text = subst (λ (t : List ℕ). Appends w w'' t) (sym text) (Appends-trans w w' w'' (joined so_far) next a.text n.text);
      sink = same ∙ a.sink;
    }

-- one call more was answered, and writing its line stopped
pub broke_on : (basis : Basis) (all lines behind : List Line) (line : Line) (standing standing' : Standing) (opening count mid now : ℕ) (tells : Bool) (old : Book) (was view view' : View)
    (w w' w'' : Option (List ℕ)) (k k' k'' : ℕ) (f : Fault) → all ≡ (lines ++ line ∷ []) ++ behind
    → (a : ServedAll lines w w' k k' (λ lines answers. Made basis lines answers standing opening count mid tells old was view))
    → ServedNext basis lines a.answers line standing' mid now w' w'' k' k'' (Err f) (Kept basis lines a.answers line tells standing.book view standing'.book view')
    → BrokeInLine all w w'' k k'' (λ lines answers. Made basis lines answers standing' opening count now tells old was view') f
broke_on basis all lines behind line standing standing' opening count mid now tells old was view view' w w' w'' k k' k'' f split a n =
    let so_far = call_texts lines a.answers in
    let next = numbered_text (numbered_answer lines line n.answer) in
    record {
      first = lines ++ line ∷ [];
      behind = behind;
      answers = a.answers ++ n.answer ∷ [];
      split = split;
      made = made_next basis lines a.answers line standing standing' opening count mid now tells old was view view' w' w'' k' k'' (Err f) a.made n;
      text = subst (λ (ts : List (List ℕ)). StopsInLast w w'' k k'' ts f) (sym (texts-push basis lines a.answers line n.answer a.made.stands.fit))
          (stops_behind so_far next w w' w'' k k' k'' f a.text a.sink n.text);
    }
