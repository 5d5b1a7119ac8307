-- A state of the log goes on standing for its history when a change is pushed and entered.
use Rattle.std.proofs.Common.{◌≡◌, inl, inr, ℕ, ◌+◌, ◌-◌, ◌<◌, ◌^◌, List, [], ◌∷◌, ◌++◌, length, map, refl, sym, ap, subst, ◌∙◌, arith, Bool, true, false, eqb}
use Rattle.std.specs.Prelude.{◌⊎◌, if◌then◌else◌}
use Rattle.std.specs.List.{filter}
use Rattle.std.proofs.lemmas.Bool.Decides.{nat_tests}
use Rattle.std.proofs.lemmas.List.{length-append, length-map}
use Rattle.mg_disk.specs.Images.{View}
use Rattle.mg_turn.specs.History.{calls_by, IsPrefix}
use Rattle.mg_turn.specs.Passes.{HasEntered, PassState}
use Rattle.mg_types.specs.declared.faults.Fault.{Fault}
use Rattle.mg_types.specs.declared.faults.Fault.TheVariants.{NoMemory}
use Rattle.mg_wal_format.specs.Logs.{counts_after, one_more}
use Rattle.mg_wal_format.specs.Records.{Counts, counts_in}
use Rattle.mg_wal_format.proofs.LogLaws.{counts_after-append}
use Rattle.mg_wal.specs.Book.{changes_of, Book, Entry, IsWorn}
use Rattle.mg_wal.specs.Lists.{last_opened, next_of, opened_counts, recs_of, Basis, Books, KeepsBooksWith}
use Rattle.mg_wal.specs.Shares.{changes_in, last_in, AreOfCallers, IsWornAt}
use Rattle.mg_wal.specs.Stories.{KeepsReachWith, Reaches}
use mathlib.Core.List.{map-append}

-- what a state of these names stands for
abbrev pub Stands : Basis → ℕ → List ℕ → Type 0 → ℕ → List (ℕ × Entry) → Book → View → Type 0
Stands basis since released Tells first history book view =
    (first ≡ last_opened basis) × AreOfCallers history × (book.released ≡ released) × Books basis (changes_in history) book
    × (Tells → Reaches basis (changes_in history) since basis.reached book view)

length-recs_of : (counts : Counts) (number : ℕ) (list : List Entry) → length (recs_of counts number list) ≡ length list
length-recs_of counts number [] = refl
length-recs_of counts number (e ∷ es) = omega (arith, length-recs_of (one_more counts e.0) (number + 1) es)

-- the last record's number is that of the history's last entry
pub last_is : (basis : Basis) (history : List (ℕ × Entry)) (book : Book) → Books basis (changes_in history) book → book.last ≡ last_in basis history
last_is basis history book books =
    omega (
      arith,
      books.last,
      books.first,
      length-append basis.opened (recs_of (opened_counts basis) (next_of basis) (changes_in history)),
      length-recs_of (opened_counts basis) (next_of basis) (changes_in history),
      length-map history (λ (x : ℕ × Entry). x.1),
    )

pub has_place : (basis : Basis) (history : List (ℕ × Entry)) (book : Book) → Books basis (changes_in history) book → book.last < 2 ^ 62 - 1 → length history < 2 ^ 62 - 1
has_place basis history book books room = omega (arith, last_is basis history book books, room)

callers-more : (history : List (ℕ × Entry)) (x : ℕ × Entry) → AreOfCallers history → x.0 ≡ x.1.0 + 1 → AreOfCallers (history ++ x ∷ [])
callers-more [] x are is = (is, tt)
callers-more (y ∷ history) x are is = (are.0, callers-more history x are.1 is)

pub stands_more : (basis : Basis) (since : ℕ) (released : List ℕ) (Tells : Type 0) (first : ℕ) (history : List (ℕ × Entry)) (caller : ℕ) (e : Entry) (old new : Book) (before after : View)
    → Stands basis since released Tells first history old before → caller ≡ e.0 + 1 → KeepsBooksWith e old new → (Tells → KeepsReachWith e old new before after) → new.released ≡ old.released
    → Stands basis since released Tells first (history ++ (caller, e) ∷ []) new after
stands_more basis since released Tells first history caller e old new before after stands is books reaches same =
    let list : changes_in (history ++ (caller, e) ∷ []) ≡ changes_in history ++ e ∷ [] = map-append (λ (x : ℕ × Entry). x.1) history ((caller, e) ∷ []) in (
      stands.0,
      callers-more history (caller, e) stands.1 is,
      same ∙ stands.2,
      subst (λ (l : List Entry). Books basis l new) (sym list) (books basis (changes_in history) stands.3),
      (λ tells.
          subst (λ (l : List Entry). Reaches basis l since basis.reached new after) (sym list) (reaches tells basis (changes_in history) since basis.reached stands.3 (stands.4 tells))),
    )

-- the test of an entry's partition is that of its caller
same_test : (part caller own : ℕ) → caller ≡ own + 1 → eqb part own ≡ eqb caller (part + 1)
same_test part caller own is = grind (arith, nat_tests)

counted : (mine theirs : Bool) (n : ℕ) (x : ℕ × Entry) (rest : List (ℕ × Entry)) → mine ≡ theirs
    → (if mine then n + 1 else n) + length (map (λ (y : ℕ × Entry). y.1) rest) ≡ n + length (map (λ (y : ℕ × Entry). y.1) (if theirs then x ∷ rest else rest))
counted true true n x rest is = omega arith
counted false false n x rest is = refl
counted true false n x rest is = absurd (cc is)
counted false true n x rest is = absurd (cc is)

-- the changes of a partition are the calls of its caller
counts_calls : (counts others : Counts) (number : ℕ) (history : List (ℕ × Entry)) (part : ℕ) → AreOfCallers history
    → counts_after counts (recs_of others number (changes_in history)) part ≡ counts part + length (calls_by (part + 1) history)
counts_calls counts others number [] part are = omega arith
counts_calls counts others number (x ∷ history) part are =
    counts_calls (one_more counts x.1.0) (one_more others x.1.0) (number + 1) history part are.1
    ∙ counted (eqb part x.1.0) (eqb x.0 (part + 1)) (counts part) x (filter (λ (y : ℕ × Entry). eqb y.0 (part + 1)) history) (same_test part x.0 x.1.0 are.0)

-- how many changes a partition has had, by the calls of its caller
pub changes_are : (basis : Basis) (history : List (ℕ × Entry)) (book : Book) (part : ℕ) → Books basis (changes_in history) book → AreOfCallers history
    → changes_of book part ≡ opened_counts basis part + length (calls_by (part + 1) history)
changes_are basis history book part books are =
    books.changes part
    ∙ ap (λ (c : Counts). c part) (counts_after-append basis.opened (recs_of (opened_counts basis) (next_of basis) (changes_in history)) (counts_in basis.low))
    ∙ counts_calls (opened_counts basis) (opened_counts basis) (next_of basis) history part are

pub worn_at : (basis : Basis) (history : List (ℕ × Entry)) (book : Book) (part caller : ℕ) (calls : List Entry) (fault : Fault) → Books basis (changes_in history) book → AreOfCallers history
    → caller ≡ part + 1 → calls_by caller history ≡ calls → IsWorn book part fault → IsWornAt (last_in basis history) (opened_counts basis part + length calls) fault
worn_at basis history book part caller calls fault books are is mine worn =
    let change : changes_of book part ≡ opened_counts basis part + length calls =
    changes_are basis history book part books are ∙ ap (λ (n : ℕ). opened_counts basis part + length (calls_by n history)) (sym is) ∙ ap (λ (l : List Entry). opened_counts basis part + length l) mine in
    subst (λ (n : ℕ). IsWornAt n (opened_counts basis part + length calls) fault) (last_is basis history book books) (subst (λ (n : ℕ). IsWornAt book.last n fault) change worn)

-- the number of the change that was pushed
pub next_number : (basis : Basis) (history seen : List (ℕ × Entry)) (x : ℕ × Entry) (book : Book) (number : ℕ) → Books basis (changes_in history) book → number ≡ book.last + 1 → seen ≡ history ++ x ∷ [] → number ≡ last_in basis seen
next_number basis history seen x book number books is same = omega (arith, is, last_is basis history book books, ap (λ (l : List (ℕ × Entry)). length l) same, length-append history (x ∷ []))

-- the turn was taken, an entry was entered, and the turn was given back
pub has_entered : {E : Type 0} (p taken entered given : PassState E) (e : E) (before later synced reached : ℕ)
    → taken ≡ record p { seen = taken.seen; faults = before; synced = synced; holds = true } → entered ≡ record taken { calls = taken.calls ++ e ∷ []; seen = taken.seen ++ (taken.caller, e) ∷ [] }
    → given ≡ record entered { faults = later; synced = reached; holds = false } → p.holds ≡ false → IsPrefix p.seen taken.seen → HasEntered p given e
has_entered {E} p taken entered given e before later synced reached t n g free prefix =
    let turn : given.turn ≡ p.turn = ap (λ v. v.turn) g ∙ ap (λ v. v.turn) n ∙ ap (λ v. v.turn) t in
    let first : given.first ≡ p.first = ap (λ v. v.first) g ∙ ap (λ v. v.first) n ∙ ap (λ v. v.first) t in
    let caller : given.caller ≡ p.caller = ap (λ v. v.caller) g ∙ ap (λ v. v.caller) n ∙ ap (λ v. v.caller) t in
    let calls : given.calls ≡ p.calls ++ e ∷ [] = ap (λ v. v.calls) g ∙ ap (λ v. v.calls) n ∙ ap (λ v. v.calls ++ e ∷ []) t in
    let met : given.met ≡ p.met = ap (λ v. v.met) g ∙ ap (λ v. v.met) n ∙ ap (λ v. v.met) t in
    let parts : given.parts ≡ p.parts = ap (λ v. v.parts) g ∙ ap (λ v. v.parts) n ∙ ap (λ v. v.parts) t in
    let next : given.next ≡ p.next = ap (λ v. v.next) g ∙ ap (λ v. v.next) n ∙ ap (λ v. v.next) t in
    let holds : given.holds ≡ p.holds = ap (λ v. v.holds) g ∙ sym free in
    record {
      before = taken.seen;
      begins = prefix;
      seen = ap (λ v. v.seen) g ∙ ap (λ v. v.seen) n ∙ ap (λ (c : ℕ). taken.seen ++ (c, e) ∷ []) (ap (λ v. v.caller) t);
      rest = λ i. record { turn = turn i; first = first i; caller = caller i; calls = calls i; met = met i; seen = given.seen; faults = given.faults; synced = given.synced; parts = parts i; next = next i; holds = holds i };
    }

-- the same, of a pass that has seen the entry
pub stands_entered : (basis : Basis) (since : ℕ) (released : List ℕ) (Tells : Type 0) (first later : ℕ) (history seen : List (ℕ × Entry)) (caller : ℕ) (e : Entry) (old new : Book) (before after : View)
    → Stands basis since released Tells first history old before → later ≡ first → seen ≡ history ++ (caller, e) ∷ [] → caller ≡ e.0 + 1
    → KeepsBooksWith e old new → (Tells → KeepsReachWith e old new before after) → new.released ≡ old.released → Stands basis since released Tells later seen new after
stands_entered basis since released Tells first later history seen caller e old new before after stands is_first is_seen is books reaches same =
    subst (λ (h : List (ℕ × Entry)). Stands basis since released Tells later h new after) (sym is_seen)
    (subst (λ (n : ℕ). Stands basis since released Tells n (history ++ (caller, e) ∷ []) new after) (sym is_first)
    (stands_more basis since released Tells first history caller e old new before after stands is books reaches same))

-- what a push that failed answers, by the pass before it
pub err_at : (basis : Basis) (book : Book) (part : ℕ) (own caller : ℕ) (mine calls : List Entry) (history seen : List (ℕ × Entry)) (fault : Fault)
    → Books basis (changes_in history) book → AreOfCallers history → own ≡ part + 1 → caller ≡ own → mine ≡ calls → seen ≡ history → calls_by caller history ≡ mine
    → (fault ≡ NoMemory) ⊎ IsWorn book part fault → (fault ≡ NoMemory) ⊎ IsWornAt (last_in basis seen) (opened_counts basis part + length calls) fault
err_at basis book part own caller mine calls history seen fault books are is same is_mine is_seen made (inl none) = inl none
err_at basis book part own caller mine calls history seen fault books are is same is_mine is_seen made (inr worn) =
    let at = worn_at basis history book part caller calls fault books are (same ∙ is) (made ∙ is_mine) worn in
    inr (subst (λ (h : List (ℕ × Entry)). IsWornAt (last_in basis h) (opened_counts basis part + length calls) fault) (sym is_seen) at)
