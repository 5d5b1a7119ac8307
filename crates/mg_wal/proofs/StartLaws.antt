-- Two callers behind a turn over a log that began empty.
use Rattle.std.proofs.Common.{◌≡◌, ℕ, zero, suc, ◌+◌, ◌<◌, List, [], ◌∷◌, ◌++◌, length, refl, sym, ap, subst, ◌∙◌, arith}
use Rattle.std.proofs.lemmas.List.{length-append}
use Rattle.mg_disk.specs.Images.{View}
use Rattle.mg_turn.specs.History.{calls_in, AreCalls}
use Rattle.mg_turn.specs.Passes.{met_with, own_calls, HasEntered, IsWaiting, PassState}
use Rattle.mg_wal_format.specs.declared.record.Rec.{Rec}
use Rattle.mg_wal.specs.Book.{Book, Entry}
use Rattle.mg_wal.specs.Lists.{opened_counts, Basis, Books}
use Rattle.mg_wal.specs.Openings.{basis_for}
use Rattle.mg_wal.specs.Shares.{changes_in, AreOfCallers}
use Rattle.mg_wal.specs.Starts.{at_start, HasOnly, IsAlone, StandsAtStart}
use Rattle.mg_wal.specs.Stories.{Reaches}
use Rattle.mg_wal.proofs.ShareLaws.{changes_are, last_is}

-- what was found is what stands at the start, from the first moment on
pub stands_at_start : (book : Book) (recs : List Rec) (low : List ℕ) (moment : ℕ) (view : View) → basis_for book recs low ≡ at_start → Books (basis_for book recs low) [] book → book.released ≡ low → moment ≡ 0
    → Reaches (basis_for book recs low) [] moment book.reach book view → StandsAtStart book view
stands_at_start book recs low moment view is books released start reaches =
    record {
      list = subst (λ (b : Basis). Books b [] book) is books;
      released = released ∙ ap (λ (b : Basis). b.low) is;
      reaches = subst (λ (x : Basis × ℕ). Reaches x.0 [] x.1 x.0.reached book view) (λ i. (is i, start i)) reaches;
    }

-- the caller has made a call more
pub alone_more : (turn : _) (caller parts count : ℕ) (p q : PassState Entry) (e : Entry) → IsAlone turn caller parts count p → HasEntered p q e → IsAlone turn caller parts (count + 1) q
alone_more turn caller parts count p q e is entered =
    let same = entered.rest in
    record {
      waits = record {
        own = ap (λ v. v.turn) same ∙ is.waits.own;
        live = subst (λ (n : ℕ). 0 < n) (sym (ap (λ v. v.parts) same)) is.waits.live;
        free = ap (λ v. v.holds) same ∙ is.waits.free;
      };
      caller_is = ap (λ v. v.caller) same ∙ is.caller_is;
      parts_are = ap (λ v. v.parts) same ∙ is.parts_are;
      calls = ap (λ v. length v.calls) same ∙ (length-append p.calls (e ∷ []) ∙ ap (λ (n : ℕ). n + 1) is.calls);
      met = ap (λ v. v.met) same ∙ is.met;
    }

-- a pass that saw more, and made no call
pub alone_kept : (turn : _) (caller parts count : ℕ) (p q : PassState Entry) → IsAlone turn caller parts count p → q ≡ record p { seen = q.seen; faults = q.faults; synced = q.synced } → IsAlone turn caller parts count q
alone_kept turn caller parts count p q is same =
    record {
      waits = record {
        own = ap (λ v. v.turn) same ∙ is.waits.own;
        live = subst (λ (n : ℕ). 0 < n) (sym (ap (λ v. v.parts) same)) is.waits.live;
        free = ap (λ v. v.holds) same ∙ is.waits.free;
      };
      caller_is = ap (λ v. v.caller) same ∙ is.caller_is;
      parts_are = ap (λ v. v.parts) same ∙ is.parts_are;
      calls = ap (λ v. length v.calls) same ∙ is.calls;
      met = ap (λ v. v.met) same ∙ is.met;
    }

-- a pass that met another still waits
pub waits_met : (turn : _) (p q both : PassState Entry) → IsWaiting turn p → both ≡ met_with p q → IsWaiting turn both
waits_met turn p q both is same =
    record {
      own = ap (λ v. v.turn) same ∙ is.own;
      live = (let live = is.live in let parts : both.parts ≡ p.parts + q.parts = ap (λ v. v.parts) same in omega arith);
      free = ap (λ v. v.holds) same ∙ is.free;
    }

-- the calls of three callers that have met
own_of_three : (turn : _) (most m n : ℕ) (p one two mid both : PassState Entry) → IsAlone turn 0 most 0 p → IsAlone turn 1 1 m one → IsAlone turn 2 1 n two → mid ≡ met_with p one → both ≡ met_with mid two
    → own_calls both ≡ (0, p.calls) ∷ (1, one.calls) ∷ (2, two.calls) ∷ []
own_of_three turn most m n p one two mid both of_p of_one of_two is_mid is_both =
    let caller : both.caller ≡ 0 = ap (λ v. v.caller) is_both ∙ ap (λ v. v.caller) is_mid ∙ of_p.caller_is in
    let calls : both.calls ≡ p.calls = ap (λ v. v.calls) is_both ∙ ap (λ v. v.calls) is_mid in
    let first : mid.met ≡ (1, one.calls) ∷ [] =
    ap (λ v. v.met) is_mid ∙ (ap (λ (l : List (ℕ × List Entry)). l ++ own_calls one) of_p.met ∙ ap (λ (x : ℕ × List (ℕ × List Entry)). (x.0, one.calls) ∷ x.1) (λ i. (of_one.caller_is i, of_one.met i))) in
    let second : own_calls two ≡ (2, two.calls) ∷ [] = λ i. (of_two.caller_is i, two.calls) ∷ of_two.met i in
    let met : both.met ≡ (1, one.calls) ∷ (2, two.calls) ∷ [] = ap (λ v. v.met) is_both ∙ λ i. first i ++ second i in
    λ i. (caller i, calls i) ∷ met i

pub parts_of_three : (turn : _) (m n : ℕ) (p one two mid both : PassState Entry) → IsAlone turn 0 65534 0 p → IsAlone turn 1 1 m one → IsAlone turn 2 1 n two → mid ≡ met_with p one → both ≡ met_with mid two → both.parts ≡ 65536
parts_of_three turn m n p one two mid both of_p of_one of_two is_mid is_both =
    let a : both.parts ≡ mid.parts + two.parts = ap (λ v. v.parts) is_both in
    let b : mid.parts ≡ p.parts + one.parts = ap (λ v. v.parts) is_mid in
    let x = of_p.parts_are in let y = of_one.parts_are in let z = of_two.parts_are in omega arith

-- at the start each partition has had no changes
start_is : (part : ℕ) → opened_counts at_start part ≡ 0
start_is zero = refl
start_is (suc zero) = refl
start_is (suc (suc part)) = refl

-- what the log has once all three have met, and the history has no other calls
pub only_of_three : (turn : _) (m n : ℕ) (p one two mid both : PassState Entry) (book : Book) → IsAlone turn 0 65534 0 p → IsAlone turn 1 1 m one → IsAlone turn 2 1 n two → mid ≡ met_with p one → both ≡ met_with mid two
    → Books at_start (changes_in both.seen) book → AreOfCallers both.seen → AreCalls both.seen (own_calls both) → length both.seen ≡ calls_in (own_calls both) → HasOnly m n book
only_of_three turn m n p one two mid both book of_p of_one of_two is_mid is_both books are calls counted =
    let own = own_of_three turn 65534 m n p one two mid both of_p of_one of_two is_mid is_both in
    let made : AreCalls both.seen ((0, p.calls) ∷ (1, one.calls) ∷ (2, two.calls) ∷ []) = subst (AreCalls both.seen) own calls in
    let whole : length both.seen ≡ length p.calls + (length one.calls + (length two.calls + 0)) = counted ∙ ap (λ (l : List (ℕ × List Entry)). calls_in l) own in
    record {
      parts = books.parts;
      last = omega (arith, last_is at_start both.seen book books, whole, of_p.calls, of_one.calls, of_two.calls);
      first = omega (arith, changes_are at_start both.seen book 0 books are, start_is 0, ap (λ (l : List Entry). length l) made.1.0, of_one.calls);
      second = omega (arith, changes_are at_start both.seen book 1 books are, start_is 1, ap (λ (l : List Entry). length l) made.1.1.0, of_two.calls);
    }
