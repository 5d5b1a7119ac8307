-- A state stays one, step by step, and the changes that it allows are those that calls make.
use Rattle.std.proofs.Common.{◌≡◌, ℕ, ◌<◌, ◌≤◌, max, List, [], ◌∷◌, ◌++◌, length, take, Bool, true, false, cond, not, ◌||◌, ◌==◌, nat_le, Option, None, Some, unwrap_or, refl, ap, ◌∙◌, sym, arith, ◌≢◌, subst}
use Rattle.std.specs.Option.{option_map_or, option_map}
use Rattle.std.specs.Bool.{if◌then◌else◌, IsTrue}
use Rattle.std.specs.List.{AllByRecursion, filter, list_any}
use Rattle.std.proofs.lemmas.List.{length_push, length-take}
use Rattle.std.proofs.lemmas.Bool.{eqb-true, eqb-false, ltb-true, leb-true, leb-false}
use Rattle.std.proofs.lemmas.Bool.Decides.{nat_tests}
use Rattle.mg_model.specs.declared.calls.Call.{Call}
use Rattle.mg_model.specs.declared.calls.Call.TheVariants.{Set, Del, Get, Feed, Mark, Forget, Rollback, Clear, Sync, Compact, Stats}
use Rattle.mg_model.specs.declared.calls.Change.{Change}
use Rattle.mg_model.specs.declared.calls.Change.TheVariants as change
use Rattle.mg_model.specs.Mutations.{greatest}
use Rattle.mg_model.specs.State.{State, IsState, Rises, step, length_of, marks_of, mark_limit, has_mark_room, is_mark, mark_at_most, new_state, after_mark, after_forget, after_back, after_clear}
use Rattle.mg_model.specs.History.{allows, call_for, change_of, after_change}

all_map : {X : Type 0} (P Q : X → Type 0) → ((x : X) → P x → Q x) → (xs : List X) → AllByRecursion P xs → AllByRecursion Q xs
all_map P Q f [] a = a
all_map P Q f (x ∷ xs) a = (f x a.0, all_map P Q f xs a.1)

all_filter : {X : Type 0} (P : X → Type 0) (p : X → Bool) (xs : List X) → AllByRecursion P xs → AllByRecursion P (filter p xs)
all_filter P p [] a = a
all_filter P p (x ∷ xs) a = kept (p x) (all_filter P p xs a.1)
  where
    kept : (b : Bool) → AllByRecursion P (filter p xs) → AllByRecursion P (cond b (x ∷ filter p xs) (filter p xs))
    kept true rest = (a.0, rest)
    kept false rest = rest

all_push : {X : Type 0} (P : X → Type 0) (xs : List X) (x : X) → AllByRecursion P xs → P x → AllByRecursion P (xs ++ x ∷ [])
all_push P [] x a h = (h, tt)
all_push P (y ∷ ys) x a h = (a.0, all_push P ys x a.1 h)

rises_filter : (p : ℕ → Bool) (ns : List ℕ) → Rises ns → Rises (filter p ns)
rises_filter p [] r = r
rises_filter p (n ∷ ns) r = kept (p n) (rises_filter p ns r.1)
  where
    kept : (b : Bool) → Rises (filter p ns) → Rises (cond b (n ∷ filter p ns) (filter p ns))
    kept true rest = (all_filter (λ k. n < k) p ns r.0, rest)
    kept false rest = rest

rises_push : (ns : List ℕ) (n : ℕ) → Rises ns → AllByRecursion (λ k. k < n) ns → Rises (ns ++ n ∷ [])
rises_push [] n r a = (tt, tt)
rises_push (m ∷ ns) n r a = (all_push (λ k. m < k) ns n r.0 a.0, rises_push ns n r.1 a.1)

length_filter : (p : ℕ → Bool) (ns : List ℕ) → length (filter p ns) ≤ length ns
length_filter p [] = omega arith
length_filter p (n ∷ ns) = kept (p n) (length_filter p ns)
  where
    kept : (b : Bool) → length (filter p ns) ≤ length ns → length (cond b (n ∷ filter p ns) (filter p ns)) ≤ length (n ∷ ns)
    kept true l = omega arith
    kept false l = omega arith

-- where a place is no mark, the marks up to it are below it
all_below : (ns : List ℕ) (n : ℕ) → list_any (λ k. k == n) ns ≡ false → AllByRecursion (λ k. k ≤ n) ns → AllByRecursion (λ k. k < n) ns
all_below [] n e a = tt
all_below (m ∷ ns) n e a = parted (m == n) refl e (λ f. all_below ns n f a.1)
  where
    parted : (b : Bool) → (m == n) ≡ b → (b || list_any (λ k. k == n) ns) ≡ false → (list_any (λ k. k == n) ns ≡ false → AllByRecursion (λ k. k < n) ns) → (m < n) × AllByRecursion (λ k. k < n) ns
    parted true f e rest = absurd cc
    parted false f e rest = (let other : m ≢ n = eqb-false m n f in let most : m ≤ n = a.0 in omega arith, rest e)

-- the numbers up to n are at most n
up_to : (ns : List ℕ) (n : ℕ) → AllByRecursion (λ k. k ≤ n) (filter (λ k. nat_le k n) ns)
up_to [] n = tt
up_to (m ∷ ns) n = kept (nat_le m n) refl (up_to ns n)
  where
    rest : List ℕ
    rest = filter (λ k. nat_le k n) ns

    kept : (b : Bool) → nat_le m n ≡ b → AllByRecursion (λ k. k ≤ n) rest → AllByRecursion (λ k. k ≤ n) (cond b (m ∷ rest) rest)
    kept true e a = (omega (arith, leb-true, e), a)
    kept false e a = a

-- a state with more places is one
grown : (s t : State) → marks_of t ≡ marks_of s → length_of s ≤ length_of t → IsState s → IsState t
grown s t e l i = record {
  rise = subst Rises (sym e) i.rise;
  few = subst (λ ms. length ms ≤ mark_limit) (sym e) i.few;
  within = subst (AllByRecursion (λ m. m ≤ length_of t)) (sym e) (all_map (λ m. m ≤ length_of s) (λ m. m ≤ length_of t) (λ m h. omega arith) (marks_of s) i.within);
}

-- a state with its length as a mark is one, where that is one already or there is room
marked : (s : State) → (is_mark s (length_of s) || has_mark_room s) ≡ true → IsState s → IsState (after_mark s)
marked s h i = by_mark (is_mark s (length_of s)) refl
  where
    by_mark : (b : Bool) → is_mark s (length_of s) ≡ b → IsState (if b then s else record s { marks = marks_of s ++ length_of s ∷ [] })
    by_mark true e = i
    by_mark false e =
        let room : has_mark_room s ≡ true = ap (λ b. b || has_mark_room s) (sym e) ∙ h in
        record {
          rise = rises_push (marks_of s) (length_of s) i.rise (all_below (marks_of s) (length_of s) e i.within);
          few = omega (arith, ltb-true, room, length_push (marks_of s) (length_of s));
          within = all_push (λ m. m ≤ length_of s) (marks_of s) (length_of s) i.within (omega arith);
        }

forgotten : (s : State) (place : ℕ) → IsState s → IsState (after_forget s place)
forgotten s place i = record {
  rise = rises_filter (λ m. not (m == place)) (marks_of s) i.rise;
  few = omega (arith, i.few, length_filter (λ m. not (m == place)) (marks_of s));
  within = all_filter (λ m. m ≤ length_of s) (λ m. not (m == place)) (marks_of s) i.within;
}

gone_back : (s : State) (place : ℕ) → IsState s → IsState (after_back s place)
gone_back s place i =
    let both = all_both (marks_of s) i.within in
    record {
      rise = rises_filter (λ m. nat_le m place) (marks_of s) i.rise;
      few = omega (arith, i.few, length_filter (λ m. nat_le m place) (marks_of s));
      within = both;
    }
  where
    kept_within : (m : ℕ) → (m ≤ place) → (m ≤ length_of s) → m ≤ length (take place s.mutations)
    kept_within m h l = omega (arith, length-take place s.mutations)

    all_two : (ms : List ℕ) → AllByRecursion (λ m. m ≤ place) ms → AllByRecursion (λ m. m ≤ length_of s) ms → AllByRecursion (λ m. m ≤ length (take place s.mutations)) ms
    all_two [] a b = tt
    all_two (m ∷ ms) a b = (kept_within m a.0 b.0, all_two ms a.1 b.1)

    all_both : (ms : List ℕ) → AllByRecursion (λ m. m ≤ length_of s) ms → AllByRecursion (λ m. m ≤ length (take place s.mutations)) (filter (λ m. nat_le m place) ms)
    all_both ms a = all_two (filter (λ m. nat_le m place) ms) (up_to ms place) (all_filter (λ m. m ≤ length_of s) (λ m. nat_le m place) ms a)

cleared : (s : State) → IsState (after_clear s)
cleared s = record { rise = tt; few = omega arith; within = tt }

pub new_state_is_one : IsState new_state
new_state_is_one = record { rise = tt; few = omega arith; within = tt }

-- a step leaves a state a state
pub step_keeps : (s : State) (call : Call) → IsState s → IsState (step s call).state
step_keeps s (Set key doc) i = grown s (step s (Set key doc)).state refl (omega (arith, length_push s.mutations (Some (record { key = key; doc = Some doc })))) i
step_keeps s (Del key) i = grown s (step s (Del key)).state refl (omega (arith, length_push s.mutations (Some (record { key = key; doc = None })))) i
step_keeps s (Get key) i = i
step_keeps s (Feed epoch after limit) i = i
step_keeps s Mark i = by_room (is_mark s (length_of s) || has_mark_room s) refl
  where
    by_room : (b : Bool) → (is_mark s (length_of s) || has_mark_room s) ≡ b → IsState (step s Mark).state
    by_room true e = rw e (marked s e i)
    by_room false e = rw e i
step_keeps s (Forget mark) i = by_mark (is_mark s mark) refl
  where
    by_mark : (b : Bool) → is_mark s mark ≡ b → IsState (step s (Forget mark)).state
    by_mark true e = rw e (forgotten s mark i)
    by_mark false e = rw e i
step_keeps s (Rollback to) i = by_mark (mark_at_most s to) refl
  where
    by_mark : (o : Option ℕ) → mark_at_most s to ≡ o → IsState (step s (Rollback to)).state
    by_mark None e = rw e i
    by_mark (Some mark) e = rw e (gone_back s mark i)
step_keeps s Clear i = cleared s
step_keeps s Sync i = i
step_keeps s (Compact through) i = i
step_keeps s Stats i = i

-- a change that a state allows leaves a state
pub change_keeps : (s : State) (c : Change) → IsTrue (allows s c) → IsState s → IsState (after_change s c)
change_keeps s (change.Set key doc) h i = step_keeps s (Set key doc) i
change_keeps s (change.Del key) h i = step_keeps s (Del key) i
change_keeps s change.Mark h i = marked s h i
change_keeps s (change.Forget mark) h i = forgotten s mark i
change_keeps s (change.Back mark) h i = gone_back s mark i
change_keeps s change.Clear h i = cleared s

-- the greatest of what is at most n is n, where n is there
greatest_up_to : (ns : List ℕ) (n : ℕ) → unwrap_or (greatest (filter (λ k. nat_le k n) ns)) 0 ≤ n
greatest_up_to [] n = omega arith
greatest_up_to (m ∷ ns) n = kept (nat_le m n) refl (greatest_up_to ns n)
  where
    rest : List ℕ
    rest = filter (λ k. nat_le k n) ns

    with_this : (o : Option ℕ) → m ≤ n → unwrap_or o 0 ≤ n → option_map_or (λ k. max m k) o m ≤ n
    with_this None h l = h
    with_this (Some k) h l = omega arith

    kept : (b : Bool) → nat_le m n ≡ b → unwrap_or (greatest rest) 0 ≤ n → unwrap_or (greatest (cond b (m ∷ rest) rest)) 0 ≤ n
    kept true e l = with_this (greatest rest) (omega (arith, leb-true, e)) l
    kept false e l = l

greatest_is : (ns : List ℕ) (n : ℕ) → list_any (λ k. k == n) ns ≡ true → greatest (filter (λ k. nat_le k n) ns) ≡ Some n
greatest_is [] n h = absurd cc
greatest_is (m ∷ ns) n h = by_head (m == n) refl h (λ e. greatest_is ns n e)
  where
    rest : List ℕ
    rest = filter (λ k. nat_le k n) ns

    topped : (o : Option ℕ) → unwrap_or o 0 ≤ n → option_map_or (λ k. max n k) o n ≡ n
    topped None l = refl
    topped (Some k) l = omega arith

    test_refl : nat_le n n ≡ true
    test_refl = grind (arith, nat_tests)

    taken : (b : Bool) → nat_le m n ≡ b → greatest rest ≡ Some n → greatest (cond b (m ∷ rest) rest) ≡ Some n
    taken true e r = ap (λ (o : Option ℕ). Some (option_map_or (λ k. max m k) o m)) r ∙ ap Some (let l : m ≤ n = omega (arith, leb-true, e) in omega arith)
    taken false e r = r

    by_head : (b : Bool) → (m == n) ≡ b → (b || list_any (λ k. k == n) ns) ≡ true → (list_any (λ k. k == n) ns ≡ true → greatest rest ≡ Some n) → greatest (cond (nat_le m n) (m ∷ rest) rest) ≡ Some n
    by_head true e h later =
        let same : m ≡ n = eqb-true m n e in
        ap (λ k. greatest (cond (nat_le k n) (k ∷ rest) rest)) same
        ∙ ap (λ b. greatest (cond b (n ∷ rest) rest)) test_refl
        ∙ ap Some (topped (greatest rest) (greatest_up_to ns n))
    by_head false e h later = taken (nat_le m n) refl (later h)

-- the greatest of some numbers is one of them
greatest_in : (ns : List ℕ) (n : ℕ) → greatest ns ≡ Some n → list_any (λ k. k == n) ns ≡ true
greatest_in [] n h = absurd cc
greatest_in (m ∷ ns) n h = by_rest (greatest ns) refl h (λ k e. greatest_in ns k e)
  where
    same : (a b : ℕ) → a ≡ b → (a == b) ≡ true
    same a b e = grind (arith, nat_tests)

    second : (a c : Bool) → c ≡ true → (a || c) ≡ true
    second true c h = refl
    second false c h = h

    by_rest : (o : Option ℕ) → greatest ns ≡ o → Some (option_map_or (λ k. max m k) o m) ≡ Some n → ((k : ℕ) → greatest ns ≡ Some k → list_any (λ j. j == k) ns ≡ true) → ((m == n) || list_any (λ k. k == n) ns) ≡ true
    by_rest None e h later = ap (λ b. b || list_any (λ k. k == n) ns) (same m n (let is : m ≡ n = cc in is))
    by_rest (Some k) e h later = by_order (nat_le k m) refl
      where
        top : max m k ≡ n
        top = cc

        by_order : (b : Bool) → nat_le k m ≡ b → ((m == n) || list_any (λ j. j == n) ns) ≡ true
        by_order true t = ap (λ b. b || list_any (λ j. j == n) ns) (same m n (omega (arith, top, leb-true, t)))
        by_order false t =
            let is : k ≡ n = omega (arith, top, leb-false, t) in
            ap (λ j. (m == n) || list_any (λ i. i == j) ns) (sym is) ∙ second (m == n) (list_any (λ i. i == k) ns) (later k e)

any_of_filter : (p q : ℕ → Bool) (ns : List ℕ) → list_any q (filter p ns) ≡ true → list_any q ns ≡ true
any_of_filter p q [] h = h
any_of_filter p q (n ∷ ns) h = by_test (p n) h (λ e. any_of_filter p q ns e)
  where
    either : (a b c : Bool) → (a || b) ≡ true → (b ≡ true → c ≡ true) → (a || c) ≡ true
    either true b c h f = refl
    either false b c h f = f h

    second : (a c : Bool) → c ≡ true → (a || c) ≡ true
    second true c h = refl
    second false c h = h

    by_test : (b : Bool) → list_any q (cond b (n ∷ filter p ns) (filter p ns)) ≡ true → (list_any q (filter p ns) ≡ true → list_any q ns ≡ true) → (q n || list_any q ns) ≡ true
    by_test true h later = either (q n) (list_any q (filter p ns)) (list_any q ns) h later
    by_test false h later = second (q n) (list_any q ns) (later h)

-- the change that a call makes is allowed
pub change_allowed : (s : State) (call : Call) (c : Change) → change_of s call ≡ Some c → IsTrue (allows s c)
change_allowed s (Set key doc) c h = (let is : change.Set key doc ≡ c = cc in ap (allows s) (sym is))
change_allowed s (Del key) c h = (let is : change.Del key ≡ c = cc in ap (allows s) (sym is))
change_allowed s (Get key) c h = absurd cc
change_allowed s (Feed epoch after limit) c h = absurd cc
change_allowed s Mark c h = by_test (is_mark s (length_of s) || has_mark_room s) refl h
  where
    by_test : (b : Bool) → (is_mark s (length_of s) || has_mark_room s) ≡ b → (if b then Some change.Mark else None) ≡ Some c → IsTrue (allows s c)
    by_test true e h = (let is : change.Mark ≡ c = cc in ap (allows s) (sym is) ∙ e)
    by_test false e h = absurd cc
change_allowed s (Forget mark) c h = by_test (is_mark s mark) refl h
  where
    by_test : (b : Bool) → is_mark s mark ≡ b → (if b then Some (change.Forget mark) else None) ≡ Some c → IsTrue (allows s c)
    by_test true e h = (let is : change.Forget mark ≡ c = cc in ap (allows s) (sym is) ∙ e)
    by_test false e h = absurd cc
change_allowed s (Rollback to) c h = by_mark (mark_at_most s to) refl h
  where
    by_mark : (o : Option ℕ) → mark_at_most s to ≡ o → option_map (λ mark. change.Back mark) o ≡ Some c → IsTrue (allows s c)
    by_mark None e h = absurd cc
    by_mark (Some mark) e h = (let is : change.Back mark ≡ c = cc in ap (allows s) (sym is) ∙ any_of_filter (λ k. nat_le k to) (λ k. k == mark) (marks_of s) (greatest_in (filter (λ k. nat_le k to) (marks_of s)) mark e))
change_allowed s Clear c h = (let is : change.Clear ≡ c = cc in ap (allows s) (sym is))
change_allowed s Sync c h = absurd cc
change_allowed s (Compact through) c h = absurd cc
change_allowed s Stats c h = absurd cc

-- a change that is allowed is made by a call
pub change_made : (s : State) (c : Change) → IsTrue (allows s c) → change_of s (call_for c) ≡ Some c
change_made s (change.Set key doc) h = refl
change_made s (change.Del key) h = refl
change_made s change.Mark h = ap (λ b. if b then Some change.Mark else None) h
change_made s (change.Forget mark) h = ap (λ b. if b then Some (change.Forget mark) else None) h
change_made s (change.Back mark) h = ap (option_map (λ m. change.Back m)) (greatest_is (marks_of s) mark h)
change_made s change.Clear h = refl
