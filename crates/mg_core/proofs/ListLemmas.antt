-- Lists by their members, by how often a number occurs, and by the newest of a key.
use Rattle.std.proofs.Common.{◌≡◌, ◌⊎◌, inl, inr, ℕ, ◌+◌, ◌<◌, ◌≤◌, max, List, [], ◌∷◌, ◌++◌, length, map, Bool, true, false, cond, not, ◌||◌, ◌==◌, Option, None, Some, unwrap_or, refl, ap, subst, ◌∙◌, sym, arith}
use Rattle.std.specs.Bool.{⊤}
use Rattle.std.specs.Option.{option_map_or}
use Rattle.std.specs.List.{AllByRecursion, filter, find, list_any, sum_by}
use Rattle.std.specs.Str.{bytes_eq}
use Rattle.std.proofs.lemmas.Bool.{cases_eq, cases_lt, eqb-true, eq-eqb, ne_eqb, both_ways}
use Rattle.std.proofs.lemmas.List.Sums.{sum_by-cons, sum_by-append}
use Rattle.std.proofs.lemmas.Slice.Eq.{bytes_eq-Decides}
use Rattle.mg_model.specs.Mutations.{greatest}
use Rattle.mg_core.specs.Lists.{Has, RisesBy, Within, times, occurs, newest_by}

-- members

pub has_left : {X : Type 0} (xs ys : List X) (x : X) → Has xs x → Has (xs ++ ys) x
has_left [] ys x h = absurd h
has_left (z ∷ xs) ys x (inl e) = inl e
has_left (z ∷ xs) ys x (inr h) = inr (has_left xs ys x h)

pub has_right : {X : Type 0} (xs ys : List X) (x : X) → Has ys x → Has (xs ++ ys) x
has_right [] ys x h = h
has_right (z ∷ xs) ys x h = inr (has_right xs ys x h)

pub from_append : {X : Type 0} (xs ys : List X) (x : X) → Has (xs ++ ys) x → Has xs x ⊎ Has ys x
from_append [] ys x h = inr h
from_append (z ∷ xs) ys x (inl e) = inl (inl e)
from_append (z ∷ xs) ys x (inr h) = elim (from_append xs ys x h) [ inl a ↦ inl (inr a) | inr b ↦ inr b ]

pub has_map : {X Y : Type 0} (f : X → Y) (xs : List X) (x : X) → Has xs x → Has (map f xs) (f x)
has_map f [] x h = absurd h
has_map f (z ∷ xs) x (inl e) = inl (ap f e)
has_map f (z ∷ xs) x (inr h) = inr (has_map f xs x h)

pub from_map : {X Y : Type 0} (f : X → Y) (xs : List X) (y : Y) → Has (map f xs) y → (x : X) × Has xs x × (f x ≡ y)
from_map f [] y h = absurd h
from_map f (z ∷ xs) y (inl e) = (z, inl refl, e)
from_map f (z ∷ xs) y (inr h) = let r = from_map f xs y h in (r.0, inr r.1, r.2)

pub has_filter : {X : Type 0} (p : X → Bool) (xs : List X) (x : X) → Has xs x → p x ≡ true → Has (filter p xs) x
has_filter p [] x h t = absurd h
has_filter p (z ∷ xs) x (inl e) t = here (p z) (ap p e ∙ t)
  where
    here : (b : Bool) → b ≡ true → Has (cond b (z ∷ filter p xs) (filter p xs)) x
    here true u = inl e
    here false u = absurd (both_ways false refl u)
has_filter p (z ∷ xs) x (inr h) t = behind (p z) (has_filter p xs x h t)
  where
    behind : (b : Bool) → Has (filter p xs) x → Has (cond b (z ∷ filter p xs) (filter p xs)) x
    behind true r = inr r
    behind false r = r

pub from_filter : {X : Type 0} (p : X → Bool) (xs : List X) (x : X) → Has (filter p xs) x → Has xs x × (p x ≡ true)
from_filter p [] x h = absurd h
from_filter p (z ∷ xs) x h = by_test (p z) refl (λ k. from_filter p xs x k) h
  where
    by_test : (b : Bool) → p z ≡ b → (Has (filter p xs) x → Has xs x × (p x ≡ true)) → Has (cond b (z ∷ filter p xs) (filter p xs)) x → ((z ≡ x) ⊎ Has xs x) × (p x ≡ true)
    by_test true t rest (inl e) = (inl e, ap p (sym e) ∙ t)
    by_test true t rest (inr k) = let r = rest k in (inr r.0, r.1)
    by_test false t rest k = let r = rest k in (inr r.0, r.1)

pub all_has : {X : Type 0} (P : X → Type 0) (xs : List X) → AllByRecursion P xs → (x : X) → Has xs x → P x
all_has P [] a x h = absurd h
all_has P (z ∷ xs) a x (inl e) = subst P e a.0
all_has P (z ∷ xs) a x (inr h) = all_has P xs a.1 x h

pub has_all : {X : Type 0} (P : X → Type 0) (xs : List X) → ((x : X) → Has xs x → P x) → AllByRecursion P xs
has_all P [] f = tt
has_all P (z ∷ xs) f = (f z (inl refl), has_all P xs (λ x h. f x (inr h)))

pub all_left : {X : Type 0} (P : X → Type 0) (xs ys : List X) → AllByRecursion P (xs ++ ys) → AllByRecursion P xs
all_left P [] ys a = tt
all_left P (x ∷ xs) ys a = (a.0, all_left P xs ys a.1)

pub all_right : {X : Type 0} (P : X → Type 0) (xs ys : List X) → AllByRecursion P (xs ++ ys) → AllByRecursion P ys
all_right P [] ys a = a
all_right P (x ∷ xs) ys a = all_right P xs ys a.1

pub all_join : {X : Type 0} (P : X → Type 0) (xs ys : List X) → AllByRecursion P xs → AllByRecursion P ys → AllByRecursion P (xs ++ ys)
all_join P [] ys a b = b
all_join P (x ∷ xs) ys a b = (a.0, all_join P xs ys a.1 b)

-- tests

pub bytes_same : (a b : List ℕ) → a ≡ b → bytes_eq a b ≡ true
bytes_same a b e = (bytes_eq-Decides a b).1 e

pub same_bytes : (a b : List ℕ) → bytes_eq a b ≡ true → a ≡ b
same_bytes a b t = (bytes_eq-Decides a b).0 t

pub any_has : {X : Type 0} (p : X → Bool) (xs : List X) (x : X) → Has xs x → p x ≡ true → list_any p xs ≡ true
any_has p [] x h t = absurd h
any_has p (z ∷ xs) x (inl e) t = first (p z) (ap p e ∙ t)
  where
    first : (b : Bool) → b ≡ true → (b || list_any p xs) ≡ true
    first true t = refl
    first false t = absurd (both_ways false refl t)
any_has p (z ∷ xs) x (inr h) t = later (p z) (any_has p xs x h t)
  where
    later : (b : Bool) → list_any p xs ≡ true → (b || list_any p xs) ≡ true
    later true t = refl
    later false t = t

pub from_any : {X : Type 0} (p : X → Bool) (xs : List X) → list_any p xs ≡ true → (x : X) × Has xs x × (p x ≡ true)
from_any p [] t = absurd (both_ways false refl t)
from_any {X = X} p (z ∷ xs) t = by_test (p z) refl (λ k. from_any p xs k) t
  where
    by_test : (b : Bool) → p z ≡ b → (list_any p xs ≡ true → (x : X) × Has xs x × (p x ≡ true)) → (b || list_any p xs) ≡ true → (x : X) × Has (z ∷ xs) x × (p x ≡ true)
    by_test true e rest t = (z, inl refl, e)
    by_test false e rest t = let r = rest t in (r.0, inr r.1, r.2)

pub occurs_from : {X : Type 0} (f : X → ℕ) (xs : List X) (x : X) (n : ℕ) → Has xs x → f x ≡ n → occurs f xs n ≡ true
occurs_from {X = X} f xs x n h e = any_has (λ (y : X). f y == n) xs x h (eq-eqb (f x) n e)

pub from_occurs : {X : Type 0} (f : X → ℕ) (xs : List X) (n : ℕ) → occurs f xs n ≡ true → (x : X) × Has xs x × (f x ≡ n)
from_occurs {X = X} f xs n t = let q = from_any (λ (y : X). f y == n) xs t in (q.0, q.1, eqb-true (f q.0) n q.2)

-- numbers that rise

pub above_first : {X : Type 0} (f : X → ℕ) (z : X) (xs : List X) (x : X) → RisesBy f (z ∷ xs) → Has xs x → f z < f x
above_first f z xs x r h = all_has (λ k. f z < k) (map f xs) r.0 (f x) (has_map f xs x h)

pub rises_cons : {X : Type 0} (f : X → ℕ) (z : X) (xs : List X) → ((x : X) → Has xs x → f z < f x) → RisesBy f xs → RisesBy f (z ∷ xs)
rises_cons f z xs l r = (has_all (λ k. f z < k) (map f xs) (λ k h. let q = from_map f xs k h in subst (λ (j : ℕ). f z < j) q.2 (l q.0 q.1)), r)

pub rises_filter : {X : Type 0} (f : X → ℕ) (p : X → Bool) (xs : List X) → RisesBy f xs → RisesBy f (filter p xs)
rises_filter f p [] r = r
rises_filter f p (z ∷ xs) r = by_test (p z) (rises_filter f p xs r.1)
  where
    by_test : (b : Bool) → RisesBy f (filter p xs) → RisesBy f (cond b (z ∷ filter p xs) (filter p xs))
    by_test true rest = rises_cons f z (filter p xs) (λ x h. above_first f z xs x r (from_filter p xs x h).0) rest
    by_test false rest = rest

pub rises_join : {X : Type 0} (f : X → ℕ) (xs ys : List X) → RisesBy f xs → RisesBy f ys → ((x y : X) → Has xs x → Has ys y → f x < f y) → RisesBy f (xs ++ ys)
rises_join f [] ys r s l = s
rises_join f (z ∷ xs) ys r s l =
    rises_cons f z (xs ++ ys) (λ x h. elim (from_append xs ys x h) [ inl a ↦ above_first f z xs x r a | inr b ↦ l z x (inl refl) b ]) (rises_join f xs ys r.1 s (λ x y a b. l x y (inr a) b))

pub rises_left : {X : Type 0} (f : X → ℕ) (xs ys : List X) → RisesBy f (xs ++ ys) → RisesBy f xs
rises_left f [] ys r = tt
rises_left f (z ∷ xs) ys r = rises_cons f z xs (λ x h. above_first f z (xs ++ ys) x r (has_left xs ys x h)) (rises_left f xs ys r.1)

pub rises_right : {X : Type 0} (f : X → ℕ) (xs ys : List X) → RisesBy f (xs ++ ys) → RisesBy f ys
rises_right f [] ys r = r
rises_right f (z ∷ xs) ys r = rises_right f xs ys r.1

pub rises_across : {X : Type 0} (f : X → ℕ) (xs ys : List X) (x y : X) → RisesBy f (xs ++ ys) → Has xs x → Has ys y → f x < f y
rises_across f [] ys x y r h k = absurd h
rises_across {X = X} f (z ∷ xs) ys x y r (inl e) k = subst (λ (w : X). f w < f y) e (above_first f z (xs ++ ys) y r (has_right xs ys y k))
rises_across f (z ∷ xs) ys x y r (inr h) k = rises_across f xs ys x y r.1 h k

-- where numbers rise, one number is one member
pub one_member : {X : Type 0} (f : X → ℕ) (xs : List X) (x y : X) → RisesBy f xs → Has xs x → Has xs y → f x ≡ f y → x ≡ y
one_member f [] x y r h k e = absurd h
one_member f (z ∷ xs) x y r (inl a) (inl b) e = sym a ∙ b
one_member f (z ∷ xs) x y r (inl a) (inr k) e = let l = above_first f z xs y r k in absurd (omega (arith, l, ap f a, e))
one_member f (z ∷ xs) x y r (inr h) (inl b) e = let l = above_first f z xs x r h in absurd (omega (arith, l, ap f b, e))
one_member f (z ∷ xs) x y r (inr h) (inr k) e = one_member f xs x y r.1 h k e

-- two lists that are ordered alike and have the same members are one

abbrev pub Ordered : {X : Type 0} → (X → X → Type 0) → List X → Type 0
Ordered R [] = ⊤
Ordered {X} R (x ∷ xs) = ((y : X) → Has xs y → R x y) × Ordered R xs

pub same_ordered : {X : Type 0} (R : X → X → Type 0) → ((x y : X) → R x y → R y x → ⊥) → (xs ys : List X) → Ordered R xs → Ordered R ys → Within xs ys → Within ys xs → xs ≡ ys
same_ordered R once [] [] r s there back = refl
same_ordered R once [] (y ∷ ys) r s there back = absurd (back y (inl refl))
same_ordered R once (x ∷ xs) [] r s there back = absurd (there x (inl refl))
same_ordered {X = X} R once (x ∷ xs) (y ∷ ys) r s there back =
    let rest = same_ordered R once xs ys r.1 s.1 (λ z h. behind z (there z (inr h)) (r.0 z h)) (λ z h. behind_too z (back z (inr h)) (s.0 z h)) in
    ap (λ (z : X). z ∷ xs) first ∙ ap (λ (zs : List X). y ∷ zs) rest
  where
    first : x ≡ y
    first = elim (there x (inl refl)) [
      | inl e ↦ sym e
      | inr h ↦ elim (back y (inl refl)) [ inl e ↦ e | inr k ↦ absurd (once x y (r.0 y k) (s.0 x h)) ]
    ]

    behind : (z : X) → (y ≡ z) ⊎ Has ys z → R x z → Has ys z
    behind z (inl e) l = let self = subst (R x) (sym (first ∙ e)) l in absurd (once x x self self)
    behind z (inr h) l = h

    behind_too : (z : X) → (x ≡ z) ⊎ Has xs z → R y z → Has xs z
    behind_too z (inl e) l = let self = subst (R y) (sym (sym first ∙ e)) l in absurd (once y y self self)
    behind_too z (inr h) l = h

ordered_by_number : {X : Type 0} (f : X → ℕ) (xs : List X) → RisesBy f xs → Ordered (λ x y. f x < f y) xs
ordered_by_number f [] r = tt
ordered_by_number f (x ∷ xs) r = (λ y h. above_first f x xs y r h, ordered_by_number f xs r.1)

pub same_rising : {X : Type 0} (f : X → ℕ) (xs ys : List X) → RisesBy f xs → RisesBy f ys → Within xs ys → Within ys xs → xs ≡ ys
same_rising f xs ys r s there back = same_ordered (λ x y. f x < f y) (λ x y a b. omega (arith, a, b)) xs ys (ordered_by_number f xs r) (ordered_by_number f ys s) there back

-- the first that passes a test

pub some_same : {X : Type 0} (x y : X) → Some x ≡ Some y → x ≡ y
some_same x y e = ap (λ o. option_map_or (λ z. z) o x) e

pub find_none : {X : Type 0} (p : X → Bool) (xs : List X) → ((x : X) → Has xs x → p x ≡ false) → find p xs ≡ None
find_none p [] none = refl
find_none p (z ∷ xs) none = ap (λ b. cond b (Some z) (find p xs)) (none z (inl refl)) ∙ find_none p xs (λ x h. none x (inr h))

pub find_number : {X : Type 0} (f : X → ℕ) (xs : List X) (x : X) (n : ℕ) → RisesBy f xs → Has xs x → f x ≡ n → find (λ y. f y == n) xs ≡ Some x
find_number f [] x n r h e = absurd h
find_number f (z ∷ xs) x n r (inl i) e = ap (λ b. cond b (Some z) (find (λ y. f y == n) xs)) (eq-eqb (f z) n (ap f i ∙ e)) ∙ ap Some i
find_number f (z ∷ xs) x n r (inr h) e =
    ap (λ b. cond b (Some z) (find (λ y. f y == n) xs)) (ne_eqb (f z) n (λ i. omega (arith, above_first f z xs x r h, i, e))) ∙ find_number f xs x n r.1 h e

pub find_one : {X : Type 0} (p : X → Bool) (xs : List X) (x : X) → Has xs x → p x ≡ true → ((y : X) → Has xs y → p y ≡ true → y ≡ x) → find p xs ≡ Some x
find_one p [] x h t one = absurd h
find_one p (z ∷ xs) x h t one = by_test (p z) refl h (λ k. find_one p xs x k t (λ y q. one y (inr q)))
  where
    by_test : (b : Bool) → p z ≡ b → (z ≡ x) ⊎ Has xs x → (Has xs x → find p xs ≡ Some x) → cond b (Some z) (find p xs) ≡ Some x
    by_test true e k rest = ap Some (one z (inl refl) e)
    by_test false e (inl i) rest = absurd (both_ways (p z) e (ap p i ∙ t))
    by_test false e (inr k) rest = rest k

pub find_some : {X : Type 0} (p : X → Bool) (xs : List X) (x : X) → find p xs ≡ Some x → Has xs x × (p x ≡ true)
find_some p [] x e = absurd cc
find_some p (z ∷ xs) x e = by_test (p z) refl (λ k. find_some p xs x k) e
  where
    by_test : (b : Bool) → p z ≡ b → (find p xs ≡ Some x → Has xs x × (p x ≡ true)) → cond b (Some z) (find p xs) ≡ Some x → ((z ≡ x) ⊎ Has xs x) × (p x ≡ true)
    by_test true t rest e = let same = ap (λ o. option_map_or (λ y. y) o z) e in (inl same, ap p (sym same) ∙ t)
    by_test false t rest e = let r = rest e in (inr r.0, r.1)

-- how often a number occurs

pub times_append : {X : Type 0} (f : X → ℕ) (n : ℕ) (xs ys : List X) → times f n (xs ++ ys) ≡ times f n xs + times f n ys
times_append f n xs ys = sum_by-append (λ x. cond (f x == n) 1 0) xs ys

pub times_hit : {X : Type 0} (f : X → ℕ) (n : ℕ) (z : X) (xs : List X) → f z ≡ n → times f n (z ∷ xs) ≡ 1 + times f n xs
times_hit f n z xs e = sum_by-cons (λ x. cond (f x == n) 1 0) z xs ∙ ap (λ b. cond {A = ℕ} b 1 0 + times f n xs) (eq-eqb (f z) n e)

pub times_miss : {X : Type 0} (f : X → ℕ) (n : ℕ) (z : X) (xs : List X) → (f z ≡ n → ⊥) → times f n (z ∷ xs) ≡ times f n xs
times_miss f n z xs e =
    let none : cond {A = ℕ} (f z == n) 1 0 + times f n xs ≡ 0 + times f n xs = ap (λ b. cond {A = ℕ} b 1 0 + times f n xs) (ne_eqb (f z) n e) in
    sum_by-cons (λ x. cond (f x == n) 1 0) z xs ∙ omega (arith, none)

pub from_times : {X : Type 0} (f : X → ℕ) (n : ℕ) (xs : List X) → 0 < times f n xs → (x : X) × Has xs x × (f x ≡ n)
from_times f n [] h = absurd (omega (arith, h))
from_times f n (z ∷ xs) h = elim (cases_eq (f z) n) [
  | inl e ↦ (z, inl refl, e)
  | inr ne ↦ let r = from_times f n xs (omega (arith, times_miss f n z xs ne, h)) in (r.0, inr r.1, r.2)
]

pub has_times : {X : Type 0} (f : X → ℕ) (n : ℕ) (xs : List X) (x : X) → Has xs x → f x ≡ n → 0 < times f n xs
has_times f n [] x h e = absurd h
has_times f n (z ∷ xs) x (inl i) e = omega (arith, times_hit f n z xs (ap f i ∙ e))
has_times f n (z ∷ xs) x (inr h) e =
    let rest = has_times f n xs x h e in
    elim (cases_eq (f z) n) [ inl a ↦ omega (arith, rest, times_hit f n z xs a) | inr ne ↦ omega (arith, rest, times_miss f n z xs ne) ]

-- a number that no member has
pub times_none : {X : Type 0} (f : X → ℕ) (n : ℕ) (xs : List X) → ((x : X) → Has xs x → f x ≡ n → ⊥) → times f n xs ≡ 0
times_none f n xs none = elim (cases_lt 0 (times f n xs)) [
  | inl l ↦ let r = from_times f n xs l in absurd (none r.0 r.1 r.2)
  | inr l ↦ omega (arith, l)
]

-- where a number occurs once at most, its members are one
pub one_of_times : {X : Type 0} (f : X → ℕ) (xs : List X) (x y : X) → times f (f x) xs ≤ 1 → Has xs x → Has xs y → f x ≡ f y → x ≡ y
one_of_times f [] x y l h k e = absurd h
one_of_times f (z ∷ xs) x y l (inl a) (inl b) e = sym a ∙ b
one_of_times f (z ∷ xs) x y l (inl a) (inr k) e = absurd (omega (arith, l, times_hit f (f x) z xs (ap f a), has_times f (f x) xs y k (sym e)))
one_of_times f (z ∷ xs) x y l (inr h) (inl b) e = absurd (omega (arith, l, times_hit f (f x) z xs (ap f b ∙ sym e), has_times f (f x) xs x h refl))
one_of_times f (z ∷ xs) x y l (inr h) (inr k) e = one_of_times f xs x y (elim (cases_eq (f z) (f x)) [
  | inl i ↦ omega (arith, l, times_hit f (f x) z xs i)
  | inr ne ↦ omega (arith, l, times_miss f (f x) z xs ne)
]) h k e

-- where numbers rise, each occurs once at most
pub times_once : {X : Type 0} (f : X → ℕ) (n : ℕ) (xs : List X) → RisesBy f xs → times f n xs ≤ 1
times_once f n [] r = omega arith
times_once f n (z ∷ xs) r = elim (cases_eq (f z) n) [
  | inl e ↦ omega (arith, times_hit f n z xs e, times_none f n xs (λ x h i. let l = above_first f z xs x r h in omega (arith, l, e, i)))
  | inr ne ↦ omega (arith, times_miss f n z xs ne, times_once f n xs r.1)
]

-- what passes a test and what does not are the whole
pub times_split : {X : Type 0} (f : X → ℕ) (n : ℕ) (p : X → Bool) (xs : List X) → times f n xs ≡ times f n (filter p xs) + times f n (filter (λ x. not (p x)) xs)
times_split f n p [] = refl
times_split f n p (z ∷ xs) = by_test (p z) (times_split f n p xs)
  where
    by_test : (b : Bool) → times f n xs ≡ times f n (filter p xs) + times f n (filter (λ x. not (p x)) xs)
        → times f n (z ∷ xs) ≡ times f n (cond b (z ∷ filter p xs) (filter p xs)) + times f n (cond (not b) (z ∷ filter (λ x. not (p x)) xs) (filter (λ x. not (p x)) xs))
    by_test true e = elim (cases_eq (f z) n) [
      | inl i ↦ omega (arith, e, times_hit f n z xs i, times_hit f n z (filter p xs) i)
      | inr ne ↦ omega (arith, e, times_miss f n z xs ne, times_miss f n z (filter p xs) ne)
    ]
    by_test false e = elim (cases_eq (f z) n) [
      | inl i ↦ omega (arith, e, times_hit f n z xs i, times_hit f n z (filter (λ x. not (p x)) xs) i)
      | inr ne ↦ omega (arith, e, times_miss f n z xs ne, times_miss f n z (filter (λ x. not (p x)) xs) ne)
    ]

-- a number that occurs once at most in each of two lists, and in both or in none
pub times_same : {X Y : Type 0} (f : X → ℕ) (g : Y → ℕ) (n : ℕ) (xs : List X) (ys : List Y) → times f n xs ≤ 1 → times g n ys ≤ 1
    → ((x : X) → Has xs x → f x ≡ n → (y : Y) × Has ys y × (g y ≡ n)) → ((y : Y) → Has ys y → g y ≡ n → (x : X) × Has xs x × (f x ≡ n)) → times f n xs ≡ times g n ys
times_same f g n xs ys a b there back = elim (cases_lt 0 (times f n xs)) [
  | inl l ↦ let x = from_times f n xs l in let y = there x.0 x.1 x.2 in omega (arith, a, b, l, has_times g n ys y.0 y.1 y.2)
  | inr l ↦ elim (cases_lt 0 (times g n ys)) [
    | inl k ↦ let y = from_times g n ys k in let x = back y.0 y.1 y.2 in omega (arith, l, has_times f n xs x.0 x.1 x.2)
    | inr k ↦ omega (arith, l, k)
  ]
]

-- a member splits its list
has_split : {X : Type 0} (xs : List X) (x : X) → Has xs x → (us : List X) × (vs : List X) × (xs ≡ us ++ x ∷ vs)
has_split [] x h = absurd h
has_split {X = X} (z ∷ xs) x (inl e) = ([], xs, ap (λ (y : X). y ∷ xs) e)
has_split {X = X} (z ∷ xs) x (inr h) = let r = has_split xs x h in (z ∷ r.0, r.1, ap (λ (ys : List X). z ∷ ys) r.2)

-- lists in which each number occurs as often, and members of one number have one size, have the same sum of sizes
pub same_sum : {X Y : Type 0} (f : X → ℕ) (g : Y → ℕ) (a : X → ℕ) (b : Y → ℕ) (xs : List X) (ys : List Y) → ((n : ℕ) → times f n xs ≡ times g n ys)
    → ((x : X) (y : Y) → Has xs x → Has ys y → f x ≡ g y → a x ≡ b y) → sum_by a xs ≡ sum_by b ys
same_sum f g a b [] [] same alike = refl
same_sum f g a b [] (y ∷ ys) same alike = absurd (omega (arith, same (g y), times_hit g (g y) y ys refl))
same_sum {X = X} {Y = Y} f g a b (x ∷ xs) ys same alike =
    let y = from_times g (f x) ys (omega (arith, same (f x), times_hit f (f x) x xs refl)) in
    let parts = has_split ys y.0 y.1 in
    let rest = same_sum f g a b xs (parts.0 ++ parts.1) (λ n. without y.0 parts.0 parts.1 y.2 n (same n ∙ ap (times g n) parts.2))
    (λ z w h k. alike z w (inr h) (subst (λ (zs : List Y). Has zs w) (sym parts.2) (among y.0 parts.0 parts.1 w k))) in
    omega (
      arith,
      rest,
      alike x y.0 (inl refl) y.1 (sym y.2),
      sum_by-cons a x xs,
      ap (sum_by b) parts.2,
      sum_by-append b parts.0 (y.0 ∷ parts.1),
      sum_by-cons b y.0 parts.1,
      sum_by-append b parts.0 parts.1,
    )
  where
    without : (y : Y) (us vs : List Y) → g y ≡ f x → (n : ℕ) → times f n (x ∷ xs) ≡ times g n (us ++ y ∷ vs) → times f n xs ≡ times g n (us ++ vs)
    without y us vs e n s = elim (cases_eq (f x) n) [
      | inl i ↦ omega (arith, s, times_hit f n x xs i, times_append g n us (y ∷ vs), times_hit g n y vs (e ∙ i), times_append g n us vs)
      | inr ne ↦ omega (arith, s, times_miss f n x xs ne, times_append g n us (y ∷ vs), times_miss g n y vs (λ k. ne (sym e ∙ k)), times_append g n us vs)
    ]

    among : (y : Y) (us vs : List Y) (w : Y) → Has (us ++ vs) w → Has (us ++ y ∷ vs) w
    among y us vs w h = elim (from_append us vs w h) [ inl k ↦ has_left us (y ∷ vs) w k | inr k ↦ has_right us (y ∷ vs) w (inr k) ]

pub sum_of_ones : {X : Type 0} (xs : List X) → sum_by (λ (x : X). 1) xs ≡ length xs
sum_of_ones [] = refl
sum_of_ones {X = X} (x ∷ xs) = omega (arith, sum_by-cons (λ (x : X). 1) x xs, sum_of_ones xs)

pub no_members : {X : Type 0} (xs : List X) → ((x : X) → Has xs x → ⊥) → xs ≡ []
no_members [] none = refl
no_members (x ∷ xs) none = absurd (none x (inl refl))

-- the newest of a key

top : (m : ℕ) (o : Option ℕ) → (m ≤ option_map_or (λ k. max m k) o m) × (unwrap_or o 0 ≤ option_map_or (λ k. max m k) o m)
top m None = (omega arith, omega arith)
top m (Some k) = (omega arith, omega arith)

one_of : (m : ℕ) (o : Option ℕ) → (m ≡ option_map_or (λ k. max m k) o m) ⊎ ((unwrap_or o 0 ≡ option_map_or (λ k. max m k) o m) × (0 < unwrap_or o 0))
one_of m None = inl refl
one_of m (Some k) = elim (cases_lt m k) [ inl l ↦ inr (omega (arith, l), omega (arith, l)) | inr l ↦ inl (omega (arith, l)) ]

greatest_upper : (ns : List ℕ) (n : ℕ) → Has ns n → n ≤ unwrap_or (greatest ns) 0
greatest_upper [] n h = absurd h
greatest_upper (m ∷ ns) n (inl e) = omega (arith, (top m (greatest ns)).0, e)
greatest_upper (m ∷ ns) n (inr h) = omega (arith, (top m (greatest ns)).1, greatest_upper ns n h)

greatest_has : (ns : List ℕ) → 0 < unwrap_or (greatest ns) 0 → Has ns (unwrap_or (greatest ns) 0)
greatest_has [] l = absurd (omega (arith, l))
greatest_has (m ∷ ns) l = elim (one_of m (greatest ns)) [ inl e ↦ inl e | inr e ↦ inr (subst (Has ns) e.0 (greatest_has ns e.1)) ]

pub newest_upper : {X : Type 0} (key : X → List ℕ) (f : X → ℕ) (xs : List X) (x : X) (k : List ℕ) → Has xs x → key x ≡ k → f x ≤ newest_by key f xs k
newest_upper {X = X} key f xs x k h e =
    let p = λ (z : X). bytes_eq (key z) k in
    greatest_upper (map f (filter p xs)) (f x) (has_map f (filter p xs) x (has_filter p xs x h (bytes_same (key x) k e)))

pub newest_has : {X : Type 0} (key : X → List ℕ) (f : X → ℕ) (xs : List X) (k : List ℕ) → 0 < newest_by key f xs k → (x : X) × Has xs x × (key x ≡ k) × (f x ≡ newest_by key f xs k)
newest_has {X = X} key f xs k l =
    let p = λ (z : X). bytes_eq (key z) k in
    let q = from_map f (filter p xs) (newest_by key f xs k) (greatest_has (map f (filter p xs)) l) in
    let r = from_filter p xs q.0 q.1 in
    (q.0, r.0, same_bytes (key q.0) k r.1, q.2)

-- a bound of the numbers of a key bounds its newest
pub newest_least : {X : Type 0} (key : X → List ℕ) (f : X → ℕ) (xs : List X) (k : List ℕ) (bound : ℕ) → ((x : X) → Has xs x → key x ≡ k → f x ≤ bound) → newest_by key f xs k ≤ bound
newest_least key f xs k bound all = elim (cases_lt 0 (newest_by key f xs k)) [
  | inl l ↦ let q = newest_has key f xs k l in omega (arith, all q.0 q.1 q.2, q.3)
  | inr l ↦ omega (arith, l)
]
