-- Beginnings of one list, lists read by place, sums over them, and the calls in a history.
use Rattle.std.proofs.Common.{◌≡◌, ◌≢◌, ◌⊎◌, ℕ, zero, suc, ◌+◌, ◌≤◌, ◌<◌, List, [], ◌∷◌, ◌++◌, Bool, true, false, cond, eqb, ltb, map, length, set, refl, ap, sym, ◌∙◌, arith, append_assoc, length-append, ⊎_elim, filter, ne_eqb}
use Rattle.std.proofs.lemmas.List.Elements.{filter-append}
use mathlib.Core.List.{map-append}
use mathlib.Core.Option.{some, some-injective, some-ne-none}
use mathlib.Core.Logic.{dite}
use native.Mathlib.Decide.{ℕ_discrete}
use borrow.Author.Tests.{ltb-true, ltb-false, eqb-true, eq-eqb}
use lib.ListN.{get_elem?}
use Rattle.mg_turn.specs.History.{IsPrefix, calls_by, longer, shorter, total, times_among, AreApart, AreCalls, NoOthers, calls_in}

module _ {A : Type 0} where
  pub prefix_self : (xs : List A) → IsPrefix xs xs
  prefix_self [] = ([], refl)
  prefix_self (x ∷ xs) = (let r = prefix_self xs in r.0, ap (λ ys. x ∷ ys) (prefix_self xs).1)

  pub prefix_more : (xs ys zs : List A) → IsPrefix xs ys → IsPrefix xs (ys ++ zs)
  prefix_more xs ys zs p = (p.0 ++ zs, sym (append_assoc xs p.0 zs) ∙ ap (λ w. w ++ zs) p.1)

  -- of two beginnings of one list the shorter begins the longer
  pub prefix_shorter : (xs ys zs : List A) → IsPrefix xs zs → IsPrefix ys zs → length xs ≤ length ys → IsPrefix xs ys
  prefix_shorter [] ys zs p q le = (ys, refl)
  prefix_shorter (x ∷ xs) [] zs p q le = absurd (omega arith)
  prefix_shorter (x ∷ xs) (y ∷ ys) [] p q le = absurd (cc (p.1))
  prefix_shorter (x ∷ xs) (y ∷ ys) (z ∷ zs) p q le =
      let heads : x ≡ y = cc (p.1, q.1) in
      let rest = prefix_shorter xs ys zs (p.0, cc (p.1)) (q.0, cc (q.1)) (omega arith) in
      (rest.0, cc (heads, rest.1))

  -- a beginning as long as the whole is the whole
  pub prefix_whole : (xs ys : List A) → IsPrefix xs ys → length ys ≤ length xs → xs ≡ ys
  prefix_whole [] [] p le = refl
  prefix_whole [] (y ∷ ys) p le = absurd (omega arith)
  prefix_whole (x ∷ xs) [] p le = absurd (cc (p.1))
  prefix_whole (x ∷ xs) (y ∷ ys) p le =
      let rest = prefix_whole xs ys (p.0, cc (p.1)) (omega arith) in cc (p.1, rest)

  pub prefix_length : (xs ys : List A) → IsPrefix xs ys → length xs ≤ length ys
  prefix_length xs ys p = omega (arith, sym (ap length p.1) ∙ length-append xs p.0)

  -- what holds of either list holds of the longer, and of the shorter
  pub of_either : (P : List A → Type 0) (xs ys : List A) → P xs → P ys → (b : Bool) → P (cond b ys xs)
  of_either P xs ys p q true = q
  of_either P xs ys p q false = p

  picked_longest : (xs ys : List A) (b : Bool) → (ltb (length xs) (length ys) ≡ b) → (length xs ≤ length (cond b ys xs)) × (length ys ≤ length (cond b ys xs))
  picked_longest xs ys true e = let l : length xs < length ys = ltb-true (length xs) (length ys) e in (omega arith, omega arith)
  picked_longest xs ys false e = let l : length ys ≤ length xs = ltb-false (length xs) (length ys) e in (omega arith, omega arith)

  pub longer_longest : (xs ys : List A) → (length xs ≤ length (longer xs ys)) × (length ys ≤ length (longer xs ys))
  longer_longest xs ys = picked_longest xs ys (ltb (length xs) (length ys)) refl

  picked_shortest : (xs ys : List A) (b : Bool) → (ltb (length xs) (length ys) ≡ b) → length (cond b xs ys) ≤ length (cond b ys xs)
  picked_shortest xs ys true e = let l : length xs < length ys = ltb-true (length xs) (length ys) e in omega arith
  picked_shortest xs ys false e = ltb-false (length xs) (length ys) e

  pub shorter_shortest : (xs ys : List A) → length (shorter xs ys) ≤ length (longer xs ys)
  shorter_shortest xs ys = picked_shortest xs ys (ltb (length xs) (length ys)) refl

  both_begin : (xs ys : List A) (b : Bool) → IsPrefix (cond b xs ys) (cond b ys xs) → IsPrefix xs (cond b ys xs) × IsPrefix ys (cond b ys xs)
  both_begin xs ys true p = (p, prefix_self ys)
  both_begin xs ys false p = (prefix_self xs, p)

  -- where the shorter begins the longer, each of the two does
  pub both_prefixes : (xs ys : List A) → IsPrefix (shorter xs ys) (longer xs ys) → IsPrefix xs (longer xs ys) × IsPrefix ys (longer xs ys)
  both_prefixes xs ys p = both_begin xs ys (ltb (length xs) (length ys)) p

  -- of two beginnings of a list, one of which is the list, the longer is the list
  pub longer_whole : (xs ys zs : List A) → IsPrefix xs zs → IsPrefix ys zs → (xs ≡ zs) ⊎ (ys ≡ zs) → longer xs ys ≡ zs
  longer_whole xs ys zs p q either_is =
      let l = longer_longest xs ys in
      prefix_whole (longer xs ys) zs (of_either (λ ws. IsPrefix ws zs) xs ys p q (ltb (length xs) (length ys)))
      (⊎_elim (λ (e : xs ≡ zs). let n = ap length e in omega arith) (λ (e : ys ≡ zs). let n = ap length e in omega arith) either_is)

module _ {A : Type 0} where
  pub set_at : (l : List A) (i : ℕ) (a b : A) → get_elem? l i ≡ some a → get_elem? (set l i b) i ≡ some b
  set_at [] i a b e = absurd (some-ne-none a (sym e))
  set_at (x ∷ xs) zero a b e = refl
  set_at (x ∷ xs) (suc i) a b e = set_at xs i a b e

module _ {A : Type 0} (f : A → ℕ) where
  pub total-append : (xs ys : List A) → total f (xs ++ ys) ≡ total f xs + total f ys
  total-append [] ys = omega arith
  total-append (x ∷ xs) ys = let h = total-append xs ys in omega arith

  pub total_set : (l : List A) (i : ℕ) (v w : A) → get_elem? l i ≡ some v → total f (set l i w) + f v ≡ total f l + f w
  total_set [] i v w e = absurd (some-ne-none v (sym e))
  total_set (x ∷ xs) zero v w e = let h : f x ≡ f v = ap f (some-injective x v e) in omega arith
  total_set (x ∷ xs) (suc i) v w e = let h = total_set xs i v w e in omega arith

  pub total_at : (l : List A) (i : ℕ) (v : A) → get_elem? l i ≡ some v → f v ≤ total f l
  total_at [] i v e = absurd (some-ne-none v (sym e))
  total_at (x ∷ xs) zero v e = let h : f x ≡ f v = ap f (some-injective x v e) in omega arith
  total_at (x ∷ xs) (suc i) v e = let h = total_at xs i v e in omega arith

  pub total_two : (l : List A) (i j : ℕ) (v w : A) → i ≢ j → get_elem? l i ≡ some v → get_elem? l j ≡ some w → f v + f w ≤ total f l
  total_two [] i j v w n a b = absurd (some-ne-none v (sym a))
  total_two (x ∷ xs) zero zero v w n a b = absurd (n refl)
  total_two (x ∷ xs) zero (suc j) v w n a b = let h : f x ≡ f v = ap f (some-injective x v a) in let k = total_at xs j w b in omega arith
  total_two (x ∷ xs) (suc i) zero v w n a b = let h : f x ≡ f w = ap f (some-injective x w b) in let k = total_at xs i v a in omega arith
  total_two (x ∷ xs) (suc i) (suc j) v w n a b = let h = total_two xs i j v w (λ e. n (ap suc e)) a b in omega arith

  pub total_none : (l : List A) → ((j : ℕ) (w : A) → get_elem? l j ≡ some w → f w ≡ 0) → total f l ≡ 0
  total_none [] h = refl
  total_none (x ∷ xs) h = let a = h 0 x refl in let b = total_none xs (λ j w e. h (suc j) w e) in omega arith

  -- a sum that only one member adds to
  pub total_only : (l : List A) (i : ℕ) (v : A) → get_elem? l i ≡ some v → ((j : ℕ) (w : A) → j ≢ i → get_elem? l j ≡ some w → f w ≡ 0) → total f l ≡ f v
  total_only [] i v e h = absurd (some-ne-none v (sym e))
  total_only (x ∷ xs) zero v e h = let a : f x ≡ f v = ap f (some-injective x v e) in let b = total_none xs (λ j w g. h (suc j) w (λ z. omega arith) g) in omega arith
  total_only (x ∷ xs) (suc i) v e h = let a = h 0 x (λ z. omega arith) refl in let b = total_only xs i v e (λ j w n g. h (suc j) w (λ z. n (omega arith)) g) in omega arith

same_test : (a b : ℕ) → eqb a b ≡ eqb b a
same_test a b = dite (ℕ_discrete a b) (λ (e : a ≡ b). eq-eqb a b e ∙ sym (eq-eqb b a (sym e))) (λ n. ne_eqb a b n ∙ sym (ne_eqb b a (λ e. n (sym e))))

module _ {E : Type 0} where
  pub calls_by-append : (c : ℕ) (xs ys : List (ℕ × E)) → calls_by c (xs ++ ys) ≡ calls_by c xs ++ calls_by c ys
  calls_by-append c xs ys = ap (map (λ (x : ℕ × E). x.1)) (filter-append (λ (x : ℕ × E). eqb x.0 c) xs ys) ∙ map-append (λ (x : ℕ × E). x.1) (filter (λ (x : ℕ × E). eqb x.0 c) xs) (filter (λ (x : ℕ × E). eqb x.0 c) ys)

  picked_one : (c d : ℕ) (e : E) (b : Bool) → map (λ (x : ℕ × E). x.1) (cond b ((d, e) ∷ []) []) ≡ cond b (e ∷ []) []
  picked_one c d e true = refl
  picked_one c d e false = refl

  pub calls_more : (c d : ℕ) (e : E) (log : List (ℕ × E)) → calls_by c (log ++ (d, e) ∷ []) ≡ calls_by c log ++ cond (eqb d c) (e ∷ []) []
  calls_more c d e log = calls_by-append c log ((d, e) ∷ []) ∙ ap (λ ys. calls_by c log ++ ys) (picked_one c d e (eqb d c))

  counted_one : (x : ℕ × E) (ys : List (ℕ × E)) (b : Bool) → length (map (λ (y : ℕ × E). y.1) (cond b (x ∷ ys) ys)) ≡ cond {A = ℕ} b 1 0 + length (map (λ (y : ℕ × E). y.1) ys)
  counted_one x ys true = omega arith
  counted_one x ys false = omega arith

  one_more : (x : ℕ × E) (xs : List (ℕ × E)) (os : List (ℕ × List E)) → total (λ o. length (calls_by o.0 (x ∷ xs))) os ≡ times_among x.0 os + total (λ o. length (calls_by o.0 xs)) os
  one_more x xs [] = refl
  one_more x xs (o ∷ os) =
      let a = counted_one x (filter (λ (y : ℕ × E). eqb y.0 o.0) xs) (eqb x.0 o.0) in
      let b : cond {A = ℕ} (eqb x.0 o.0) 1 0 ≡ cond {A = ℕ} (eqb o.0 x.0) 1 0 = ap (λ (t : Bool). cond {A = ℕ} t 1 0) (same_test x.0 o.0) in
      let h = one_more x xs os in omega arith

  no_calls : (os : List (ℕ × List E)) → total (λ (o : ℕ × List E). 0) os ≡ 0
  no_calls [] = refl
  no_calls (o ∷ os) = let h = no_calls os in omega arith

  not_none : (x : ℕ × E) (xs : List (ℕ × E)) (b : Bool) → b ≡ true → map (λ (y : ℕ × E). y.1) (cond b (x ∷ xs) xs) ≡ [] → ⊥
  not_none x xs true e h = cc (h)
  not_none x xs false e h = cc (e)

  fewer : (x : ℕ × E) (xs : List (ℕ × E)) (b : Bool) → map (λ (y : ℕ × E). y.1) (cond b (x ∷ xs) xs) ≡ [] → map (λ (y : ℕ × E). y.1) xs ≡ []
  fewer x xs true h = absurd (cc (h))
  fewer x xs false h = h

  -- where each caller stands once, and nobody else made a call, the calls are as many as the entries
  all_by_caller : (os : List (ℕ × List E)) (log : List (ℕ × E)) → AreApart os → NoOthers log os → total (λ o. length (calls_by o.0 log)) os ≡ length log
  all_by_caller os [] most none = no_calls os
  all_by_caller os (x ∷ xs) most none =
      let h = all_by_caller os xs most (λ c z. fewer x (filter (λ (y : ℕ × E). eqb y.0 c) xs) (eqb x.0 c) (none c z)) in
      let m = one_more x xs os in
      let u = most x.0 in
      dite (ℕ_discrete (times_among x.0 os) 0)
      (λ (z : times_among x.0 os ≡ 0). absurd (not_none x (filter (λ (y : ℕ × E). eqb y.0 x.0) xs) (eqb x.0 x.0) (eq-eqb x.0 x.0 refl) (none x.0 z)))
      (λ (n : times_among x.0 os ≢ 0). omega arith)

  same_lengths : (log : List (ℕ × E)) (os : List (ℕ × List E)) → AreCalls log os → calls_in os ≡ total (λ o. length (calls_by o.0 log)) os
  same_lengths log [] h = refl
  same_lengths log (o ∷ os) h = let a = ap length h.0 in let b = same_lengths log os h.1 in omega arith

  pub all_counted : (log : List (ℕ × E)) (os : List (ℕ × List E)) → AreCalls log os → AreApart os → NoOthers log os → length log ≡ calls_in os
  all_counted log os calls most none = sym (same_lengths log os calls ∙ all_by_caller os log most none)

  -- a caller whose calls are as many as the entries made all of them
  fewer_or_as_many : (c : ℕ) (log : List (ℕ × E)) → length (calls_by c log) ≤ length log
  fewer_or_as_many c [] = omega arith
  fewer_or_as_many c (x ∷ xs) =
      let a = counted_one x (filter (λ (y : ℕ × E). eqb y.0 c) xs) (eqb x.0 c) in
      let b = at_most (eqb x.0 c) in
      let h = fewer_or_as_many c xs in omega arith
    where
      at_most : (b : Bool) → cond {A = ℕ} b 1 0 ≤ 1
      at_most true = omega arith
      at_most false = omega arith

  pub all_of_one : (c : ℕ) (log : List (ℕ × E)) → length (calls_by c log) ≡ length log → log ≡ map (λ (e : E). (c, e)) (calls_by c log)
  all_of_one c [] all = refl
  all_of_one c (x ∷ xs) all = step (all_of_one c xs) (eqb x.0 c) refl
    where
      rest : List (ℕ × E)
      rest = filter (λ (y : ℕ × E). eqb y.0 c) xs

      step : (length (calls_by c xs) ≡ length xs → xs ≡ map (λ (e : E). (c, e)) (calls_by c xs)) → (b : Bool) → eqb x.0 c ≡ b → x ∷ xs ≡ map (λ (e : E). (c, e)) (calls_by c (x ∷ xs))
      step others true t =
          let same : x.0 ≡ c = eqb-true x.0 c t in
          let a = counted_one x rest (eqb x.0 c) in
          let one = ap (λ (b : Bool). cond {A = ℕ} b 1 0) t in
          let tail = others (omega arith) in
          ap (λ (n : ℕ). (n, x.1) ∷ xs) same ∙ ap (λ (ys : List (ℕ × E)). (c, x.1) ∷ ys) tail ∙ ap (λ (b : Bool). map (λ (e : E). (c, e)) (map (λ (y : ℕ × E). y.1) (cond b (x ∷ rest) rest))) (sym t)
      step others false t =
          let a = counted_one x rest (eqb x.0 c) in
          let none = ap (λ (b : Bool). cond {A = ℕ} b 1 0) t in
          let h = fewer_or_as_many c xs in absurd (omega arith)
