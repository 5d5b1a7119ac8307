-- Keys in byte order, and what they share at their front.
use Rattle.std.proofs.Common.{◌≡◌, ℕ, zero, suc, ◌+◌, ◌<◌, ◌≤◌, ◌⊎◌, true, false, List, [], ◌∷◌, ◌++◌, length, get_or, take, drop, refl, sym, ap, subst, ◌∙◌, arith, inl, inr}
use Rattle.std.specs.Ordering.{nat_cmp, ordering_reverse, is_eq}
use Rattle.std.specs.Str.{bytes_eq}
use Rattle.std.proofs.lemmas.Cmp.{nat_list_cmp_total}
use Rattle.std.proofs.lemmas.Map.Text.{is_eq-slice_cmp}
use Rattle.std.proofs.lemmas.Slice.Eq.{bytes_eq-Decides}
use Rattle.std.specs.declared.cmp.Ordering.{Ordering}
use Rattle.std.specs.declared.cmp.Ordering.TheVariants.{Less, Greater}
use Rattle.std.specs.Cmp.Lexicographic.{slice_cmp}
use Rattle.std.proofs.lemmas.Bool.{cases_order, cases_eq, eq-eqb, ne_eqb, lt-ltb, le-ltb}
use Rattle.std.proofs.lemmas.List.{length-drop, take_all}
use Rattle.mg_block.specs.Item.{Extends}
use Rattle.mg_block.specs.Block.{Precedes, shared_len}

pub shared_len-same : (x y : ℕ) (p k : List ℕ) → x ≡ y → shared_len (x ∷ p) (y ∷ k) ≡ suc (shared_len p k)
shared_len-same x y p k e = rw (eq-eqb x y e) (omega arith)

pub shared_len-other : (x y : ℕ) (p k : List ℕ) → (x ≡ y → ⊥) → shared_len (x ∷ p) (y ∷ k) ≡ 0
shared_len-other x y p k e = rw (ne_eqb x y e) refl

pub slice_cmp-same : (x y : ℕ) (p k : List ℕ) → x ≡ y → slice_cmp nat_cmp (x ∷ p) (y ∷ k) ≡ slice_cmp nat_cmp p k
slice_cmp-same x y p k e = rw (le-ltb x y (omega arith), eq-eqb x y e) refl

pub slice_cmp-less : (x y : ℕ) (p k : List ℕ) → x < y → slice_cmp nat_cmp (x ∷ p) (y ∷ k) ≡ Less
slice_cmp-less x y p k e = rw (lt-ltb x y e) refl

pub slice_cmp-greater : (x y : ℕ) (p k : List ℕ) → y < x → slice_cmp nat_cmp (x ∷ p) (y ∷ k) ≡ Greater
slice_cmp-greater x y p k e = rw (le-ltb x y (omega arith), ne_eqb x y (λ h. omega arith)) refl

-- the shared front is a front of both
pub take-shared_len : (p k : List ℕ) → take (shared_len p k) p ≡ take (shared_len p k) k
take-shared_len [] k = refl
take-shared_len (x ∷ p) [] = refl
take-shared_len (x ∷ p) (y ∷ k) =
    elim (cases_eq x y) [
      | inl e ↦ rw (shared_len-same x y p k e, e, take-shared_len p k) refl
      | inr e ↦ rw (shared_len-other x y p k e) refl
    ]

-- of two keys in order the second shares a front with the first, and there it ends or the second has the greater byte
record IsAbove (previous : List ℕ) (shared : ℕ) (rest : List ℕ) : Type 0 where
  within : shared ≤ length previous
  more : 0 < length rest
  rises : (shared ≡ length previous) ⊎ (get_or previous shared 0 < get_or rest 0 0)

IsAbove-from_Precedes : (p k : List ℕ) → Precedes p k → IsAbove p (shared_len p k) (drop (shared_len p k) k)
IsAbove-from_Precedes [] [] h = absurd cc
IsAbove-from_Precedes [] (y ∷ k) h = record { within = omega arith; more = omega arith; rises = inl refl }
IsAbove-from_Precedes (x ∷ p) [] h = absurd cc
IsAbove-from_Precedes (x ∷ p) (y ∷ k) h =
    elim (cases_order x y) [
      | inl e ↦ let i = IsAbove-from_Precedes p k (sym (slice_cmp-same x y p k e) ∙ h) in
          rw (shared_len-same x y p k e) (record { within = omega (arith, i.within); more = i.more; rises = elim i.rises [ inl a ↦ inl (ap suc a) | inr b ↦ inr b ] })
      | inr (inl e) ↦ rw (shared_len-other x y p k (λ q. omega arith)) (record { within = omega arith; more = omega arith; rises = inr e })
      | inr (inr e) ↦ absurd (let g : Greater ≡ Less = sym (slice_cmp-greater x y p k e) ∙ h in cc)
    ]

pub Extends-from_Precedes : (p k : List ℕ) → Precedes p k → length k ≤ 250 → Extends p (shared_len p k) (drop (shared_len p k) k)
Extends-from_Precedes p k h fits =
    let i = IsAbove-from_Precedes p k h in
    record { within = i.within; more = i.more; rises = i.rises; fits = omega (arith, i.more, length-drop (shared_len p k) k) }

-- what an item that extends a key shares and spells
pub record Stands (previous : List ℕ) (shared : ℕ) (rest : List ℕ) : Type 0 where
  pub shares : shared_len previous (take shared previous ++ rest) ≡ shared
  pub rises : Precedes previous (take shared previous ++ rest)

pub Stands-from_Extends : (p : List ℕ) (s : ℕ) (rest : List ℕ) → Extends p s rest → Stands p s rest
Stands-from_Extends p s [] h = absurd (omega (arith, h.more))
Stands-from_Extends [] zero (y ∷ rest) h = record { shares = refl; rises = refl }
Stands-from_Extends (x ∷ p) zero (y ∷ rest) h =
    elim h.rises [
      | inl e ↦ absurd (omega (arith, e))
      | inr e ↦ record { shares = shared_len-other x y p rest (λ q. omega arith); rises = slice_cmp-less x y p rest e }
    ]
Stands-from_Extends [] (suc s) (y ∷ rest) h = absurd (omega (arith, h.within))
Stands-from_Extends (x ∷ p) (suc s) (y ∷ rest) h =
    let i = Stands-from_Extends p s (y ∷ rest) (record { within = omega (arith, h.within); more = h.more; rises = elim h.rises [ inl a ↦ inl (omega (arith, a)) | inr b ↦ inr b ]; fits = omega (arith, h.fits) }) in
    record {
      shares = shared_len-same x x p (take s p ++ y ∷ rest) refl ∙ ap suc i.shares;
      rises = slice_cmp-same x x p (take s p ++ y ∷ rest) refl ∙ i.rises;
    }

-- ---- the next key beside a sought one

Extends-tail : (x : ℕ) (p : List ℕ) (s : ℕ) (rest : List ℕ) → Extends (x ∷ p) (suc s) rest → Extends p s rest
Extends-tail x p s rest h = record { within = omega (arith, h.within); more = h.more; rises = elim h.rises [ inl a ↦ inl (omega (arith, a)) | inr b ↦ inr b ]; fits = omega (arith, h.fits) }

no_greater : {A : Type 0} → Greater ≡ Less → A
no_greater e = absurd cc

-- a key that shares more with the key before it than that one with the sought key stands below too
pub Precedes-longer : (p k : List ℕ) (s : ℕ) (rest : List ℕ) → s ≤ length p → Precedes p k → shared_len p k < s → Precedes (take s p ++ rest) k × (shared_len p k ≡ shared_len (take s p ++ rest) k)
Precedes-longer [] k s rest w h lt = absurd (omega arith)
Precedes-longer (x ∷ p) [] s rest w h lt = no_greater h
Precedes-longer (x ∷ p) (y ∷ k) zero rest w h lt = absurd (omega arith)
Precedes-longer (x ∷ p) (y ∷ k) (suc s) rest w h lt =
    elim (cases_order x y) [
      | inl e ↦
          let same = shared_len-same x y p k e in
          let i = Precedes-longer p k s rest (omega arith) (sym (slice_cmp-same x y p k e) ∙ h) (omega (arith, same)) in
          (slice_cmp-same x y (take s p ++ rest) k e ∙ i.0, same ∙ ap suc i.1 ∙ sym (shared_len-same x y (take s p ++ rest) k e))
      | inr (inl e) ↦ (slice_cmp-less x y (take s p ++ rest) k e, shared_len-other x y p k (λ q. omega arith) ∙ sym (shared_len-other x y (take s p ++ rest) k (λ q. omega arith)))
      | inr (inr e) ↦ no_greater (sym (slice_cmp-greater x y p k e) ∙ h)
    ]

-- a key that shares less with the key before it than that one with the sought key stands above
pub Precedes-shorter : (p k : List ℕ) (s : ℕ) (rest : List ℕ) → Extends p s rest → s < shared_len p k → Precedes k (take s p ++ rest)
Precedes-shorter [] k s rest x lt = absurd (omega arith)
Precedes-shorter (x ∷ p) [] s rest h lt = absurd (omega arith)
Precedes-shorter (x ∷ p) (y ∷ k) zero [] h lt = absurd (omega (arith, h.more))
Precedes-shorter (x ∷ p) (y ∷ k) zero (b ∷ rest) h lt =
    elim (cases_eq x y) [
      | inl e ↦ elim h.rises [ inl a ↦ absurd (omega (arith, a)) | inr l ↦ slice_cmp-less y b k rest (omega (arith, l, e)) ]
      | inr e ↦ absurd (omega (arith, shared_len-other x y p k e))
    ]
Precedes-shorter (x ∷ p) (y ∷ k) (suc s) rest h lt =
    elim (cases_eq x y) [
      | inl e ↦ slice_cmp-same y x k (take s p ++ rest) (sym e) ∙ Precedes-shorter p k s rest (Extends-tail x p s rest h) (omega (arith, shared_len-same x y p k e))
      | inr e ↦ absurd (omega (arith, shared_len-other x y p k e))
    ]

-- behind a shared front the rests decide
pub slice_cmp-front : (p k rest : List ℕ) → slice_cmp nat_cmp (take (shared_len p k) p ++ rest) k ≡ slice_cmp nat_cmp rest (drop (shared_len p k) k)
slice_cmp-front [] k rest = refl
slice_cmp-front (x ∷ p) [] rest = refl
slice_cmp-front (x ∷ p) (y ∷ k) rest =
    elim (cases_eq x y) [
      | inl e ↦ rw (shared_len-same x y p k e) (slice_cmp-same x y (take (shared_len p k) p ++ rest) k e ∙ slice_cmp-front p k rest)
      | inr e ↦ rw (shared_len-other x y p k e) refl
    ]

pub shared_len-front : (p k rest : List ℕ) → shared_len (take (shared_len p k) p ++ rest) k ≡ shared_len p k + shared_len rest (drop (shared_len p k) k)
shared_len-front [] k rest = omega arith
shared_len-front (x ∷ p) [] rest = omega arith
shared_len-front (x ∷ p) (y ∷ k) rest =
    elim (cases_eq x y) [
      | inl e ↦ rw (shared_len-same x y p k e) (shared_len-same x y (take (shared_len p k) p ++ rest) k e ∙ omega (arith, shared_len-front p k rest))
      | inr e ↦ rw (shared_len-other x y p k e) (omega arith)
    ]

-- ---- two rests

pub shared_len-comm : (p k : List ℕ) → shared_len p k ≡ shared_len k p
shared_len-comm [] [] = refl
shared_len-comm [] (y ∷ k) = refl
shared_len-comm (x ∷ p) [] = refl
shared_len-comm (x ∷ p) (y ∷ k) =
    elim (cases_eq x y) [
      | inl e ↦ shared_len-same x y p k e ∙ ap suc (shared_len-comm p k) ∙ sym (shared_len-same y x k p (sym e))
      | inr e ↦ shared_len-other x y p k e ∙ sym (shared_len-other y x k p (λ q. e (sym q)))
    ]

pub Precedes-from_shared : (p k : List ℕ) → shared_len p k < length k → (shared_len p k ≡ length p) ⊎ (get_or p (shared_len p k) 0 < get_or k (shared_len p k) 0) → Precedes p k
Precedes-from_shared p [] lt h = absurd (omega arith)
Precedes-from_shared [] (y ∷ k) lt h = refl
Precedes-from_shared (x ∷ p) (y ∷ k) lt h =
    elim (cases_eq x y) [
      | inl e ↦
          let same = shared_len-same x y p k e in
          let h' : (suc (shared_len p k) ≡ length (x ∷ p)) ⊎ (get_or (x ∷ p) (suc (shared_len p k)) 0 < get_or (y ∷ k) (suc (shared_len p k)) 0) =
          subst (λ (n : ℕ). (n ≡ length (x ∷ p)) ⊎ (get_or (x ∷ p) n 0 < get_or (y ∷ k) n 0)) same h in
          slice_cmp-same x y p k e ∙ Precedes-from_shared p k (omega (arith, same)) (elim h' [ inl a ↦ inl (omega (arith, a)) | inr b ↦ inr b ])
      | inr e ↦
          let other = shared_len-other x y p k e in
          let h' : (0 ≡ length (x ∷ p)) ⊎ (x < y) = subst (λ (n : ℕ). (n ≡ length (x ∷ p)) ⊎ (get_or (x ∷ p) n 0 < get_or (y ∷ k) n 0)) other h in
          elim h' [ inl a ↦ absurd (omega (arith, a)) | inr b ↦ slice_cmp-less x y p k b ]
    ]

pub same_from_shared : (p k : List ℕ) → shared_len p k ≡ length p → shared_len p k ≡ length k → p ≡ k
same_from_shared p k a b =
    sym (take_all (shared_len p k) p (omega arith)) ∙ take-shared_len p k ∙ take_all (shared_len p k) k (omega arith)

pub differs_at_shared : (p k : List ℕ) → shared_len p k < length p → shared_len p k < length k → get_or p (shared_len p k) 0 ≡ get_or k (shared_len p k) 0 → ⊥
differs_at_shared [] k a b h = omega arith
differs_at_shared (x ∷ p) [] a b h = omega arith
differs_at_shared (x ∷ p) (y ∷ k) a b h =
    elim (cases_eq x y) [
      | inl e ↦
          let same = shared_len-same x y p k e in
          let h' : get_or p (shared_len p k) 0 ≡ get_or k (shared_len p k) 0 = subst (λ (n : ℕ). get_or (x ∷ p) n 0 ≡ get_or (y ∷ k) n 0) same h in
          differs_at_shared p k (omega (arith, same)) (omega (arith, same)) h'
      | inr e ↦ let h' : x ≡ y = subst (λ (n : ℕ). get_or (x ∷ p) n 0 ≡ get_or (y ∷ k) n 0) (shared_len-other x y p k e) h in e h'
    ]

-- ---- the order as a whole

pub Precedes-trans : (a b c : List ℕ) → Precedes a b → Precedes b c → Precedes a c
Precedes-trans a b c = nat_list_cmp_total.trans a b c

reversed : (o : Ordering) → o ≡ Less → ordering_reverse o ≡ Greater
reversed o e = ap ordering_reverse e

-- what stands above does not compare as less or equal
pub greater_from_Precedes : (a b : List ℕ) → Precedes a b → slice_cmp nat_cmp b a ≡ Greater
greater_from_Precedes a b h = nat_list_cmp_total.antisymm b a ∙ reversed _ h

pub Precedes-from_greater : (a b : List ℕ) → slice_cmp nat_cmp b a ≡ Greater → Precedes a b
Precedes-from_greater a b h = nat_list_cmp_total.antisymm a b ∙ ap ordering_reverse h

pub bytes_eq-below : (a b : List ℕ) → Precedes a b → bytes_eq a b ≡ false
bytes_eq-below a b h = sym (is_eq-slice_cmp a b) ∙ ap is_eq h

pub bytes_eq-above : (a b : List ℕ) → Precedes b a → bytes_eq a b ≡ false
bytes_eq-above a b h = sym (is_eq-slice_cmp a b) ∙ ap is_eq (greater_from_Precedes b a h)

pub bytes_eq-same : (a : List ℕ) → bytes_eq a a ≡ true
bytes_eq-same a = (bytes_eq-Decides a a).1 refl
