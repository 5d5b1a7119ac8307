-- Two rising lists become one, entry by entry.
use Rattle.std.proofs.Common.{◌≡◌, ℕ, ◌+◌, ◌<◌, List, [], ◌∷◌, ◌++◌, length, drop, get_or, refl, sym, subst, add-one, drop-cons}
use Rattle.std.proofs.lemmas.List.{append_assoc}
use Rattle.std.proofs.lemmas.List.Sorted.{IsPermutation-trans, IsPermutation-append_right, IsPermutation-middle}
use Rattle.std.specs.List.Sorted.{IsPermutation}
use Rattle.mg_types.specs.declared.items.Dead.{Dead}
use Rattle.mg_records.specs.DeadRecord.{dead_kind}
use Rattle.mg_records.specs.File.{RiseAfter, AreRising}

abbrev pub Rises : List Dead → Type 0
Rises list = AreRising dead_kind list

-- a union on its way: what was put out, and what is left of both lists
pub record Merging (a b all left right : List Dead) : Type 0 where
  pub same : IsPermutation (a ++ b) (all ++ (left ++ right))
  pub first : Rises (all ++ left)
  pub second : Rises (all ++ right)

-- one entry between the entries before it and those that follow
RiseAfter-between : (before : Dead) (all : List Dead) (x : Dead) (left : List Dead) (y : Dead) (right : List Dead) → RiseAfter dead_kind before (all ++ x ∷ left) → RiseAfter dead_kind before (all ++ y ∷ right)
    → x.seq < y.seq → RiseAfter dead_kind before (all ++ x ∷ y ∷ right)
RiseAfter-between before [] x left y right rises rises' below = (rises.0, (below, rises'.1))
RiseAfter-between before (dead ∷ all) x left y right rises rises' below = (rises.0, RiseAfter-between dead all x left y right rises.1 rises'.1 below)

AreRising-between : (all : List Dead) (x : Dead) (left : List Dead) (y : Dead) (right : List Dead) → Rises (all ++ x ∷ left) → Rises (all ++ y ∷ right) → x.seq < y.seq → Rises (all ++ x ∷ y ∷ right)
AreRising-between [] x left y right rises rises' below = (below, rises')
AreRising-between (dead ∷ all) x left y right rises rises' below = RiseAfter-between dead all x left y right rises rises' below

drop_read : (xs : List Dead) (i : ℕ) (d : Dead) → i < length xs → drop i xs ≡ get_or xs i d ∷ drop (i + 1) xs
drop_read xs i d within = rw (add-one, drop-cons xs i d) refl

-- the lesser head goes out
pub Merging-left : (a b all left right : List Dead) (x y : Dead) → Merging a b all (x ∷ left) (y ∷ right) → x.seq < y.seq → Merging a b (all ++ x ∷ []) left (y ∷ right)
Merging-left a b all left right x y m below = record {
  same = subst (λ (t : List Dead). IsPermutation (a ++ b) t) (sym (append_assoc all (x ∷ []) (left ++ y ∷ right))) m.same;
  first = subst Rises (sym (append_assoc all (x ∷ []) left)) m.first;
  second = subst Rises (sym (append_assoc all (x ∷ []) (y ∷ right))) (AreRising-between all x left y right m.first m.second below);
}

pub Merging-right : (a b all left right : List Dead) (x y : Dead) → Merging a b all (x ∷ left) (y ∷ right) → y.seq < x.seq → Merging a b (all ++ y ∷ []) (x ∷ left) right
Merging-right a b all left right x y m below = record {
  same = subst (λ (t : List Dead). IsPermutation (a ++ b) t) (sym (append_assoc all (y ∷ []) (x ∷ left ++ right)))
      (IsPermutation-trans (a ++ b) (all ++ (x ∷ left ++ y ∷ right)) (all ++ (y ∷ (x ∷ left ++ right))) m.same
      (IsPermutation-append_right all (x ∷ left ++ y ∷ right) (y ∷ (x ∷ left ++ right)) (IsPermutation-middle (x ∷ left) y right)));
  first = subst Rises (sym (append_assoc all (y ∷ []) (x ∷ left))) (AreRising-between all y right x left m.second m.first below);
  second = subst Rises (sym (append_assoc all (y ∷ []) right)) m.second;
}

-- the same by places in the two lists
abbrev At : List Dead → List Dead → List Dead → ℕ → ℕ → Type 0
At a b all i j = Merging a b all (drop i a) (drop j b)

pub Merging-take_left : (a b all : List Dead) (i j : ℕ) (d : Dead) → i < length a → j < length b → At a b all i j → (get_or a i d).seq < (get_or b j d).seq → At a b (all ++ get_or a i d ∷ []) (i + 1) j
Merging-take_left a b all i j d in_a in_b m below =
    let left : drop i a ≡ get_or a i d ∷ drop (i + 1) a = drop_read a i d in_a in
    let right : drop j b ≡ get_or b j d ∷ drop (j + 1) b = drop_read b j d in_b in
    let open_left = subst (λ (t : List Dead). Merging a b all t (drop j b)) left m in
    let open_both = subst (λ (t : List Dead). Merging a b all (get_or a i d ∷ drop (i + 1) a) t) right open_left in
    subst (λ (t : List Dead). Merging a b (all ++ get_or a i d ∷ []) (drop (i + 1) a) t) (sym right)
    (Merging-left a b all (drop (i + 1) a) (drop (j + 1) b) (get_or a i d) (get_or b j d) open_both below)

pub Merging-take_right : (a b all : List Dead) (i j : ℕ) (d : Dead) → i < length a → j < length b → At a b all i j → (get_or b j d).seq < (get_or a i d).seq → At a b (all ++ get_or b j d ∷ []) i (j + 1)
Merging-take_right a b all i j d in_a in_b m below =
    let left : drop i a ≡ get_or a i d ∷ drop (i + 1) a = drop_read a i d in_a in
    let right : drop j b ≡ get_or b j d ∷ drop (j + 1) b = drop_read b j d in_b in
    let open_left = subst (λ (t : List Dead). Merging a b all t (drop j b)) left m in
    let open_both = subst (λ (t : List Dead). Merging a b all (get_or a i d ∷ drop (i + 1) a) t) right open_left in
    subst (λ (t : List Dead). Merging a b (all ++ get_or b j d ∷ []) t (drop (j + 1) b)) (sym left)
    (Merging-right a b all (drop (i + 1) a) (drop (j + 1) b) (get_or a i d) (get_or b j d) open_both below)
