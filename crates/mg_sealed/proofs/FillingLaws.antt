-- Items are filled into blocks in one way.
use Rattle.std.proofs.Common.{◌≡◌, ℕ, ◌<◌, inl, inr, List, [], ◌∷◌, ◌++◌, length, refl, sym, ap, ◌∙◌, arith, append_assoc}
use Rattle.std.proofs.lemmas.Bool.{cases_lt}
use Rattle.std.proofs.lemmas.List.{length-append}
use Rattle.mg_sealed.specs.Filling.{Fits, IsClosed, AreFilled, items_of, Grows, OneFilling}

-- a list that goes on behind another one, with what is left behind each
record GoesOn {T : Type 0} (xs ys us vs : List T) : Type 0 where
  first : T
  more : List T
  longer : ys ≡ xs ++ first ∷ more
  left : us ≡ first ∷ (more ++ vs)

same_fronts : {T : Type 0} (xs ys us vs : List T) → xs ++ us ≡ ys ++ vs → length xs ≡ length ys → (xs ≡ ys) × (us ≡ vs)
same_fronts [] [] us vs same len = (refl, same)
same_fronts [] (y ∷ ys) us vs same len = absurd (omega arith)
same_fronts (x ∷ xs) [] us vs same len = absurd (omega arith)
same_fronts (x ∷ xs) (y ∷ ys) us vs same len =
    let head : x ≡ y = cc in
    let tail : xs ++ us ≡ ys ++ vs = cc in
    let rest = same_fronts xs ys us vs tail (omega arith) in
    (cc (head, rest.0), rest.1)

longer_front : {T : Type 0} (xs ys us vs : List T) → xs ++ us ≡ ys ++ vs → length xs < length ys → GoesOn xs ys us vs
longer_front [] [] us vs same less = absurd (omega arith)
longer_front [] (y ∷ ys) us vs same less = record { first = y; more = ys; longer = refl; left = same }
longer_front (x ∷ xs) [] us vs same less = absurd (omega arith)
longer_front (x ∷ xs) (y ∷ ys) us vs same less =
    let head : x ≡ y = cc in
    let tail : xs ++ us ≡ ys ++ vs = cc in
    let rest = longer_front xs ys us vs tail (omega arith) in
    record { first = rest.first; more = rest.more; longer = cc (head, rest.longer); left = rest.left }

-- no block could have been longer
no_longer : {T : Type 0} (block_of : List T → List ℕ) (items longer rest : List T) (following : List (List T)) → Grows block_of
    → Fits block_of items → IsClosed block_of items following → AreFilled block_of following → Fits block_of longer → GoesOn items longer (items_of following) rest → ⊥
no_longer block_of [] longer rest following grows fits closed filled fits' goes = fits.some refl
no_longer block_of (x ∷ xs) longer rest [] grows fits closed filled fits' goes = let e = goes.left in absurd cc
no_longer block_of (x ∷ xs) longer rest ([] ∷ following) grows fits closed filled fits' goes = filled.0.some refl
no_longer block_of (x ∷ xs) longer rest ((item ∷ items) ∷ following) grows fits closed filled fits' goes =
    let next : item ≡ goes.first = let e = goes.left in cc in
    let whole : longer ≡ ((x ∷ xs) ++ item ∷ []) ++ goes.more =
    goes.longer ∙ ap (λ y. (x ∷ xs) ++ y ∷ goes.more) (sym next) ∙ sym (append_assoc (x ∷ xs) (item ∷ []) goes.more) in
    let size = ap (λ ys. length (block_of ys)) whole in
    let above = grows ((x ∷ xs) ++ item ∷ []) goes.more in
    let many = ap length goes.longer ∙ length-append (x ∷ xs) (goes.first ∷ goes.more) in
    elim fits'.small [ inl small ↦ omega arith | inr one ↦ omega arith ]

one_way : {T : Type 0} (block_of : List T → List ℕ) (blocks others : List (List T)) → Grows block_of → AreFilled block_of blocks → AreFilled block_of others
    → items_of blocks ≡ items_of others → blocks ≡ others
one_way block_of [] [] grows filled filled' same = refl
one_way block_of [] ([] ∷ others) grows filled filled' same = absurd (filled'.0.some refl)
one_way block_of [] ((y ∷ ys) ∷ others) grows filled filled' same = absurd cc
one_way block_of ([] ∷ blocks) [] grows filled filled' same = absurd (filled.0.some refl)
one_way block_of ((x ∷ xs) ∷ blocks) [] grows filled filled' same = absurd cc
one_way block_of (xs ∷ blocks) (ys ∷ others) grows filled filled' same = elim (cases_lt (length xs) (length ys)) [
  | inl less ↦ absurd (no_longer block_of xs ys (items_of others) blocks grows filled.0 filled.1 filled.2 filled'.0
      (longer_front xs ys (items_of blocks) (items_of others) same less))
  | inr least ↦ elim (cases_lt (length ys) (length xs)) [
    | inl less ↦ absurd (no_longer block_of ys xs (items_of blocks) others grows filled'.0 filled'.1 filled'.2 filled.0
        (longer_front ys xs (items_of others) (items_of blocks) (sym same) less))
    | inr least' ↦
        let parts = same_fronts xs ys (items_of blocks) (items_of others) same (omega arith) in
        let rest = one_way block_of blocks others grows filled.2 filled'.2 parts.1 in
        cc (parts.0, rest)
  ]
]

pub one_filling : (T : Type 0) → OneFilling T
one_filling T block_of blocks others grows filled filled' same = one_way block_of blocks others grows filled filled' same
