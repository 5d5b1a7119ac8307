-- The order of names: by kind, then by number.
use Rattle.std.proofs.Common.{◌≡◌, ◌==◌, ◌<◌, ◌+◌, ◌⊎◌, inl, inr, ℕ, zero, suc, Bool, true, false, List, [], ◌∷◌, ◌++◌, length, take, get_or, refl, sym, ◌∙◌, ap, subst, cond, arith, append-nil}
use Rattle.std.proofs.lemmas.Bool.Decides.{nat_tests}
use Rattle.std.proofs.lemmas.List.{take_more}
use Rattle.std.proofs.lemmas.List.Elements.{Contains-append_left, Contains-append_right, Contains-append_cases}
use Rattle.std.proofs.lemmas.Map.Lookups.{CmpEqualImpliesEq, exact_unsigned}
use Rattle.std.specs.Prelude.{◌↔◌}
use Rattle.std.specs.Cmp.{IsTotalOrder, nat_cmp_total, on_total, then_total}
use Rattle.std.specs.List.{AllByRecursion, Contains}
use Rattle.std.specs.List.Sorted.{IsStrictlySortedBy}
use Rattle.std.specs.Ordering.{nat_cmp, ordering_then}
use Rattle.std.specs.declared.cmp.Ordering.{Ordering}
use Rattle.std.specs.declared.cmp.Ordering.TheVariants.{Less, Equal, Greater}
use Rattle.mg_types.proofs.KindLaws.{kind_of_code}
use Rattle.mg_types.specs.Names.{kind_code}
use Rattle.mg_types.specs.contracts.names.KindOrd.TheImpl as kinds
use Rattle.mg_types.specs.contracts.names.NameOrd.TheImpl as names
use Rattle.mg_types.specs.declared.names.Kind.{Kind}
use Rattle.mg_types.specs.declared.names.Kind.TheVariants.{Table, Segment, DelList, Manifest, Wal}
use Rattle.mg_types.specs.declared.names.Name.{Name}
use Rattle.mg_disk.specs.Names.{numbers_of}

-- the order of names, as `names` answers them
abbrev pub name_cmp : Name → Name → Ordering
name_cmp = names.ghosts.cmp

-- kinds are ordered by their codes
pub kind_cmp_codes : (a b : Kind) → kinds.ghosts.cmp a b ≡ nat_cmp (kind_code a) (kind_code b)
kind_cmp_codes Table Table = refl
kind_cmp_codes Table Segment = refl
kind_cmp_codes Table DelList = refl
kind_cmp_codes Table Manifest = refl
kind_cmp_codes Table Wal = refl
kind_cmp_codes Segment Table = refl
kind_cmp_codes Segment Segment = refl
kind_cmp_codes Segment DelList = refl
kind_cmp_codes Segment Manifest = refl
kind_cmp_codes Segment Wal = refl
kind_cmp_codes DelList Table = refl
kind_cmp_codes DelList Segment = refl
kind_cmp_codes DelList DelList = refl
kind_cmp_codes DelList Manifest = refl
kind_cmp_codes DelList Wal = refl
kind_cmp_codes Manifest Table = refl
kind_cmp_codes Manifest Segment = refl
kind_cmp_codes Manifest DelList = refl
kind_cmp_codes Manifest Manifest = refl
kind_cmp_codes Manifest Wal = refl
kind_cmp_codes Wal Table = refl
kind_cmp_codes Wal Segment = refl
kind_cmp_codes Wal DelList = refl
kind_cmp_codes Wal Manifest = refl
kind_cmp_codes Wal Wal = refl

-- by kind, then by number
pub name_cmp_parts : (a b : Name) → name_cmp a b ≡ ordering_then (nat_cmp (kind_code a.kind) (kind_code b.kind)) (nat_cmp a.number b.number)
name_cmp_parts a b = ap (λ (o : Ordering). ordering_then o (nat_cmp a.number b.number)) (kind_cmp_codes a.kind b.kind)

nat_cmp_self : (n : ℕ) → nat_cmp n n ≡ Equal
nat_cmp_self n = grind (arith, nat_tests)

kind_is : (name : Name) (kind : Kind) → (kind_code name.kind == kind_code kind) ≡ true → name.kind ≡ kind
kind_is name kind e = kind_of_code _ _ (grind (arith, nat_tests))

abbrev by_parts : Name → Name → Ordering
by_parts a b = ordering_then (nat_cmp (kind_code a.kind) (kind_code b.kind)) (nat_cmp a.number b.number)

same_order : by_parts ≡ name_cmp
same_order i a b = sym (name_cmp_parts a b) i

pub name_total : IsTotalOrder name_cmp
name_total = subst IsTotalOrder same_order (then_total (on_total (λ (a : Name). kind_code a.kind) nat_cmp_total) (on_total (λ (a : Name). a.number) nat_cmp_total))

then_first : (r s : Ordering) → ordering_then r s ≡ Equal → r ≡ Equal
then_first Less s e = cc e
then_first Equal s e = refl
then_first Greater s e = cc e

then_second : (r s : Ordering) → ordering_then r s ≡ Equal → s ≡ Equal
then_second Less s e = cc e
then_second Equal s e = e
then_second Greater s e = cc e

-- names that compare as equal are one
pub name_exact : CmpEqualImpliesEq name_cmp
name_exact a b e =
    let equal : by_parts a b ≡ Equal = sym (name_cmp_parts a b) ∙ e in
    let kind : a.kind ≡ b.kind = kind_of_code _ _ (exact_unsigned _ _ (then_first _ _ equal)) in
    let number : a.number ≡ b.number = exact_unsigned _ _ (then_second _ _ equal) in
    λ i. record { kind = kind i; number = number i }

-- of two names of one kind the lesser has the lesser number
pub number_less : (a b : Name) → a.kind ≡ b.kind → name_cmp a b ≡ Less → nat_cmp a.number b.number ≡ Less
number_less a b same less =
    let equal : nat_cmp (kind_code a.kind) (kind_code b.kind) ≡ Equal = ap (λ (k : Kind). nat_cmp (kind_code a.kind) (kind_code k)) (sym same) ∙ nat_cmp_self (kind_code a.kind) in
    sym (ap (λ (o : Ordering). ordering_then o (nat_cmp a.number b.number)) equal) ∙ sym (name_cmp_parts a b) ∙ less

numbers_above : (kind : Kind) (name : Name) → name.kind ≡ kind → (list : List Name) → AllByRecursion (λ y. name_cmp name y ≡ Less) list → AllByRecursion (λ n. nat_cmp name.number n ≡ Less) (numbers_of kind list)
numbers_above kind name same [] all = tt
numbers_above kind name same (y ∷ list) all = by_case (kind_code y.kind == kind_code kind) refl (numbers_above kind name same list all.1)
  where
    by_case : (t : Bool) → (kind_code y.kind == kind_code kind) ≡ t → AllByRecursion (λ n. nat_cmp name.number n ≡ Less) (numbers_of kind list)
        → AllByRecursion (λ n. nat_cmp name.number n ≡ Less) (cond t (y.number ∷ numbers_of kind list) (numbers_of kind list))
    by_case true e above = (number_less name y (same ∙ sym (kind_is y kind e)) all.0, above)
    by_case false e above = above

-- the numbers of one kind rise where the names do
pub numbers_rise : (kind : Kind) (list : List Name) → IsStrictlySortedBy name_cmp list → IsStrictlySortedBy nat_cmp (numbers_of kind list)
unfolding IsStrictlySortedBy
numbers_rise kind [] sorted = tt
numbers_rise kind (name ∷ list) sorted = by_case (kind_code name.kind == kind_code kind) refl (numbers_rise kind list sorted.1)
  where
    by_case : (t : Bool) → (kind_code name.kind == kind_code kind) ≡ t → IsStrictlySortedBy nat_cmp (numbers_of kind list) → IsStrictlySortedBy nat_cmp (cond t (name.number ∷ numbers_of kind list) (numbers_of kind list))
    by_case true e rise = (numbers_above kind name (kind_is name kind e) list sorted.0, rise)
    by_case false e rise = rise

-- the numbers of one list of names after another
pub numbers_behind : (kind : Kind) (list more : List Name) → numbers_of kind (list ++ more) ≡ numbers_of kind list ++ numbers_of kind more
numbers_behind kind [] more = refl
numbers_behind kind (name ∷ list) more = by_case (kind_code name.kind == kind_code kind) (numbers_behind kind list more)
  where
    by_case : (t : Bool) → numbers_of kind (list ++ more) ≡ numbers_of kind list ++ numbers_of kind more
        → cond t (name.number ∷ numbers_of kind (list ++ more)) (numbers_of kind (list ++ more)) ≡ cond t (name.number ∷ numbers_of kind list) (numbers_of kind list) ++ numbers_of kind more
    by_case true e = ap (λ (l : List ℕ). name.number ∷ l) e
    by_case false e = e

-- the numbers of one name more
pub numbers_more : (kind : Kind) (list : List Name) (i : ℕ) (name : Name) → i < length list
    → numbers_of kind (take (i + 1) list) ≡ numbers_of kind (take i list) ++ numbers_of kind (get_or list i name ∷ [])
numbers_more kind list i name lt = ap (numbers_of kind) (take_more list i name lt) ∙ numbers_behind kind (take i list) (get_or list i name ∷ [])

-- a name more that is of the kind, and one that is not
module _ (kind : Kind) (list : List Name) (i : ℕ) (name : Name) (lt : i < length list) where
  abbrev is_of : Bool
  is_of = kind_code (get_or list i name).kind == kind_code kind

  abbrev so_far : List ℕ
  so_far = numbers_of kind (take i list)

  pub numbers_one : is_of ≡ true → so_far ++ (get_or list i name).number ∷ [] ≡ numbers_of kind (take (i + 1) list)
  numbers_one is = sym (numbers_more kind list i name lt ∙ ap (λ (t : Bool). so_far ++ cond t ((get_or list i name).number ∷ []) []) is)

  pub numbers_none : is_of ≡ false → so_far ≡ numbers_of kind (take (i + 1) list)
  numbers_none is = sym (numbers_more kind list i name lt ∙ ap (λ (t : Bool). so_far ++ cond t ((get_or list i name).number ∷ []) []) is ∙ append-nil so_far)

is_only : {X : Type 0} (x y : X) → Contains (x ∷ []) y → x ≡ y
is_only x y (zero, lt, e) = e
is_only x y (suc k, lt, e) = absurd (omega (arith, lt))

only : {X : Type 0} (x y : X) → x ≡ y → Contains (x ∷ []) y
only x y e = (0, omega arith, e)

module _ (kind : Kind) (n : ℕ) where
  abbrev sought : Name
  sought = record { kind = kind; number = n }

  to_name : (list : List Name) → Contains (numbers_of kind list) n → Contains list sought
  to_name [] (k, lt, e) = absurd (omega (arith, lt))
  to_name (name ∷ list) has = by_case (to_name list) (kind_code name.kind == kind_code kind) refl has
    where
      by_case : (Contains (numbers_of kind list) n → Contains list sought) → (t : Bool) → (kind_code name.kind == kind_code kind) ≡ t → Contains (cond t (name.number ∷ numbers_of kind list) (numbers_of kind list)) n → Contains (name ∷ list) sought
      by_case in_list true e has = first_or_later (Contains-append_cases (name.number ∷ []) (numbers_of kind list) n has)
        where
          first_or_later : Contains (name.number ∷ []) n ⊎ Contains (numbers_of kind list) n → Contains (name ∷ list) sought
          first_or_later (inl first) =
              let same : name.number ≡ n = is_only _ _ first in
              Contains-append_left (name ∷ []) list sought (only name sought (λ i. record { kind = kind_is name kind e i; number = same i }))
          first_or_later (inr later) = Contains-append_right (name ∷ []) list sought (in_list later)
      by_case in_list false e has = Contains-append_right (name ∷ []) list sought (in_list has)

  to_number : (list : List Name) → Contains list sought → Contains (numbers_of kind list) n
  to_number [] (k, lt, e) = absurd (omega (arith, lt))
  to_number (name ∷ list) has = first_or_later (to_number list) (Contains-append_cases (name ∷ []) list sought has)
    where
      later : (t : Bool) → Contains (numbers_of kind list) n → Contains (cond t (name.number ∷ numbers_of kind list) (numbers_of kind list)) n
      later true has = Contains-append_right (name.number ∷ []) (numbers_of kind list) n has
      later false has = has

      first : (name ≡ sought) → Contains (cond (kind_code name.kind == kind_code kind) (name.number ∷ numbers_of kind list) (numbers_of kind list)) n
      first same =
          let test : (kind_code name.kind == kind_code kind) ≡ true = ap (λ (m : Name). kind_code m.kind == kind_code kind) same ∙ equal_self (kind_code kind) in
          subst (λ (t : Bool). Contains (cond t (name.number ∷ numbers_of kind list) (numbers_of kind list)) n) (sym test)
          (Contains-append_left (name.number ∷ []) (numbers_of kind list) n (only _ _ (ap (λ (m : Name). m.number) same)))
        where
          equal_self : (k : ℕ) → (k == k) ≡ true
          equal_self k = grind (arith, nat_tests)

      first_or_later : (Contains list sought → Contains (numbers_of kind list) n) → Contains (name ∷ []) sought ⊎ Contains list sought → Contains (numbers_of kind (name ∷ list)) n
      first_or_later in_list (inl is) = first (is_only _ _ is)
      first_or_later in_list (inr has) = later (kind_code name.kind == kind_code kind) (in_list has)

  -- a number is one of a kind's where the name of that kind and number is in the list
  pub has_number : (list : List Name) → Contains (numbers_of kind list) n ↔ Contains list sought
  has_number list = (to_name list, to_number list)
