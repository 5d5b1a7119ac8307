-- The mutations of a list with their numbers, and the newest ones, also of a front of the list.
use Rattle.std.proofs.Common.{◌≡◌, inl, inr, ℕ, zero, suc, ◌+◌, ◌<◌, ◌≤◌, List, [], ◌∷◌, length, take, ◌==◌, nat_lt, None, Some, refl, ap, ◌∙◌, sym, arith}
use Rattle.std.specs.List.{filter}
use Rattle.std.proofs.lemmas.Bool.{eqb-true, eq-eqb, ltb-true, lt-ltb}
use Rattle.std.proofs.lemmas.List.{length-take}
use Rattle.mg_types.specs.declared.items.Item.{Item}
use Rattle.mg_model.specs.Mutations.{Mutations, item_of, items_from, items_of, newest, live}
use Rattle.mg_core.specs.Lists.{Has, RisesBy}
use Rattle.mg_core.proofs.ListLemmas.{has_filter, from_filter, rises_cons, rises_filter, one_member, newest_upper, newest_least, newest_has}

-- the numbers of items lie within the list
items_within : (n : ℕ) (m : Mutations) (i : Item) → Has (items_from n m) i → (n ≤ i.seq) × (i.seq < n + length m)
items_within n [] i h = absurd h
items_within n (None ∷ m) i h = let r = items_within (n + 1) m i h in (omega (arith, r.0), omega (arith, r.1))
items_within n (Some x ∷ m) i (inl e) = let s : n ≡ i.seq = ap (λ (j : Item). j.seq) e in (omega (arith, s), omega (arith, s))
items_within n (Some x ∷ m) i (inr h) = let r = items_within (n + 1) m i h in (omega (arith, r.0), omega (arith, r.1))

pub item_within : (m : Mutations) (i : Item) → Has (items_of m) i → (1 ≤ i.seq) × (i.seq ≤ length m)
item_within m i h = let r = items_within 1 m i h in (r.0, omega (arith, r.1))

items_from_rise : (n : ℕ) (m : Mutations) → RisesBy (λ (i : Item). i.seq) (items_from n m)
items_from_rise n [] = tt
items_from_rise n (None ∷ m) = items_from_rise (n + 1) m
items_from_rise n (Some x ∷ m) = rises_cons (λ (i : Item). i.seq) (item_of n x) (items_from (n + 1) m) (λ i h. omega (arith, (items_within (n + 1) m i h).0)) (items_from_rise (n + 1) m)

pub items_rise : (m : Mutations) → RisesBy (λ (i : Item). i.seq) (items_of m)
items_rise m = items_from_rise 1 m

pub one_item : (m : Mutations) (i j : Item) → Has (items_of m) i → Has (items_of m) j → i.seq ≡ j.seq → i ≡ j
one_item m i j h k e = one_member (λ (i : Item). i.seq) (items_of m) i j (items_rise m) h k e

-- the items of a front are those up to its end
front_items : (n c : ℕ) (m : Mutations) (i : Item) → Has (items_from n m) i → i.seq < n + c → Has (items_from n (take c m)) i
front_items n c [] i h l = absurd h
front_items n zero (None ∷ m) i h l = absurd (omega (arith, (items_within n (None ∷ m) i h).0, l))
front_items n (suc c) (None ∷ m) i h l = front_items (n + 1) c m i h (omega (arith, l))
front_items n zero (Some x ∷ m) i h l = absurd (omega (arith, (items_within n (Some x ∷ m) i h).0, l))
front_items n (suc c) (Some x ∷ m) i (inl e) l = inl e
front_items n (suc c) (Some x ∷ m) i (inr h) l = inr (front_items (n + 1) c m i h (omega (arith, l)))

items_front : (n c : ℕ) (m : Mutations) (i : Item) → Has (items_from n (take c m)) i → Has (items_from n m) i
items_front n zero m i h = absurd h
items_front n (suc c) [] i h = absurd h
items_front n (suc c) (None ∷ m) i h = items_front (n + 1) c m i h
items_front n (suc c) (Some x ∷ m) i (inl e) = inl e
items_front n (suc c) (Some x ∷ m) i (inr h) = inr (items_front (n + 1) c m i h)

pub in_front : (c : ℕ) (m : Mutations) (i : Item) → Has (items_of m) i → i.seq ≤ c → Has (items_of (take c m)) i
in_front c m i h l = front_items 1 c m i h (omega (arith, l))

pub from_front : (c : ℕ) (m : Mutations) (i : Item) → Has (items_of (take c m)) i → Has (items_of m) i
from_front c m i h = items_front 1 c m i h

pub length_front : (c : ℕ) (m : Mutations) → c ≤ length m → length (take c m) ≡ c
length_front c m l = omega (arith, length-take c m, l)

-- newest mutations

pub newest_of : (m : Mutations) (i : Item) → Has (live m) i → Has (items_of m) i × (newest m i.key ≡ i.seq)
newest_of m i h = let r = from_filter (λ (i : Item). newest m i.key == i.seq) (items_of m) i h in (r.0, eqb-true (newest m i.key) i.seq r.1)

pub is_live : (m : Mutations) (i : Item) → Has (items_of m) i → newest m i.key ≡ i.seq → Has (live m) i
is_live m i h e = has_filter (λ (i : Item). newest m i.key == i.seq) (items_of m) i h (eq-eqb (newest m i.key) i.seq e)

pub live_rises : (m : Mutations) → RisesBy (λ (i : Item). i.seq) (live m)
live_rises m = rises_filter (λ (i : Item). i.seq) (λ (i : Item). newest m i.key == i.seq) (items_of m) (items_rise m)

pub at_most_newest : (m : Mutations) (i : Item) → Has (items_of m) i → i.seq ≤ newest m i.key
at_most_newest m i h = newest_upper (λ (i : Item). i.key) (λ (i : Item). i.seq) (items_of m) i i.key h refl

-- a key's newest mutation, where it has one
pub newest_item : (m : Mutations) (key : List ℕ) → 0 < newest m key → (i : Item) × Has (live m) i × (i.key ≡ key) × (i.seq ≡ newest m key)
newest_item m key l =
    let q = newest_has (λ (i : Item). i.key) (λ (i : Item). i.seq) (items_of m) key l in
    (q.0, is_live m q.0 q.1 (ap (newest m) q.2 ∙ sym q.3), q.2, q.3)

-- a newest mutation of the list is one of each front that has it
pub live_in_front : (c : ℕ) (m : Mutations) (i : Item) → Has (live m) i → i.seq ≤ c → Has (live (take c m)) i
live_in_front c m i h l =
    let r = newest_of m i h in
    let f = in_front c m i r.0 l in
    let above = at_most_newest (take c m) i f in
    let below = newest_least (λ (j : Item). j.key) (λ (j : Item). j.seq) (items_of (take c m)) i.key i.seq
    (λ j k e. omega (arith, at_most_newest m j (from_front c m j k), ap (newest m) e, r.1)) in
    is_live (take c m) i f (omega (arith, above, below))

-- the newest mutations above a place
pub late_of : (lo : ℕ) (m : Mutations) (i : Item) → Has (filter (λ (i : Item). nat_lt lo i.seq) (live m)) i → Has (live m) i × (lo < i.seq)
late_of lo m i h = let r = from_filter (λ (i : Item). nat_lt lo i.seq) (live m) i h in (r.0, ltb-true lo i.seq r.1)

pub is_late : (lo : ℕ) (m : Mutations) (i : Item) → Has (live m) i → lo < i.seq → Has (filter (λ (i : Item). nat_lt lo i.seq) (live m)) i
is_late lo m i h l = has_filter (λ (i : Item). nat_lt lo i.seq) (live m) i h (lt-ltb lo i.seq l)

pub late_rise : (lo : ℕ) (m : Mutations) → RisesBy (λ (i : Item). i.seq) (filter (λ (i : Item). nat_lt lo i.seq) (live m))
late_rise lo m = rises_filter (λ (i : Item). i.seq) (λ (i : Item). nat_lt lo i.seq) (live m) (live_rises m)
