-- A change of one slot changes what is said of one volume.
use Rattle.std.proofs.Common.{◌≡◌, ◌≢◌, ◌<◌, ◌≤◌, inl, inr, ◌&&◌, ℕ, zero, suc, Bool, true, false, List, [], ◌∷◌, length, get_or, set, refl, sym, ◌∙◌, ap, subst, arith, cond}
use Rattle.std.proofs.lemmas.Bool.Decides.{nat_tests}
use Rattle.std.specs.Prelude.{Option, Some, None, is_none, IsSome}
use Rattle.std.specs.List.{slice_get}
use Rattle.mg_faults.specs.Causes.{raised, kept_count}
use Rattle.mg_disk.specs.Hosts.{SameButFor, GivenBack, Lent, HasFound, IsVolume}
use Rattle.mg_memdisk.specs.declared.hosts.Slot.{Slot}
use Rattle.mg_memdisk.specs.declared.volumes.MemVolume.{MemVolume}
use Rattle.mg_memdisk.specs.Hosts.{slot_of, slot_out, slot_inside, slot_faults, state_of, HasEmpty, IsEmptySlot, Puts}
use Rattle.mg_memdisk.specs.Volumes.{mem_view}
use Rattle.mg_memdisk.specs.Places.{place_of, is_volume}

-- a count that is kept rises as the count does
pub kept_raised : (count rise : ℕ) → kept_count (raised count rise) ≡ raised (kept_count count) rise
kept_raised count rise = omega arith

get_set_same : {X : Type 0} (xs : List X) (i : ℕ) (x : X) → i < length xs → slice_get (set xs i x) i ≡ Some x
get_set_same [] i x lt = absurd (omega (arith, lt))
get_set_same (y ∷ xs) zero x lt = refl
get_set_same (y ∷ xs) (suc i) x lt = get_set_same xs i x (omega (arith, lt))

get_set_other : {X : Type 0} (xs : List X) (i j : ℕ) (x : X) → j ≢ i → slice_get (set xs i x) j ≡ slice_get xs j
get_set_other [] i j x ne = refl
get_set_other (y ∷ xs) zero zero x ne = absurd (ne refl)
get_set_other (y ∷ xs) zero (suc j) x ne = refl
get_set_other (y ∷ xs) (suc i) zero x ne = refl
get_set_other (y ∷ xs) (suc i) (suc j) x ne = get_set_other xs i j x (λ e. ne (ap suc e))

place_apart : (m n : ℕ) → is_volume m ≡ true → is_volume n ≡ true → m ≢ n → place_of m ≢ place_of n
place_apart m n vm vn ne = grind (arith, nat_tests)

pub slot_same : (slots : List Slot) (n : ℕ) (slot : Slot) → is_volume n ≡ true → place_of n < length slots → slot_of (set slots (place_of n) slot) n ≡ Some slot
slot_same slots n slot there lt = ap (λ (t : Bool). cond t (slice_get (set slots (place_of n) slot) (place_of n)) None) there ∙ get_set_same slots (place_of n) slot lt

pub slot_other : (slots : List Slot) (n m : ℕ) (slot : Slot) → is_volume n ≡ true → m ≢ n → slot_of (set slots (place_of n) slot) m ≡ slot_of slots m
slot_other slots n m slot there ne = by_case (is_volume m) refl
  where
    by_case : (t : Bool) → is_volume m ≡ t → slot_of (set slots (place_of n) slot) m ≡ slot_of slots m
    by_case true e = ap (λ (o : Option Slot). cond (is_volume m) o None) (get_set_other slots (place_of n) (place_of m) slot (place_apart m n e there ne))
    by_case false e = ap (λ (t : Bool). cond t (slice_get (set slots (place_of n) slot) (place_of m)) None) e ∙ sym (ap (λ (t : Bool). cond t (slice_get slots (place_of m)) None) e)

pub same_but_for : (settings : Option (List ℕ)) (slots : List Slot) (n : ℕ) (slot : Slot) → is_volume n ≡ true → SameButFor n (state_of settings slots) (state_of settings (set slots (place_of n) slot))
same_but_for settings slots n slot there = record {
  settings = refl;
  out = λ m ne. ap (λ (o : Option Slot). is_volume m && slot_out o) (slot_other slots n m slot there ne);
  inside = λ m ne. ap slot_inside (slot_other slots n m slot there ne);
  lent_faults = λ m ne. ap slot_faults (slot_other slots n m slot there ne);
  lent_moment = λ m ne. refl;
}

get_some : {X : Type 0} (xs : List X) (i : ℕ) (d : X) → i < length xs → slice_get xs i ≡ Some (get_or xs i d)
get_some [] i d lt = absurd (omega (arith, lt))
get_some (y ∷ xs) zero d lt = refl
get_some (y ∷ xs) (suc i) d lt = get_some xs i d (omega (arith, lt))

pub exists : (n : ℕ) → IsVolume n → is_volume n ≡ true
exists n (inl partition) = grind (arith, nat_tests)
exists n (inr log) = grind (arith, nat_tests)

both : (a b : Bool) → (a && b) ≡ true → a ≡ true
both true b e = refl
both false b e = absurd (cc)

pub out_exists : (slots : List Slot) (n : ℕ) → (is_volume n && slot_out (slot_of slots n)) ≡ true → is_volume n ≡ true
out_exists slots n out = both _ _ out

-- whether a volume is out, from its slot
out_at : (slots : List Slot) (n : ℕ) (slot : Slot) → is_volume n ≡ true → slot_of slots n ≡ Some slot → (is_volume n && slot_out (slot_of slots n)) ≡ is_none slot.inside
out_at slots n slot there at = ap (λ (t : Bool). t && slot_out (slot_of slots n)) there ∙ ap slot_out at

-- the slot of a volume
pub slot_there : (slots : List Slot) (n at : ℕ) (d : Slot) → at ≡ place_of n → at < length slots → is_volume n ≡ true → slot_of slots n ≡ Some (get_or slots at d)
slot_there slots n at d is lt there = ap (λ (t : Bool). cond t (slice_get slots (place_of n)) None) there ∙ ap (slice_get slots) (sym is) ∙ get_some slots at d lt

module _ (settings : Option (List ℕ)) (slots : List Slot) (n at : ℕ) (slot : Slot) (is : at ≡ place_of n) (lt : at < length slots) (there : is_volume n ≡ true) where
  now_slot : slot_of (set slots at slot) n ≡ Some slot
  now_slot = subst (λ k. slot_of (set slots k slot) n ≡ Some slot) (sym is) (slot_same slots n slot there (subst (λ k. k < length slots) is lt))

  others : SameButFor n (state_of settings slots) (state_of settings (set slots at slot))
  others = subst (λ k. SameButFor n (state_of settings slots) (state_of settings (set slots k slot))) (sym is) (same_but_for settings slots n slot there)

  pub puts : (vol : MemVolume) → slot.inside ≡ Some vol → Puts n vol (state_of settings slots) (state_of settings (set slots at slot))
  puts vol inside = record {
    others = others;
    out = out_at (set slots at slot) n slot there now_slot ∙ ap is_none inside;
    inside = ap slot_inside now_slot ∙ inside;
  }

  pub gives : (vol : MemVolume) (old : Slot) → slot.inside ≡ Some vol → slot.lent_faults ≡ (get_or slots at old).lent_faults → GivenBack true n vol (state_of settings slots) (state_of settings (set slots at slot))
  gives vol old inside faults = record {
    others = others;
    out = out_at (set slots at slot) n slot there now_slot ∙ ap is_none inside;
    inside = λ tells. ap slot_inside now_slot ∙ inside;
    lent_faults = ap slot_faults now_slot ∙ faults ∙ sym (ap slot_faults (slot_there slots n at old is lt there));
    lent_moment = refl;
  }

  pub lends : (count now : ℕ) → slot.inside ≡ None → slot.lent_faults ≡ count → now ≡ 0 → Lent n count now (state_of settings slots) (state_of settings (set slots at slot))
  lends count now inside faults start = record {
    others = others;
    out = out_at (set slots at slot) n slot there now_slot ∙ ap is_none inside;
    faults = ap slot_faults now_slot ∙ faults;
    moment = sym start;
  }

some_inside : (o : Option MemVolume) → is_none o ≡ false → IsSome o
some_inside None none = absurd (cc)
some_inside (Some vol) none = refl

-- a volume that is not out is in its slot
pub is_inside : (slots : List Slot) (n at : ℕ) (d : Slot) → at ≡ place_of n → at < length slots → is_volume n ≡ true → (is_volume n && slot_out (slot_of slots n)) ≡ false → IsSome (get_or slots at d).inside
is_inside slots n at d is lt there here = some_inside _ (sym (out_at slots n (get_or slots at d) there (slot_there slots n at d is lt there)) ∙ here)

-- the volume of a slot
pub slot_has : (slots : List Slot) (n at : ℕ) (d : Slot) (found : MemVolume) → at ≡ place_of n → at < length slots → is_volume n ≡ true → slot_inside (slot_of slots n) ≡ Some found → (get_or slots at d).inside ≡ Some found
slot_has slots n at d found is lt there inside = sym (ap slot_inside (slot_there slots n at d is lt there)) ∙ inside

option_found : (o : Option MemVolume) → IsSome o → (vol : MemVolume) × (o ≡ Some vol)
option_found None none = absurd (cc)
option_found (Some vol) some = (vol, refl)

pub has_found : (settings : Option (List ℕ)) (slots : List Slot) (n at : ℕ) (d : Slot) (vol : MemVolume) → at ≡ place_of n → at < length slots → is_volume n ≡ true → IsSome (get_or slots at d).inside
    → ((found : MemVolume) → (get_or slots at d).inside ≡ Some found → (mem_view vol).contents ≡ (mem_view found).contents) → HasFound n mem_view (state_of settings slots) vol
has_found settings slots n at d vol is lt there some contents =
    let found = option_found _ some in
    record { found = found.0; was = ap slot_inside (slot_there slots n at d is lt there) ∙ found.1; contents = contents found.0 found.1 }

found_at : {X : Type 0} (xs : List X) (i : ℕ) (x : X) → slice_get xs i ≡ Some x → get_or xs i x ≡ x
found_at [] i x e = refl
found_at (y ∷ xs) zero x e = cc
found_at (y ∷ xs) (suc i) x e = found_at xs i x e

some_not_none : (o : Option MemVolume) → IsSome o → is_none o ≡ false
some_not_none None some = absurd (cc)
some_not_none (Some vol) some = refl

place_below : (n : ℕ) → place_of n < 65
place_below n = grind (arith, nat_tests)

get_none : {X : Type 0} (xs : List X) (i : ℕ) → slice_get xs i ≡ None → length xs ≤ i
get_none [] i e = omega arith
get_none (y ∷ xs) zero e = absurd (cc)
get_none (y ∷ xs) (suc i) e = let le = get_none xs i e in omega arith

-- where each slot has its volume, none is out
pub none_out : (slots : List Slot) → length slots ≡ 65 → ((k : ℕ) (d : Slot) → k < 65 → IsSome (get_or slots k d).inside) → (n : ℕ) → (is_volume n && slot_out (slot_of slots n)) ≡ false
none_out slots len each n = by_volume (is_volume n)
  where
    by_slot : (o : Option Slot) → slice_get slots (place_of n) ≡ o → slot_out o ≡ false
    by_slot None e = absurd (none (get_none slots (place_of n) e))
      where
        none : length slots ≤ place_of n → ⊥
        none le = omega (arith, len, place_below n)
    by_slot (Some slot) e = some_not_none slot.inside (subst (λ (s : Slot). IsSome s.inside) (found_at slots (place_of n) slot e) (each (place_of n) slot (place_below n)))

    by_volume : (t : Bool) → (t && slot_out (cond t (slice_get slots (place_of n)) None)) ≡ false
    by_volume true = by_slot (slice_get slots (place_of n)) refl
    by_volume false = refl

-- where each slot has an empty volume, each volume is empty
pub each_empty : (settings : Option (List ℕ)) (slots : List Slot) → length slots ≡ 65 → ((k : ℕ) (d : Slot) → k < 65 → IsEmptySlot (get_or slots k d)) → (n : ℕ) → IsVolume n → HasEmpty n (state_of settings slots)
each_empty settings slots len each n there = by_slot (slice_get slots (place_of n)) refl
  where
    by_slot : (o : Option Slot) → slice_get slots (place_of n) ≡ o → HasEmpty n (state_of settings slots)
    by_slot None e = absurd (none (get_none slots (place_of n) e))
      where
        none : length slots ≤ place_of n → ⊥
        none le = omega (arith, len, place_below n)
    by_slot (Some slot) e =
        let empty = subst IsEmptySlot (found_at slots (place_of n) slot e) (each (place_of n) slot (place_below n)) in
        let at : slot_of slots n ≡ Some slot = ap (λ (t : Bool). cond t (slice_get slots (place_of n)) None) (exists n there) ∙ e in
        record { vol = empty.vol; inside = ap slot_inside at ∙ empty.inside; is_new = empty.is_new }
