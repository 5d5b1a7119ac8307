-- What is wanted of a log, as more of it goes by, and that a buffer which takes it has read there.
use Rattle.std.proofs.Common.{◌≡◌, ◌≤◌, ◌++◌, ◌+◌, ◌-◌, ℕ, zero, suc, List, [], ◌∷◌, length, take, drop, min, refl, sym, ap, ◌∙◌, arith}
use Rattle.std.proofs.Math.Nat.{zero-sub, sub-zero, min_comm}
use Rattle.std.proofs.lemmas.List.{drop_min, length-append, length-take, length-drop, take_min, take_rest}
use Rattle.std.specs.Prelude.{Result, Ok, Err, OnOk, if◌then◌else◌}
use Rattle.std.specs.Result.{is_ok}
use Rattle.mg_disk.specs.Files.{ReadsAt}
use Rattle.mg_memdisk.specs.Pieces.{Takes, wanted_of}
use Rattle.mg_memdisk.specs.declared.pieces.Piece.{Piece}
use Rattle.mg_memdisk.specs.declared.pieces.Wanted.{Wanted}

both_less : (n m : ℕ) → n - m ≡ suc n - suc m
both_less n m = omega arith

-- two lists in a row without their first elements
drop_joined : (n : ℕ) (xs ys : List ℕ) → drop n (xs ++ ys) ≡ drop n xs ++ drop (n - length xs) ys
drop_joined zero xs ys = ap (λ (k : ℕ). xs ++ drop k ys) (sym (zero-sub (length xs)))
drop_joined (suc n) [] ys = ap (λ (k : ℕ). drop k ys) (sym (sub-zero (suc n)))
drop_joined (suc n) (x ∷ xs) ys = drop_joined n xs ys ∙ ap (λ (k : ℕ). drop n xs ++ drop k ys) (both_less n (length xs))

-- the first elements of two lists in a row
take_joined : (n : ℕ) (xs ys : List ℕ) → take n (xs ++ ys) ≡ take n xs ++ take (n - length xs) ys
take_joined zero xs ys = ap (λ (k : ℕ). take k ys) (sym (zero-sub (length xs)))
take_joined (suc n) [] ys = ap (λ (k : ℕ). take k ys) (sym (sub-zero (suc n)))
take_joined (suc n) (x ∷ xs) ys = ap (λ (l : List ℕ). x ∷ l) (take_joined n xs ys ∙ ap (λ (k : ℕ). take n xs ++ take k ys) (both_less n (length xs)))

-- what is still wanted of the bytes behind
abbrev behind : Wanted → List ℕ → List ℕ → List ℕ
behind wanted gone bytes = drop (wanted.at - length gone) bytes

same_room : (wanted : Wanted) (gone : List ℕ) → wanted.most - length (drop wanted.at gone) ≡ wanted.most - length (wanted_of wanted gone)
same_room wanted gone = omega (arith, length-take wanted.most (drop wanted.at gone))

-- what is wanted of a longer log: as much as is still wanted of what comes behind
wanted_joined : (wanted : Wanted) (gone bytes : List ℕ) → wanted_of wanted (gone ++ bytes) ≡ wanted_of wanted gone ++ take (wanted.most - length (wanted_of wanted gone)) (behind wanted gone bytes)
wanted_joined wanted gone bytes =
    ap (take wanted.most) (drop_joined wanted.at gone bytes)
    ∙ take_joined wanted.most (drop wanted.at gone) (behind wanted gone bytes)
    ∙ ap (λ (k : ℕ). wanted_of wanted gone ++ take k (behind wanted gone bytes)) (same_room wanted gone)

-- what is copied of the bytes behind is what is wanted of them
copied : (bytes : List ℕ) (passed before room count : ℕ) → passed ≡ min (length bytes) before → count ≡ min room (length (take (length bytes - passed) (drop passed bytes)))
    → take count (take (length bytes - passed) (drop passed bytes)) ≡ take room (drop before bytes)
copied bytes passed before room count is counts =
    ap (λ (k : ℕ). take k (take (length bytes - passed) (drop passed bytes))) counts
    ∙ take_min room (take (length bytes - passed) (drop passed bytes))
    ∙ ap (take room) (take_rest bytes passed)
    ∙ ap (λ (k : ℕ). take room (drop k bytes)) (is ∙ min_comm (length bytes) before)
    ∙ ap (take room) (drop_min before bytes)

added : (wanted : Wanted) (gone bytes : List ℕ) (old new : Piece) → new.items.items ≡ old.items.items ++ take (wanted.most - length old.items.items) (drop old.before bytes)
    → new.before ≡ old.before - length bytes → Takes wanted gone old → Takes wanted (gone ++ bytes) new
added wanted gone bytes old new items before takes = record {
  items = items ∙ ap (λ (l : List ℕ). l ++ take (wanted.most - length l) (drop old.before bytes)) takes.items
      ∙ ap (λ (k : ℕ). wanted_of wanted gone ++ take (wanted.most - length (wanted_of wanted gone)) (drop k bytes)) takes.before
      ∙ sym (wanted_joined wanted gone bytes);
  before = omega (arith, before, takes.before, length-append gone bytes);
}

-- more bytes went by
pub on_added : {T E : Type 0} (r : Result T E) (wanted : Wanted) (bytes : List ℕ) (old new : Piece) (passed count : ℕ) → passed ≡ min (length bytes) old.before
    → count ≡ min (wanted.most - length old.items.items) (length (take (length bytes - passed) (drop passed bytes)))
    → new.items.items ≡ (if is_ok r then old.items.items ++ take count (take (length bytes - passed) (drop passed bytes)) else old.items.items)
    → new.before ≡ old.before - passed → OnOk r ((gone : List ℕ) → Takes wanted gone old → Takes wanted (gone ++ bytes) new)
on_added (Ok x) wanted bytes old new passed count is counts items before =
    λ gone takes. added wanted gone bytes old new (items ∙ ap (λ (l : List ℕ). old.items.items ++ l) (copied bytes passed old.before (wanted.most - length old.items.items) count is counts)) (omega (arith, before, is)) takes
on_added (Err e) wanted bytes old new passed count is counts items before = tt
