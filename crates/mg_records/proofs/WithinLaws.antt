-- Records whose numbers rise within bounds, from the front of a block on.
use Rattle.std.proofs.Common.{◌≡◌, ◌≢◌, ℕ, ◌+◌, ◌<◌, ◌≤◌, List, [], ◌∷◌, ◌++◌, refl, arith}
use Rattle.mg_records.specs.File.{first_number, last_number, last_number_after, RiseAfter, AreRising}
use Rattle.mg_records.specs.Lookup.{IsWithin, bound_after, low_after}
use Rattle.mg_records.specs.Record.{Kind}

bound_same : {T : Type 0} (end : ℕ) (xs : List T) → bound_after end end xs ≡ end
bound_same end [] = refl
bound_same end (x ∷ xs) = refl

pub within_push : {T : Type 0} (kind : Kind T) (low bound end : ℕ) (front : List T) (it : T) → IsWithin kind low bound end front → low_after kind low front ≤ kind.seq it
    → kind.seq it < bound_after bound end front → IsWithin kind low bound end (front ++ it ∷ [])
within_push kind low bound end [] it within over under = (over, under, tt)
within_push kind low bound end (x ∷ front) it within over under =
    (within.0, within.1, within_push kind (kind.seq x + 1) end end front it within.2 over (omega (arith, under, bound_same end front)))

pub low_push : {T : Type 0} (kind : Kind T) (low : ℕ) (front : List T) (it : T) → low_after kind low (front ++ it ∷ []) ≡ kind.seq it + 1
low_push kind low [] it = refl
low_push kind low (x ∷ front) it = low_push kind (kind.seq x + 1) front it

pub bound_push : {T : Type 0} (bound end : ℕ) (front : List T) (it : T) → bound_after bound end (front ++ it ∷ []) ≡ end
bound_push bound end [] it = refl
bound_push bound end (x ∷ front) it = refl

-- a record that follows others is within the bounds that they leave
pub within_here : {T : Type 0} (kind : Kind T) (low bound end : ℕ) (front : List T) (it : T) (left : List T) → IsWithin kind low bound end (front ++ it ∷ left)
    → (low_after kind low front ≤ kind.seq it) × (kind.seq it < bound_after bound end front)
within_here kind low bound end [] it left within = (within.0, within.1)
within_here kind low bound end (x ∷ front) it left within =
    let more = within_here kind (kind.seq x + 1) end end front it left within.2 in (more.0, omega (arith, more.1, bound_same end front))

pub within_rises : {T : Type 0} (kind : Kind T) (low bound end : ℕ) (x : T) (xs : List T) → IsWithin kind low bound end (x ∷ xs) → RiseAfter kind x xs
within_rises kind low bound end x [] within = tt
within_rises kind low bound end x (y ∷ xs) within = (omega (arith, within.2.0), within_rises kind (kind.seq x + 1) end end y xs within.2)

pub within_rising : {T : Type 0} (kind : Kind T) (low bound end : ℕ) (xs : List T) → IsWithin kind low bound end xs → AreRising kind xs
within_rising kind low bound end [] within = tt
within_rising kind low bound end (x ∷ xs) within = within_rises kind low bound end x xs within

pub last_below : {T : Type 0} (kind : Kind T) (number low bound end : ℕ) (xs : List T) → number < end → bound ≤ end → IsWithin kind low bound end xs → last_number_after kind number xs < end
last_below kind number low bound end [] below order within = below
last_below kind number low bound end (x ∷ xs) below order within =
    last_below kind (kind.seq x) (kind.seq x + 1) end end xs (omega (arith, within.1, order)) (omega arith) within.2

-- the least number that may follow records is the last one's next
low_is_after : {T : Type 0} (kind : Kind T) (number : ℕ) (xs : List T) → low_after kind (number + 1) xs ≡ last_number_after kind number xs + 1
low_is_after kind number [] = refl
low_is_after kind number (x ∷ xs) = low_is_after kind (kind.seq x) xs

pub low_is_next : {T : Type 0} (kind : Kind T) (low : ℕ) (xs : List T) → xs ≢ [] → low_after kind low xs ≡ last_number kind xs + 1
low_is_next kind low [] some = absurd (some refl)
low_is_next kind low (x ∷ xs) some = low_is_after kind (kind.seq x) xs

pub first_is : {T : Type 0} (kind : Kind T) (first end : ℕ) (xs : List T) → xs ≢ [] → IsWithin kind first (first + 1) end xs → first_number kind xs ≡ first
first_is kind first end [] some within = absurd (some refl)
first_is kind first end (x ∷ xs) some within = omega (arith, within.0, within.1)

-- ---- records of a file that rise

later_is_above : {T : Type 0} (kind : Kind T) (x : T) (xs : List T) (y : T) (ys : List T) → RiseAfter kind x (xs ++ y ∷ ys) → kind.seq x < kind.seq y
later_is_above kind x [] y ys rise = rise.0
later_is_above kind x (z ∷ xs) y ys rise = omega (arith, rise.0, later_is_above kind z xs y ys rise.1)

pub last_is_above : {T : Type 0} (kind : Kind T) (x : T) (xs : List T) → RiseAfter kind x xs → kind.seq x ≤ last_number_after kind (kind.seq x) xs
last_is_above kind x [] rise = omega arith
last_is_above kind x (y ∷ xs) rise = omega (arith, rise.0, last_is_above kind y xs rise.1)

-- records before another one
pub within_before : {T : Type 0} (kind : Kind T) (x : T) (xs : List T) (y : T) (ys : List T) (end : ℕ) → end ≡ kind.seq y → RiseAfter kind x (xs ++ y ∷ ys) → IsWithin kind (kind.seq x + 1) end end xs
within_before kind x [] y ys end is rise = tt
within_before kind x (z ∷ xs) y ys end is rise =
    (omega (arith, rise.0), omega (arith, is, later_is_above kind z xs y ys rise.1), within_before kind z xs y ys end is rise.1)

-- records up to the last one
pub within_last : {T : Type 0} (kind : Kind T) (x : T) (xs : List T) (end : ℕ) → end ≡ last_number_after kind (kind.seq x) xs + 1 → RiseAfter kind x xs → IsWithin kind (kind.seq x + 1) end end xs
within_last kind x [] end is rise = tt
within_last kind x (z ∷ xs) end is rise = (omega (arith, rise.0), omega (arith, is, last_is_above kind z xs rise.1), within_last kind z xs end is rise.1)

-- records that rise, and others that rise from above them
pub rises_on : {T : Type 0} (kind : Kind T) (x : T) (xs : List T) (ys : List T) → RiseAfter kind x xs → AreRising kind ys → (ys ≢ [] → last_number_after kind (kind.seq x) xs < first_number kind ys) → RiseAfter kind x (xs ++ ys)
rises_on kind x [] [] rise rise' above = tt
rises_on kind x [] (y ∷ ys) rise rise' above = (above (λ e. cc), rise')
rises_on kind x (z ∷ xs) ys rise rise' above = (rise.0, rises_on kind z xs ys rise.1 rise' above)

pub rising_on : {T : Type 0} (kind : Kind T) (xs ys : List T) → AreRising kind xs → AreRising kind ys → (ys ≢ [] → last_number kind xs < first_number kind ys) → AreRising kind (xs ++ ys)
rising_on kind [] ys rise rise' above = rise'
rising_on kind (x ∷ xs) ys rise rise' above = rises_on kind x xs ys rise rise' above

pub last_on : {T : Type 0} (kind : Kind T) (number : ℕ) (xs ys : List T) → ys ≢ [] → last_number_after kind number (xs ++ ys) ≡ last_number kind ys
last_on kind number [] [] some = absurd (some refl)
last_on kind number [] (y ∷ ys) some = refl
last_on kind number (x ∷ xs) ys some = last_on kind (kind.seq x) xs ys some
