-- Lists of what is spelled, as they are read.
use Rattle.std.proofs.Common.{◌≡◌, ℕ, ◌<◌, List, [], ◌∷◌, ◌++◌, length, refl, sym, ap, ◌∙◌, arith}
use Rattle.std.proofs.lemmas.List.{append-nil, append_assoc, length-append}
use Rattle.std.specs.List.{AllByRecursion}
use Rattle.mg_manifest_format.specs.Spelling.{Spelling, listed}

-- one value more
pub listed-push : {X : Type 0} (s : Spelling X) (xs : List X) (x : X) (rest : List ℕ) → listed s (xs ++ x ∷ []) ++ rest ≡ listed s xs ++ (s.bytes x ++ rest)
listed-push s [] x rest = ap (λ (l : List ℕ). l ++ rest) (append-nil (s.bytes x))
listed-push s (y ∷ xs) x rest =
    append_assoc (s.bytes y) (listed s (xs ++ x ∷ [])) rest ∙ ap (λ (l : List ℕ). s.bytes y ++ l) (listed-push s xs x rest)
    ∙ sym (append_assoc (s.bytes y) (listed s xs) (s.bytes x ++ rest))

pub all-push : {X : Type 0} (P : X → Type 0) (xs : List X) (x : X) → AllByRecursion P xs → P x → AllByRecursion P (xs ++ x ∷ [])
all-push P [] x all one = (one, tt)
all-push P (y ∷ xs) x all one = (all.0, all-push P xs x all.1 one)

-- Wherever so many values are spelled at the front of the bytes, these ones are the first of them, and the others are spelled in what is left.
abbrev pub IsAhead : {X : Type 0} → Spelling X → ℕ → List ℕ → List X → List ℕ → Type 0
IsAhead {X} s count bytes read left =
    (xs : List X) (more : List ℕ) → length xs ≡ count → AllByRecursion s.fits xs → bytes ≡ listed s xs ++ more
    → (ys : List X) × AllByRecursion s.fits ys × (xs ≡ read ++ ys) × (left ≡ listed s ys ++ more)

pub ahead_at_first : {X : Type 0} (s : Spelling X) (count : ℕ) (bytes : List ℕ) → IsAhead s count bytes [] bytes
ahead_at_first s count bytes xs more long fits spelled = (xs, fits, refl, spelled)

-- the first of the values that are left
first_left : {X : Type 0} (s : Spelling X) (count : ℕ) (read : List X) (left : List ℕ) (xs : List X) (more : List ℕ) → length read < count → length xs ≡ count
    → (ys : List X) × AllByRecursion s.fits ys × (xs ≡ read ++ ys) × (left ≡ listed s ys ++ more)
    → (y : X) × (ys : List X) × s.fits y × AllByRecursion s.fits ys × (xs ≡ read ++ y ∷ ys) × (left ≡ s.bytes y ++ (listed s ys ++ more))
first_left s count read left xs more small long ([], fits, xs_is, left_is) = absurd (omega (arith, ap length xs_is, length-append read [], small, long))
first_left s count read left xs more small long (y ∷ ys, fits, xs_is, left_is) = (y, ys, fits.0, fits.1, xs_is, left_is ∙ append_assoc (s.bytes y) (listed s ys) more)

-- where one more is there, it is the one that is found
pub ahead_next : {X : Type 0} (s : Spelling X) (count : ℕ) (bytes : List ℕ) (read : List X) (left behind : List ℕ) (x : X) → length read < count
    → ((y : X) (rest : List ℕ) → s.fits y → left ≡ s.bytes y ++ rest → (x ≡ y) × (behind ≡ rest))
    → IsAhead s count bytes read left → IsAhead s count bytes (read ++ x ∷ []) behind
ahead_next {X} s count bytes read left behind x small found ahead xs more long fits spelled =
    let first = first_left s count read left xs more small long (ahead xs more long fits spelled) in
    let ys = first.1 in
    let is = found first.0 (listed s ys ++ more) first.2 first.5 in
    (ys, first.3, first.4 ∙ ap (λ (y : X). read ++ y ∷ ys) (sym is.0) ∙ sym (append_assoc read (x ∷ []) ys), is.1)

-- where none is found, so many were not there
pub ahead_none : {X : Type 0} (s : Spelling X) (count : ℕ) (bytes : List ℕ) (read : List X) (left : List ℕ) → length read < count
    → ((y : X) (rest : List ℕ) → s.fits y → left ≡ s.bytes y ++ rest → ⊥)
    → IsAhead s count bytes read left → (xs : List X) (more : List ℕ) → length xs ≡ count → AllByRecursion s.fits xs → bytes ≡ listed s xs ++ more → ⊥
ahead_none s count bytes read left small none ahead xs more long fits spelled =
    let first = first_left s count read left xs more small long (ahead xs more long fits spelled) in
    none first.0 (listed s first.1 ++ more) first.2 first.5

no_others : {X : Type 0} (s : Spelling X) (count : ℕ) (read : List X) (left : List ℕ) (xs : List X) (more : List ℕ) → length read ≡ count → length xs ≡ count
    → (ys : List X) × AllByRecursion s.fits ys × (xs ≡ read ++ ys) × (left ≡ listed s ys ++ more) → (read ≡ xs) × (left ≡ more)
no_others s count read left xs more all long ([], fits, xs_is, left_is) = (sym (xs_is ∙ append-nil read), left_is)
no_others s count read left xs more all long (y ∷ ys, fits, xs_is, left_is) = absurd (omega (arith, ap length xs_is, length-append read (y ∷ ys), all, long))

-- where so many were read, they are those that are spelled
pub ahead_last : {X : Type 0} (s : Spelling X) (count : ℕ) (bytes : List ℕ) (read : List X) (left : List ℕ) → length read ≡ count
    → IsAhead s count bytes read left → (xs : List X) (more : List ℕ) → length xs ≡ count → AllByRecursion s.fits xs → bytes ≡ listed s xs ++ more → (read ≡ xs) × (left ≡ more)
ahead_last s count bytes read left all ahead xs more long fits spelled = no_others s count read left xs more all long (ahead xs more long fits spelled)
