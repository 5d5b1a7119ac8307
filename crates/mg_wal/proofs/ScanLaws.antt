-- The logs of an image, found one by one in the order of their numbers.
use Rattle.std.proofs.Common.{◌≡◌, ◌∙◌, ◌<◌, ◌≤◌, ◌+◌, ◌-◌, ◌^◌, ◌++◌, ◌⊎◌, ◌∷◌, ⊎_elim, ap, arith, get_or, inl, inr, length, List, map, ℕ, refl, subst, sym, take, zero, suc, []}
use Rattle.std.proofs.lemmas.Bool.{cases_lt}
use Rattle.std.proofs.lemmas.List.{get_or_default, get_or-take, length-take, map-append, take_all, take_more}
use Rattle.std.proofs.lemmas.List.Elements.{Contains-append_cases, Contains-append_left, Contains-append_right}
use Rattle.std.proofs.lemmas.List.Kept.{AllPairs-from_increasing}
use Rattle.std.proofs.lemmas.Option.{unwrap_or-slice_get}
use Rattle.std.specs.List.{AllByRecursion, Contains}
use Rattle.std.specs.List.Sorted.{IsStrictlyIncreasing}
use Rattle.std.specs.Prelude.{IsSome, None, Option, Some, slice_get, unwrap_or}
use Rattle.mg_disk.specs.Images.{Image}
use Rattle.mg_frame.specs.Frame.{frame, NoFrame}
use Rattle.mg_wal_format.specs.Recovery.{log_bytes, log_name, Found, IsStray, NumbersRise}
use Rattle.mg_wal_format.proofs.FoundLaws.{all_among, among}
use Rattle.mg_wal.proofs.StepLaws.{all_append}
use Rattle.mg_wal.specs.declared.finding.FoundLogs.{FoundLogs}
use Rattle.mg_wal.specs.declared.finding.HeadFrame.{HeadFrame}
use Rattle.mg_wal.specs.Findings.{head_frame, AreNumbers, AreRising, HasFound, IsFirstBody}
use Rattle.mg_wal.specs.Openings.{IsNewestName}

-- ---- lists

all_then : {X : Type 0} (P Q : X → Type 0) (xs : List X) → ((x : X) → P x → Q x) → AllByRecursion P xs → AllByRecursion Q xs
all_then P Q [] step all = tt
all_then P Q (x ∷ xs) step all = (step x all.0, all_then P Q xs step all.1)

all_contained : {X : Type 0} (P : X → Type 0) (xs : List X) (x : X) → AllByRecursion P xs → Contains xs x → P x
all_contained P xs x all has = all_among P xs x all (among xs x has)

is_only : {X : Type 0} (x y : X) → Contains (x ∷ []) y → y ≡ x
is_only x y (zero, within, is) = sym is
is_only x y (suc k, within, is) = absurd (omega (arith, within))

last_in : {X : Type 0} (xs : List X) (x : X) → Contains (xs ++ x ∷ []) x
last_in xs x = Contains-append_right xs (x ∷ []) x (0, omega arith, refl)

-- the numbers before a place are less than the one that stands there
pub less_before : (numbers : List ℕ) (i : ℕ) → IsStrictlyIncreasing numbers → i < length numbers → (n : ℕ) → Contains (take i numbers) n → n < get_or numbers i 0
less_before numbers i rise within n (k, below, at) =
    let before : k < i = omega (arith, below, length-take i numbers) in
    let less : get_or numbers k n < get_or numbers i n = AllPairs-from_increasing numbers rise k i n before within in
    omega (arith, less, get_or_default numbers i n 0 within, sym (get_or-take i numbers k n before) ∙ at)

-- the number that stands at a place
contains_at : (numbers : List ℕ) (i : ℕ) → i < length numbers → Contains numbers (get_or numbers i 0)
contains_at numbers i within = (i, within, get_or_default numbers i (get_or numbers i 0) 0 within)

rise_more : (found : List Found) (last : Found) → NumbersRise found → AllByRecursion (λ one. one.number < last.number) found → NumbersRise (found ++ last ∷ [])
rise_more [] last rise less = tt
rise_more (one ∷ []) last rise less = (less.0, tt)
rise_more (one ∷ next ∷ found) last rise less = (rise.0, rise_more (next ∷ found) last rise.1 less.1)

rising_more : (numbers : List ℕ) (last : ℕ) → AreRising numbers → AllByRecursion (λ number. number < last) numbers → AreRising (numbers ++ last ∷ [])
rising_more [] last rise less = tt
rising_more (one ∷ []) last rise less = (less.0, tt)
rising_more (one ∷ next ∷ numbers) last rise less = (rise.0, rising_more (next ∷ numbers) last rise.1 less.1)

-- ---- the logs so far

-- the log stands in the image
abbrev Stands : Image → Found → Type 0
Stands image found = (length found.body < 2 ^ 32) × (image (log_name found.number) ≡ Some (log_bytes found))

-- a log of this number was found, or is one of the strays
abbrev IsJudged : List Found → List ℕ → ℕ → Type 0
IsJudged found strays number = ((one : Found) × Contains found one × (one.number ≡ number)) ⊎ Contains strays number

-- the logs of these numbers are those that were found, with their first frames, and the strays
pub record IsScanned (image : Image) (numbers : List ℕ) (whole : List HeadFrame) (strays : List ℕ) : Type 0 where
  pub found : List Found
  pub whole_is : map head_frame found ≡ whole
  pub stand : AllByRecursion (Stands image) found
  pub rise : NumbersRise found
  pub among_numbers : AllByRecursion (λ one. Contains numbers one.number) found
  pub are_strays : AllByRecursion (λ number. IsStray image (log_name number)) strays
  pub strays_rise : AreRising strays
  pub strays_among : AllByRecursion (Contains numbers) strays
  pub each : (number : ℕ) → Contains numbers number → IsJudged found strays number

pub scanned_none : (image : Image) → IsScanned image [] [] []
scanned_none image = record {
  found = [];
  whole_is = refl;
  stand = tt;
  rise = tt;
  among_numbers = tt;
  are_strays = tt;
  strays_rise = tt;
  strays_among = tt;
  each = λ number has. absurd (omega (arith, has.1));
}

-- one log more, of a greater number
module _ (image : Image) (numbers : List ℕ) (whole : List HeadFrame) (strays : List ℕ) (number : ℕ) (less : (n : ℕ) → Contains numbers n → n < number) (so_far : IsScanned image numbers whole strays) where
  grown : (n : ℕ) → Contains numbers n → Contains (numbers ++ number ∷ []) n
  grown n has = Contains-append_left numbers (number ∷ []) n has

  pub scanned_whole : (body : List ℕ) → IsFirstBody image number (Some body) → IsScanned image (numbers ++ number ∷ []) (whole ++ (let frame : HeadFrame = record { number = number; body = body } in frame) ∷ []) strays
  scanned_whole body (bytes, stands, (rest, fits, spelled)) =
      let last : Found = record { number = number; body = body; rest = rest } in
      record {
        found = so_far.found ++ last ∷ [];
        whole_is = map-append head_frame so_far.found (last ∷ []) ∙ ap (λ (frames : List HeadFrame). frames ++ head_frame last ∷ []) so_far.whole_is;
        stand = all_append (Stands image) so_far.found (last ∷ []) so_far.stand ((fits, stands ∙ ap (λ (bytes : List ℕ). Some bytes) spelled), tt);
        rise = rise_more so_far.found last so_far.rise
            (all_then (λ (one : Found). Contains numbers one.number) (λ (one : Found). one.number < number) so_far.found (λ one has. less one.number has) so_far.among_numbers);
        among_numbers = all_append (λ (one : Found). Contains (numbers ++ number ∷ []) one.number) so_far.found (last ∷ [])
            (all_then (λ (one : Found). Contains numbers one.number) (λ (one : Found). Contains (numbers ++ number ∷ []) one.number) so_far.found (λ one. grown one.number) so_far.among_numbers)
            (last_in numbers number, tt);
        are_strays = so_far.are_strays;
        strays_rise = so_far.strays_rise;
        strays_among = all_then (Contains numbers) (Contains (numbers ++ number ∷ [])) strays grown so_far.strays_among;
        each = λ n has. ⊎_elim
            (λ before. judged_more n last (so_far.each n before))
            (λ here. inl (last, last_in so_far.found last, sym (is_only number n here)))
            (Contains-append_cases numbers (number ∷ []) n has);
      }
    where
      judged_more : (n : ℕ) (last : Found) → IsJudged so_far.found strays n → IsJudged (so_far.found ++ last ∷ []) strays n
      judged_more n last (inl one) = inl (one.0, Contains-append_left so_far.found (last ∷ []) one.0 one.1, one.2)
      judged_more n last (inr stray) = inr stray

  pub scanned_stray : IsFirstBody image number None → IsScanned image (numbers ++ number ∷ []) whole (strays ++ number ∷ [])
  scanned_stray (bytes, stands, none) = record {
    found = so_far.found;
    whole_is = so_far.whole_is;
    stand = so_far.stand;
    rise = so_far.rise;
    among_numbers = all_then (λ (one : Found). Contains numbers one.number) (λ (one : Found). Contains (numbers ++ number ∷ []) one.number) so_far.found (λ one. grown one.number) so_far.among_numbers;
    are_strays = all_append (λ (n : ℕ). IsStray image (log_name n)) strays (number ∷ []) so_far.are_strays ((number, bytes, refl, stands, none), tt);
    strays_rise = rising_more strays number so_far.strays_rise (all_then (Contains numbers) (λ (n : ℕ). n < number) strays less so_far.strays_among);
    strays_among = all_append (Contains (numbers ++ number ∷ [])) strays (number ∷ []) (all_then (Contains numbers) (Contains (numbers ++ number ∷ [])) strays grown so_far.strays_among) (last_in numbers number, tt);
    each = λ n has. ⊎_elim
        (λ before. judged_more n (so_far.each n before))
        (λ here. inr (subst (Contains (strays ++ number ∷ [])) (sym (is_only number n here)) (last_in strays number)))
        (Contains-append_cases numbers (number ∷ []) n has);
  }
    where
      judged_more : (n : ℕ) → IsJudged so_far.found strays n → IsJudged so_far.found (strays ++ number ∷ []) n
      judged_more n (inl one) = inl one
      judged_more n (inr stray) = inr (Contains-append_left strays (number ∷ []) n stray)

-- one turn over the numbers, in an image that is the same
module _ (image now : Image) (numbers items : List ℕ) (i : ℕ) (is : items ≡ numbers) (rise : IsStrictlyIncreasing numbers) (within : i < length items) where
  more : take (i + 1) items ≡ take i items ++ get_or items i 0 ∷ []
  more = take_more items i 0 within

  less : (n : ℕ) → Contains (take i items) n → n < get_or items i 0
  less = less_before items i (subst IsStrictlyIncreasing (sym is) rise) within

  pub whole_more : (whole after : List HeadFrame) (strays after_strays body : List ℕ) → now ≡ image → IsScanned image (take i items) whole strays → IsFirstBody now (get_or items i 0) (Some body)
      → after ≡ whole ++ (let frame : HeadFrame = record { number = get_or items i 0; body = body } in frame) ∷ [] → after_strays ≡ strays → IsScanned image (take (i + 1) items) after after_strays
  whole_more whole after strays after_strays body same so_far first after_is strays_is =
      let next = scanned_whole image (take i items) whole strays (get_or items i 0) less so_far body (subst (λ (image : Image). IsFirstBody image (get_or items i 0) (Some body)) same first) in
      subst (λ (list : List ℕ). IsScanned image list after after_strays) (sym more)
      (subst (λ (list : List HeadFrame). IsScanned image (take i items ++ get_or items i 0 ∷ []) list after_strays) (sym after_is)
      (subst (IsScanned image (take i items ++ get_or items i 0 ∷ []) (whole ++ (let frame : HeadFrame = record { number = get_or items i 0; body = body } in frame) ∷ [])) (sym strays_is) next))

  pub stray_more : (whole after : List HeadFrame) (strays after_strays : List ℕ) → now ≡ image → IsScanned image (take i items) whole strays → IsFirstBody now (get_or items i 0) None
      → after ≡ whole → after_strays ≡ strays ++ get_or items i 0 ∷ [] → IsScanned image (take (i + 1) items) after after_strays
  stray_more whole after strays after_strays same so_far first after_is strays_is =
      let next = scanned_stray image (take i items) whole strays (get_or items i 0) less so_far (subst (λ (image : Image). IsFirstBody image (get_or items i 0) None) same first) in
      subst (λ (list : List ℕ). IsScanned image list after after_strays) (sym more)
      (subst (λ (list : List HeadFrame). IsScanned image (take i items ++ get_or items i 0 ∷ []) list after_strays) (sym after_is)
      (subst (IsScanned image (take i items ++ get_or items i 0 ∷ []) whole) (sym strays_is) next))

-- the numbers of first frames are among those so far
abbrev pub AreAmong : List ℕ → List HeadFrame → Type 0
AreAmong numbers whole = AllByRecursion (λ (frame : HeadFrame). Contains numbers frame.number) whole

-- also of more numbers
pub among_more : (items : List ℕ) (i : ℕ) (whole after : List HeadFrame) → i < length items → AreAmong (take i items) whole → after ≡ whole → AreAmong (take (i + 1) items) after
among_more items i whole after within among is =
    subst (AreAmong (take (i + 1) items)) (sym is)
    (all_then (λ (frame : HeadFrame). Contains (take i items) frame.number) (λ (frame : HeadFrame). Contains (take (i + 1) items) frame.number) whole
    (λ frame has. subst (λ (list : List ℕ). Contains list frame.number) (sym (take_more items i 0 within)) (Contains-append_left (take i items) (get_or items i 0 ∷ []) frame.number has)) among)

pub among_next : (items : List ℕ) (i : ℕ) (whole after : List HeadFrame) (body : List ℕ) → i < length items → AreAmong (take i items) whole
    → after ≡ whole ++ (let frame : HeadFrame = record { number = get_or items i 0; body = body } in frame) ∷ [] → AreAmong (take (i + 1) items) after
among_next items i whole after body within among is =
    let frame : HeadFrame = record { number = get_or items i 0; body = body } in
    subst (AreAmong (take (i + 1) items)) (sym is)
    (all_append (λ (frame : HeadFrame). Contains (take (i + 1) items) frame.number) whole (frame ∷ []) (among_more items i whole whole within among refl)
    (subst (λ (list : List ℕ). Contains list (get_or items i 0)) (sym (take_more items i 0 within)) (last_in (take i items) (get_or items i 0)), tt))

-- ---- all logs

-- this is the last of the numbers, or 0 without any
pub record IsGreatest (numbers : List ℕ) (newest : ℕ) : Type 0 where
  pub most : (number : ℕ) → Contains numbers number → number ≤ newest
  pub is : (newest ≡ 0) ⊎ Contains numbers newest

-- of numbers that rise the last is the greatest
pub greatest_last : (numbers : List ℕ) (newest : ℕ) → IsStrictlyIncreasing numbers → newest ≡ get_or numbers (length numbers - 1) 0 → IsGreatest numbers newest
greatest_last [] newest rise is = record { most = λ number has. absurd (omega (arith, has.1)); is = inl is }
greatest_last (first ∷ rest) newest rise is =
    let numbers : List ℕ = first ∷ rest in
    record {
      most = λ number has. most number has.0 has.1 has.2;
      is = inr (subst (Contains numbers) (sym is) (contains_at numbers (length numbers - 1) (omega arith)));
    }
  where
    most : (number k : ℕ) → k < length (first ∷ rest) → get_or (first ∷ rest) k number ≡ number → number ≤ newest
    most number k within at = elim (cases_lt k (length (first ∷ rest) - 1)) [
      | inl before ↦
          omega (arith, AllPairs-from_increasing (first ∷ rest) rise k (length (first ∷ rest) - 1) number before (omega (arith, within)), get_or_default (first ∷ rest) (length (first ∷ rest) - 1) number 0 (omega (arith, within)), at, is)
      | inr last ↦
          let here : k ≡ length (first ∷ rest) - 1 = omega (arith, within, last) in
          omega (arith, at, is, get_or_default (first ∷ rest) k number 0 within, ap (λ (i : ℕ). get_or (first ∷ rest) i 0) here)
    ]

pub greatest_is : (numbers items : List ℕ) (newest : ℕ) (copied last : Option ℕ) → items ≡ numbers → IsStrictlyIncreasing numbers → newest ≡ unwrap_or copied 0 → copied ≡ last → last ≡ slice_get items (length items - 1) → IsGreatest numbers newest
greatest_is numbers items newest copied last same rise is copy last_is =
    subst (λ (list : List ℕ). IsGreatest list newest) same (greatest_last items newest (subst IsStrictlyIncreasing (sym same) rise)
    (is ∙ ap (λ (o : Option ℕ). unwrap_or o 0) (copy ∙ last_is) ∙ unwrap_or-slice_get items (length items - 1) 0))

-- each is at most the greatest
pub among_below : (numbers : List ℕ) (newest : ℕ) (whole : List HeadFrame) → IsGreatest numbers newest → AreAmong numbers whole → AllByRecursion (λ (frame : HeadFrame). frame.number ≤ newest) whole
among_below numbers newest whole greatest among =
    all_then (λ (frame : HeadFrame). Contains numbers frame.number) (λ (frame : HeadFrame). frame.number ≤ newest) whole (λ frame has. greatest.most frame.number has) among

-- the numbers so far are all of them
pub all_taken : (numbers items : List ℕ) (i : ℕ) → items ≡ numbers → length items ≤ i → take i items ≡ numbers
all_taken numbers items i same past = take_all i items past ∙ same

-- a log of the numbers stands, also in an image that is the same
pub stands_at : (old image : Image) (numbers items : List ℕ) (i : ℕ) → image ≡ old → items ≡ numbers → AreNumbers old numbers → i < length items → IsSome (image (log_name (get_or items i 0)))
stands_at old image numbers items i same is all within =
    subst (λ (image : Image). IsSome (image (log_name (get_or items i 0)))) (sym same) ((subst (AreNumbers old) (sym is) all (get_or items i 0)).0 (contains_at items i within))

some_same : {X : Type 0} (x y : X) → Some x ≡ Some y → x ≡ y
some_same x y same = cc

-- a log that stands is no stray
stands_no_stray : (image : Image) (number : ℕ) (one : Found) → Stands image one → one.number ≡ number → IsStray image (log_name number) → ⊥
unfolding NoFrame
stands_no_stray image number one stands same (n, bytes, named, is, none) =
    let number_is : one.number ≡ n = same ∙ ap (λ name. name.number) named in
    let bytes_are : bytes ≡ log_bytes one = some_same bytes (log_bytes one) (sym is ∙ ap (λ (k : ℕ). image (log_name k)) (sym same) ∙ stands.1) in
    none one.body one.rest stands.0 (bytes_are ∙ ap (λ (k : ℕ). frame k one.body ++ one.rest) number_is)

stray_bytes : (image : Image) (number : ℕ) (bytes : List ℕ) → IsStray image (log_name number) → image (log_name number) ≡ Some bytes → NoFrame number bytes
stray_bytes image number bytes (n, kept, named, is, none) stands =
    let number_is : n ≡ number = sym (ap (λ name. name.number) named) in
    let bytes_are : kept ≡ bytes = some_same kept bytes (sym is ∙ stands) in
    subst (λ (k : ℕ). NoFrame k bytes) number_is (subst (NoFrame n) bytes_are none)

some_is : {X : Type 0} (found : Option X) (x : X) → found ≡ Some x → IsSome found
some_is found x is = subst IsSome (sym is) refl

module _ (image : Image) (numbers : List ℕ) (whole : List HeadFrame) (strays : List ℕ) (newest : ℕ) (all : AreNumbers image numbers) (greatest : IsGreatest numbers newest) (scanned : IsScanned image numbers whole strays) where
  others : (number : ℕ) (bytes : List ℕ) → image (log_name number) ≡ Some bytes → ((one : Found) × Contains scanned.found one × (one.number ≡ number)) ⊎ NoFrame number bytes
  others number bytes is = ⊎_elim inl (λ stray. inr (stray_bytes image number bytes (all_contained (λ (n : ℕ). IsStray image (log_name n)) strays number scanned.are_strays stray) is))
      (scanned.each number ((all number).1 (some_is (image (log_name number)) bytes is)))

  all_strays : (number : ℕ) → IsStray image (log_name number) → Contains strays number
  all_strays number stray = ⊎_elim
      (λ one. absurd (stands_no_stray image number one.0 (all_contained (Stands image) scanned.found one.0 scanned.stand one.1) one.2 stray))
      (λ has. has)
      (scanned.each number ((all number).1 (some_is (image (log_name number)) stray.1 stray.3)))

  newest_name : IsNewestName image newest
  newest_name = record {
    most = λ other some. greatest.most other ((all other).1 some);
    is = ⊎_elim inl (λ has. inr ((all newest).0 has)) greatest.is;
  }

  pub scanned_all : (logs : FoundLogs) → whole ≡ logs.whole.items → strays ≡ logs.strays.items → newest ≡ logs.newest → HasFound image logs
  scanned_all logs whole_is strays_is newest_is = record {
    found = scanned.found;
    are = record { rise = scanned.rise; stand = scanned.stand; others = others };
    whole = scanned.whole_is ∙ whole_is;
    strays = subst (AllByRecursion (λ (n : ℕ). IsStray image (log_name n))) strays_is scanned.are_strays;
    all_strays = λ number stray. subst (λ (list : List ℕ). Contains list number) strays_is (all_strays number stray);
    rise = subst AreRising strays_is scanned.strays_rise;
    newest = subst (IsNewestName image) newest_is newest_name;
  }
