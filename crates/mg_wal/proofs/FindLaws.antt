-- What reads of a log's front say of its first frame, and how the logs of an image are found one by one.
use Rattle.std.proofs.Common.{◌≡◌, ◌∙◌, ◌<◌, ◌≤◌, ◌+◌, ◌++◌, ◌⊎◌, ap, append_assoc, arith, drop, eqb, inl, inr, length, List, min, ℕ, refl, subst, sym, take}
use Rattle.std.proofs.lemmas.List.{length-take, take-append-drop}
use Rattle.std.proofs.lemmas.List.Kept.{Contains-dedup_nat, Contains-from_dedup}
use Rattle.std.proofs.lemmas.List.Sorted.{Contains-permutation, IsPermutation-sym}
use Rattle.std.specs.List.{dedup, Contains}
use Rattle.std.specs.List.Sorted.{IsPermutation}
use Rattle.mg_disk.specs.Names.{numbers_of}
use Rattle.mg_disk.proofs.NameLaws.{has_number}
use Rattle.mg_types.specs.declared.names.Name.{Name}
use Rattle.mg_types.specs.declared.names.Kind.TheVariants.{Wal}
use Rattle.std.specs.Prelude.{◌↔◌, IfSome, IsSome, None, Option, Some}
use Rattle.mg_disk.specs.Images.{Image}
use Rattle.mg_frame.specs.Frame.{frame, said_length, taken, NoFrame}
use Rattle.mg_frame.specs.declared.frame.Taken.{Taken}
use Rattle.mg_frame.specs.declared.frame.Taken.TheVariants.{Whole, End, Short, Number, Torn}
use Rattle.mg_frame.proofs.FrontLaws.{none_by_front, none_if_less, said_length-front, too_few, IsTooFew}
use Rattle.mg_wal_format.specs.Recovery.{log_name}
use Rattle.mg_wal.specs.Findings.{AreNumbers, HasLog, IsBody, IsFirstBody, IsFirstSize, IsSize}

-- ---- the header of a log

module _ (number len : ℕ) (header bytes : List ℕ) (len_is : len ≡ length bytes) (header_is : header ≡ take 12 bytes) where
  said : said_length header ≡ said_length bytes
  said = ap said_length header_is ∙ said_length-front 12 bytes (omega arith)

  header_len : length header ≡ min 12 (length bytes)
  header_len = ap length header_is ∙ length-take 12 bytes

  few : (answer : Taken) → answer ≡ taken header 0 number → IsTooFew header answer
  few answer is = subst (IsTooFew header) (sym is) (too_few number header (omega (arith, header_len)))

  -- where the header is no front of a longer frame, there are no bytes
  pub size_none : (answer : Taken) → answer ≡ taken header 0 number → ((want have : ℕ) → answer ≡ Short want have → ⊥) → IsSize number bytes None
  size_none answer is other = by_answer answer (few answer is) other
    where
      by_answer : (answer : Taken) → IsTooFew header answer → ((want have : ℕ) → answer ≡ Short want have → ⊥) → NoFrame number bytes
      by_answer (Whole start end next) found other = absurd found
      by_answer End found other = none_if_less number bytes (omega (arith, ap length found, header_len))
      by_answer (Short want have) found other = absurd (other want have refl)
      by_answer (Number kept asked) found other = absurd found
      by_answer (Torn kept asked) found other = absurd found

  -- fewer bytes than the frame has
  pub size_less : (want have : ℕ) → Short want have ≡ taken header 0 number → len < want → IsSize number bytes None
  size_less want have is less = none_if_less number bytes (by_want (few (Short want have) is).1)
    where
      by_want : ((want ≡ 12) × (length header < 12)) ⊎ (want ≡ said_length header + 20) → length bytes < said_length bytes + 20
      by_want (inl twelve) = omega (arith, less, len_is, twelve.0)
      by_want (inr size) = omega (arith, less, len_is, size, said)

  -- so many bytes
  pub size_some : (want have : ℕ) → Short want have ≡ taken header 0 number → want ≤ len → IsSize number bytes (Some want)
  size_some want have is enough = (by_want (few (Short want have) is).1, omega (arith, enough, len_is))
    where
      by_want : ((want ≡ 12) × (length header < 12)) ⊎ (want ≡ said_length header + 20) → want ≡ said_length bytes + 20
      by_want (inl twelve) = absurd (omega (arith, header_len, twelve.0, twelve.1, enough, len_is))
      by_want (inr size) = omega (arith, size, said)

-- what is said of a log that is there
log_of : (image : Image) (number : ℕ) (Said Read : List ℕ → Type 0) (found : Option (List ℕ)) → image (log_name number) ≡ found → IsSome found → IfSome found Read → ((bytes : List ℕ) → Read bytes → Said bytes) → HasLog image number Said
log_of image number Said Read None is some read say = absurd (cc)
log_of image number Said Read (Some bytes) is some read say = (bytes, is, say bytes read)

both_read : (found : Option (List ℕ)) (P Q : List ℕ → Type 0) → IfSome found P → IfSome found Q → IfSome found (λ bytes. P bytes × Q bytes)
both_read None P Q p q = tt
both_read (Some bytes) P Q p q = (p, q)

-- a log's length and header tell the size of its first frame
pub size_read : (old image : Image) (number len : ℕ) (header : List ℕ) (size : Option ℕ) → image ≡ old → IsSome (old (log_name number)) → IfSome (old (log_name number)) (λ bytes. len ≡ length bytes)
    → IfSome (image (log_name number)) (λ bytes. header ≡ take 12 (drop 0 bytes)) → ((bytes : List ℕ) → len ≡ length bytes → header ≡ take 12 bytes → IsSize number bytes size) → IsFirstSize old number size
size_read old image number len header size same some len_is header_is say =
    let header_is' : IfSome (old (log_name number)) (λ bytes. header ≡ take 12 bytes) = subst (λ (image : Image). IfSome (image (log_name number)) (λ bytes. header ≡ take 12 bytes)) same header_is in
    log_of old number (λ bytes. IsSize number bytes size) (λ bytes. (len ≡ length bytes) × (header ≡ take 12 bytes)) (old (log_name number)) refl some
    (both_read (old (log_name number)) (λ bytes. len ≡ length bytes) (λ bytes. header ≡ take 12 bytes) len_is header_is') (λ bytes read. say bytes read.0 read.1)

-- ---- the first frame of a log

-- the front of the length of the first frame decides about the bytes
body_by_front : (number size : ℕ) (bytes : List ℕ) (body : Option (List ℕ)) → size ≡ said_length bytes + 20 → IsBody number (take size bytes) body → IsBody number bytes body
body_by_front number size bytes None sized none = none_by_front number size bytes sized none
body_by_front number size bytes (Some body) sized (rest, fits, spelled) = (rest ++ drop size bytes, fits, with_rest bytes size (frame number body) rest spelled)
  where
    with_rest : (bytes : List ℕ) (size : ℕ) (front rest : List ℕ) → take size bytes ≡ front ++ rest → bytes ≡ front ++ (rest ++ drop size bytes)
    with_rest bytes size front rest is = sym (take-append-drop size bytes) ∙ ap (λ (xs : List ℕ). xs ++ drop size bytes) is ∙ append_assoc front rest (drop size bytes)

-- so the piece of that length tells the body of a log's first frame
pub body_read : (old image : Image) (number size : ℕ) (piece front : List ℕ) (body : Option (List ℕ)) → image ≡ old → front ≡ piece → IsFirstSize old number (Some size)
    → IfSome (image (log_name number)) (λ bytes. piece ≡ take size (drop 0 bytes)) → IsBody number front body → IsFirstBody old number body
body_read old image number size piece front body same is (bytes, stands, (sized, enough)) piece_is found =
    let read : piece ≡ take size bytes = subst (λ (found : Option (List ℕ)). IfSome found (λ bytes. piece ≡ take size bytes)) (ap (λ (image : Image). image (log_name number)) same ∙ stands) piece_is in
    (bytes, stands, body_by_front number size bytes body sized (subst (λ (bytes : List ℕ). IsBody number bytes body) (is ∙ read) found))

-- ---- the numbers of the logs

-- numbers of names, in whatever order, each once
pub numbers_once : (image : Image) (names : List Name) (sorted once : List ℕ) → ((name : Name) → Contains names name ↔ IsSome (image name)) → IsPermutation (numbers_of Wal names) sorted → once ≡ dedup eqb sorted → AreNumbers image once
numbers_once image names sorted once all same is number = (there, back)
  where
    there : Contains once number → IsSome (image (log_name number))
    there has =
        let in_sorted : Contains sorted number = Contains-from_dedup eqb sorted number (subst (λ (list : List ℕ). Contains list number) is has) in
        (all (log_name number)).0 ((has_number Wal number names).0 (Contains-permutation sorted (numbers_of Wal names) number (IsPermutation-sym (numbers_of Wal names) sorted same) in_sorted))

    back : IsSome (image (log_name number)) → Contains once number
    back some =
        let in_sorted : Contains sorted number = Contains-permutation (numbers_of Wal names) sorted number same ((has_number Wal number names).1 ((all (log_name number)).1 some)) in
        subst (λ (list : List ℕ). Contains list number) (sym is) (Contains-dedup_nat sorted number in_sorted)
