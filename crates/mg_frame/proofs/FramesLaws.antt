-- Laws of frames one after another: one reading, and what a torn log gives.
use Rattle.std.proofs.Common.{◌≡◌, ℕ, ◌+◌, ◌-◌, ◌<◌, ◌≤◌, ◌^◌, ◌⊎◌, List, [], ◌∷◌, ◌++◌, length, take, drop, refl, sym, ap, subst, ◌∙◌, arith, inl, inr, suc}
use Rattle.std.proofs.Math.Seq.{take-add}
use Rattle.std.proofs.lemmas.List.{take_at, drop_at, take-append-le, drop-append-le, length-take-le, length-append, length-drop, take-append-drop, append_assoc, append-nil, append_cancel_left}
use Rattle.std.proofs.lemmas.List.Elements.{All-head, All-tail, All-drop}
use Rattle.std.proofs.lemmas.Bool.{cases_lt, cases_eq}
use Rattle.std.specs.List.{All, enumerate_from}
use Rattle.mg_frame.specs.BigEndian.{AreBytes, big_endian}
use Rattle.mg_frame.proofs.BigEndianLaws.{AreBytes-drop}
use Rattle.mg_frame.specs.Frame.{digest, covered, frame, said_length, said_number, said_digest, true_digest, IsEntry, BeginsWithNone, NoFrame}
use Rattle.mg_frame.proofs.FrameLaws.{length-frame, said_length-frame, said_number-frame, whole_spelled, none_if_short, none_if_torn, number_fits, length_fits, covered_parts, frame_covered}
use Rattle.mg_frame.specs.Frames.{frames, NoChance, TornLogLaw, OneReadingLaw, NoneOfAnyLaw, OneNumberedReadingLaw, FrontChanceLaw, MoreChanceLaw}

-- ---- one reading

same_bodies : (number : ℕ) (body other rest rest' : List ℕ) → length body ≡ length other → frame number body ++ rest ≡ frame number other ++ rest' → body ≡ other
same_bodies number body other rest rest' len same =
    let x = digest (covered number body) ++ rest in
    let y = digest (covered number other) ++ rest' in
    let left : frame number body ++ rest ≡ big_endian 4 (length body) ++ (big_endian 8 number ++ (body ++ x)) = frame_covered number body rest ∙ covered_parts number body x in
    let right : frame number other ++ rest' ≡ big_endian 4 (length body) ++ (big_endian 8 number ++ (other ++ y)) =
    frame_covered number other rest' ∙ covered_parts number other y ∙ ap (λ n. big_endian 4 n ++ (big_endian 8 number ++ (other ++ y))) (sym len) in
    let from_number : big_endian 8 number ++ (body ++ x) ≡ big_endian 8 number ++ (other ++ y) = append_cancel_left (big_endian 4 (length body)) _ _ (sym left ∙ same ∙ right) in
    let from_body : body ++ x ≡ other ++ y = append_cancel_left (big_endian 8 number) _ _ from_number in
    sym (take_at body x (length body) refl) ∙ ap (take (length body)) from_body ∙ take_at other y (length body) (sym len)

-- two frames that begin the same bytes are one
pub record SameFrame (entry other : ℕ × List ℕ) (rest rest' : List ℕ) : Type 0 where
  pub number : entry.0 ≡ other.0
  pub body : entry.1 ≡ other.1
  pub after : rest ≡ rest'

pub same_frame : (entry other : ℕ × List ℕ) (rest rest' : List ℕ) → IsEntry entry → IsEntry other
    → frame entry.0 entry.1 ++ rest ≡ frame other.0 other.1 ++ rest' → SameFrame entry other rest rest'
same_frame entry other rest rest' fits fits' same =
    let number : entry.0 ≡ other.0 =
    sym (said_number-frame entry.0 entry.1 rest fits.number_fits) ∙ ap said_number same ∙ said_number-frame other.0 other.1 rest' fits'.number_fits in
    let len : length entry.1 ≡ length other.1 =
    sym (said_length-frame entry.0 entry.1 rest fits.body_fits) ∙ ap said_length same ∙ said_length-frame other.0 other.1 rest' fits'.body_fits in
    let alike : frame entry.0 entry.1 ++ rest ≡ frame entry.0 other.1 ++ rest' = same ∙ ap (λ n. frame n other.1 ++ rest') (sym number) in
    let body : entry.1 ≡ other.1 = same_bodies entry.0 entry.1 other.1 rest rest' len alike in
    let equal : frame entry.0 entry.1 ++ rest ≡ frame entry.0 entry.1 ++ rest' = alike ∙ ap (λ xs. frame entry.0 xs ++ rest') (sym body) in
    record { number = number; body = body; after = append_cancel_left (frame entry.0 entry.1) rest rest' equal }

pub OneReading : OneReadingLaw
unfolding frames BeginsWithNone
OneReading [] [] rest rest' fits fits' same none none' = (refl, same)
OneReading [] (other ∷ others) rest rest' fits fits' same none none' =
    absurd (none other (frames others ++ rest') (All-head IsEntry other others fits') (same ∙ append_assoc (frame other.0 other.1) (frames others) rest'))
OneReading (entry ∷ entries) [] rest rest' fits fits' same none none' =
    absurd (none' entry (frames entries ++ rest) (All-head IsEntry entry entries fits) (sym same ∙ append_assoc (frame entry.0 entry.1) (frames entries) rest))
OneReading (entry ∷ entries) (other ∷ others) rest rest' fits fits' same none none' =
    let first = same_frame entry other (frames entries ++ rest) (frames others ++ rest') (All-head IsEntry entry entries fits) (All-head IsEntry other others fits')
    (sym (append_assoc (frame entry.0 entry.1) (frames entries) rest) ∙ same ∙ append_assoc (frame other.0 other.1) (frames others) rest') in
    let others_same = OneReading entries others rest rest' (All-tail IsEntry entry entries fits) (All-tail IsEntry other others fits') first.after none none' in
    let entry_same : entry ≡ other = pair_same entry other first.number first.body in
    (ap (λ e. e ∷ entries) entry_same ∙ ap (λ es. other ∷ es) others_same.0, others_same.1)
  where
    pair_same : (a b : ℕ × List ℕ) → a.0 ≡ b.0 → a.1 ≡ b.1 → a ≡ b
    pair_same (a0, a1) (b0, b1) first second = cc

-- ---- a log of frames with numbers that rise by one

pub NoneOfAny : NoneOfAnyLaw
unfolding BeginsWithNone NoFrame
NoneOfAny number bytes number_fits none = λ body rest body_fits is. none (number, body) rest (record { number_fits = number_fits; body_fits = body_fits }) is

pub OneNumberedReading : OneNumberedReadingLaw
unfolding frames NoFrame
OneNumberedReading number [] [] rest rest' fits fits' bodies bodies' same none none' = (refl, same)
OneNumberedReading number [] (other ∷ others) rest rest' fits fits' bodies bodies' same none none' =
    let zero_more : number + length {A = List ℕ} [] ≡ number = omega arith in
    absurd (subst (λ (n : ℕ). NoFrame n rest) zero_more none other (frames (enumerate_from (number + 1) others) ++ rest') (All-head (λ body. length body < 2 ^ 32) other others bodies')
    (same ∙ append_assoc (frame number other) (frames (enumerate_from (number + 1) others)) rest'))
OneNumberedReading number (body ∷ one) [] rest rest' fits fits' bodies bodies' same none none' =
    let zero_more : number + length {A = List ℕ} [] ≡ number = omega arith in
    absurd (subst (λ (n : ℕ). NoFrame n rest') zero_more none' body (frames (enumerate_from (number + 1) one) ++ rest) (All-head (λ body. length body < 2 ^ 32) body one bodies)
    (sym same ∙ append_assoc (frame number body) (frames (enumerate_from (number + 1) one)) rest))
OneNumberedReading number (body ∷ one) (body' ∷ other) rest rest' fits fits' bodies bodies' same none none' =
    let small : number < 2 ^ 64 = omega arith in
    let first = same_frame (number, body) (number, body') (frames (enumerate_from (number + 1) one) ++ rest) (frames (enumerate_from (number + 1) other) ++ rest')
    (record { number_fits = small; body_fits = All-head (λ body. length body < 2 ^ 32) body one bodies })
    (record { number_fits = small; body_fits = All-head (λ body. length body < 2 ^ 32) body' other bodies' })
    (sym (append_assoc (frame number body) (frames (enumerate_from (number + 1) one)) rest) ∙ same ∙ append_assoc (frame number body') (frames (enumerate_from (number + 1) other)) rest') in
    let one_more : number + length (body ∷ one) ≡ (number + 1) + length one = omega arith in
    let one_more' : number + length (body' ∷ other) ≡ (number + 1) + length other = omega arith in
    let more = OneNumberedReading (number + 1) one other rest rest' (omega arith) (omega arith)
    (All-tail (λ body. length body < 2 ^ 32) body one bodies) (All-tail (λ body. length body < 2 ^ 32) body' other bodies') first.after
    (subst (λ (n : ℕ). NoFrame n rest) one_more none) (subst (λ (n : ℕ). NoFrame n rest') one_more' none') in
    (ap (λ b. b ∷ one) first.body ∙ ap (λ bs. body' ∷ bs) more.0, more.1)

-- ---- whether a whole frame begins the bytes

record Begins (bytes : List ℕ) : Type 0 where
  pub entry : ℕ × List ℕ
  pub rest : List ℕ
  pub fits : IsEntry entry
  pub spelled : bytes ≡ frame entry.0 entry.1 ++ rest

begins_or_none : (bytes : List ℕ) → AreBytes bytes → BeginsWithNone bytes ⊎ Begins bytes
begins_or_none bytes small = elim (cases_lt (length bytes) (said_length bytes + 20)) [
  | inl short ↦ inl (none_if_short bytes short)
  | inr enough ↦ elim (cases_eq (said_digest bytes) (true_digest bytes)) [
    | inr torn ↦ inl (none_if_torn bytes torn)
    | inl intact ↦
        let body = take (said_length bytes) (drop 12 bytes) in
        let len : length body ≡ said_length bytes = length-take-le (said_length bytes) (drop 12 bytes) (omega (arith, length-drop 12 bytes)) in
        inr (record {
          entry = (said_number bytes, body);
          rest = drop (said_length bytes + 20) bytes;
          fits = record { number_fits = number_fits bytes small (omega arith); body_fits = rw len (length_fits bytes small (omega arith)) };
          spelled = whole_spelled bytes (said_number bytes) small enough refl intact;
        })
  ]
]

none_in_nothing : (bytes : List ℕ) → length bytes ≡ 0 → BeginsWithNone bytes
unfolding BeginsWithNone
none_in_nothing bytes empty = λ entry rest fits is. omega (arith, ap length is, length-append (frame entry.0 entry.1) rest, length-frame entry.0 entry.1)

-- ---- a torn log

pub frames-append : (entries others : List (ℕ × List ℕ)) → frames (entries ++ others) ≡ frames entries ++ frames others
unfolding frames
frames-append [] others = refl
frames-append (entry ∷ entries) others = ap (λ xs. frame entry.0 entry.1 ++ xs) (frames-append entries others) ∙ sym (append_assoc (frame entry.0 entry.1) (frames entries) (frames others))

frames-one : (entry : ℕ × List ℕ) → frames (entry ∷ []) ≡ frame entry.0 entry.1
unfolding frames
frames-one entry = append-nil (frame entry.0 entry.1)

frames-cons : (entry : ℕ × List ℕ) (entries : List (ℕ × List ℕ)) → frames (entry ∷ entries) ≡ frame entry.0 entry.1 ++ frames entries
unfolding frames
frames-cons entry entries = refl

record ReadsOn (image : List ℕ) (done left : List (ℕ × List ℕ)) : Type 0 where
  pub count : ℕ
  pub among : count ≤ length left
  pub rest : List ℕ
  pub image_is : image ≡ frames (done ++ take count left) ++ rest
  pub then_none : BeginsWithNone rest

reads_none : (image tail : List ℕ) (done left : List (ℕ × List ℕ)) → image ≡ frames done ++ tail → BeginsWithNone tail → ReadsOn image done left
reads_none image tail done left is none =
    record { count = 0; among = omega arith; rest = tail; image_is = is ∙ ap (λ es. frames es ++ tail) (sym (append-nil done)); then_none = none }

-- the frame that the rest of the image begins with is the next one that was written
next_is_written : (image tail : List ℕ) (done left : List (ℕ × List ℕ)) (entry : ℕ × List ℕ) → image ≡ frames done ++ tail → NoChance image (frames (done ++ entry ∷ left))
    → IsEntry entry → (found : Begins tail) → tail ≡ frame entry.0 entry.1 ++ found.rest
unfolding NoChance
next_is_written image tail done left entry is sure fits found =
    let at = length (frames done) in
    let here : drop at image ≡ tail = ap (drop at) is ∙ drop_at (frames done) tail at refl in
    let written = sure at found.entry (record { fits = found.fits; rest = found.rest; spelled = here ∙ found.spelled }) in
    let there : drop at (frames (done ++ entry ∷ left)) ≡ frame entry.0 entry.1 ++ frames left =
    ap (drop at) (frames-append done (entry ∷ left)) ∙ drop_at (frames done) (frames (entry ∷ left)) at refl ∙ frames-cons entry left in
    let same = same_frame found.entry entry written.rest (frames left) found.fits fits (sym written.spelled ∙ there) in
    found.spelled ∙ ap (λ n. frame n found.entry.1 ++ found.rest) same.number ∙ ap (λ xs. frame entry.0 xs ++ found.rest) same.body

read_on : (left done : List (ℕ × List ℕ)) (image tail : List ℕ) → All IsEntry left → AreBytes tail → image ≡ frames done ++ tail → length tail ≤ length (frames left)
    → NoChance image (frames (done ++ left)) → ReadsOn image done left
unfolding frames
read_on [] done image tail fits small is short sure = reads_none image tail done [] is (none_in_nothing tail (omega arith))
read_on (entry ∷ left) done image tail fits small is short sure = elim (begins_or_none tail small) [
  | inl none ↦ reads_none image tail done (entry ∷ left) is none
  | inr found ↦
      let tail_is : tail ≡ frame entry.0 entry.1 ++ found.rest = next_is_written image tail done left entry is sure (All-head IsEntry entry left fits) found in
      let further : image ≡ frames (done ++ entry ∷ []) ++ found.rest =
      is ∙ ap (λ xs. frames done ++ xs) tail_is ∙ sym (append_assoc (frames done) (frame entry.0 entry.1) found.rest)
      ∙ ap (λ xs. frames done ++ xs ++ found.rest) (sym (frames-one entry)) ∙ ap (λ xs. xs ++ found.rest) (sym (frames-append done (entry ∷ []))) in
      let rest_is : drop (length (frame entry.0 entry.1)) tail ≡ found.rest = ap (drop (length (frame entry.0 entry.1))) tail_is ∙ drop_at (frame entry.0 entry.1) found.rest _ refl in
      let rest_small : AreBytes found.rest = subst AreBytes rest_is (AreBytes-drop (length (frame entry.0 entry.1)) tail small) in
      let rest_short : length found.rest ≤ length (frames left) =
      omega (arith, ap length tail_is, length-append (frame entry.0 entry.1) found.rest, length-append (frame entry.0 entry.1) (frames left)) in
      let sure' : NoChance image (frames ((done ++ entry ∷ []) ++ left)) = subst (λ (es : List (ℕ × List ℕ)). NoChance image (frames es)) (sym (append_assoc done (entry ∷ []) left)) sure in
      let more = read_on left (done ++ entry ∷ []) image found.rest (All-tail IsEntry entry left fits) rest_small further rest_short sure' in
      record {
        count = suc more.count;
        among = omega (arith, more.among);
        rest = more.rest;
        image_is = more.image_is ∙ ap (λ es. frames es ++ more.rest) (append_assoc done (entry ∷ []) (take more.count left));
        then_none = more.then_none;
      }
]

pub TornLog : TornLogLaw
TornLog entries image tail least fits small within is short sure =
    let done = take least entries in
    let left = drop least entries in
    let all : done ++ left ≡ entries = take-append-drop least entries in
    let tail_is : drop (length (frames done)) image ≡ tail = ap (drop (length (frames done))) is ∙ drop_at (frames done) tail _ refl in
    let tail_small : AreBytes tail = subst AreBytes tail_is (AreBytes-drop (length (frames done)) image small) in
    let parts : length (frames entries) ≡ length (frames done) + length (frames left) =
    ap (λ es. length (frames es)) (sym all) ∙ ap length (frames-append done left) ∙ length-append (frames done) (frames left) in
    let tail_short : length tail ≤ length (frames left) = omega (arith, ap length is, length-append (frames done) tail) in
    let sure' : NoChance image (frames (done ++ left)) = subst (λ (es : List (ℕ × List ℕ)). NoChance image (frames es)) (sym all) sure in
    let more = read_on left done image tail (All-drop IsEntry least entries fits) tail_small is tail_short sure' in (
      least + more.count,
      omega arith,
      record {
        among = omega (arith, more.among, length-drop least entries);
        rest = more.rest;
        image_is = more.image_is ∙ ap (λ es. frames es ++ more.rest) (sym (take-add least more.count entries));
        then_none = more.then_none;
      },
    )

-- ---- what a front of the written bytes says of chance

-- a list that begins the whole begins its front, where that is long enough
begins_front : (front rest begins more : List ℕ) → length begins ≤ length front → front ++ rest ≡ begins ++ more → front ≡ begins ++ drop (length begins) front
begins_front front rest begins more fits is =
    let n = length begins in
    let head : take n front ≡ begins = sym (take-append-le n front rest fits) ∙ ap (take n) is ∙ take_at begins more n refl in
    sym (take-append-drop n front) ∙ ap (λ xs. xs ++ drop n front) head

pub FrontChance : FrontChanceLaw
unfolding NoChance
FrontChance image front rest short sure = λ at entry here.
    let size = length (frame entry.0 entry.1) in
    let whole = sure at entry here in
    let left : length image - at ≡ size + length here.rest = sym (length-drop at image) ∙ ap length here.spelled ∙ length-append (frame entry.0 entry.1) here.rest in
    let some : 20 ≤ size = omega (arith, length-frame entry.0 entry.1) in
    let split : drop at front ++ rest ≡ frame entry.0 entry.1 ++ whole.rest = sym (drop-append-le at front rest (omega arith)) ∙ whole.spelled in
    record {
      fits = here.fits;
      rest = drop size (drop at front);
      spelled = begins_front (drop at front) rest (frame entry.0 entry.1) whole.rest (omega (arith, length-drop at front)) split;
    }

pub MoreChance : MoreChanceLaw
unfolding NoChance
MoreChance image front rest sure = λ at entry here.
    let there = sure at entry here in
    let left : length front - at ≡ length (frame entry.0 entry.1) + length there.rest = sym (length-drop at front) ∙ ap length there.spelled ∙ length-append (frame entry.0 entry.1) there.rest in
    let some : 20 ≤ length (frame entry.0 entry.1) = omega (arith, length-frame entry.0 entry.1) in
    record {
      fits = here.fits;
      rest = there.rest ++ rest;
      spelled = drop-append-le at front rest (omega arith) ∙ ap (λ xs. xs ++ rest) there.spelled ∙ append_assoc (frame entry.0 entry.1) there.rest rest;
    }
