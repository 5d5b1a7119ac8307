-- A record in a block: its number, and then its contents.
use Rattle.std.proofs.Common.{◌≡◌, ℕ, ◌+◌, ◌<◌, ◌≤◌, ◌^◌, List, [], ◌∷◌, ◌++◌, length, take, drop, sym, ap, ◌∙◌, inl, inr, arith, append_assoc, Some}
use Rattle.std.proofs.lemmas.List.{length-append, take_at, drop_at}
use Rattle.mg_frame.specs.BigEndian.{big_endian}
use Rattle.mg_frame.proofs.BigEndianLaws.{length-big_endian}
use Rattle.mg_frame.proofs.SplitLaws.{one_number}
use Rattle.mg_types.specs.declared.faults.Fault.{Fault}
use Rattle.mg_types.specs.declared.faults.Fault.TheVariants.{Damaged, Malformed}
use Rattle.mg_types.specs.declared.names.FileId.{FileId}
use Rattle.mg_sealed.specs.Numbers.{IsTooGreat}
use Rattle.mg_records.specs.Lookup.{HasNumber, IsRecordUnfit, IsSplit}
use Rattle.mg_records.specs.Record.{Kind, IsLawful, IsRecord, IsTaken, Measures, record_bytes}

pub length-record_bytes : {T : Type 0} (kind : Kind T) (it : T) → length (record_bytes kind it) ≡ 8 + length (kind.contents it)
length-record_bytes kind it = omega (arith, length-append (big_endian 8 (kind.seq it)) (kind.contents it), length-big_endian 8 (kind.seq it))

pub some_bytes_of : {T : Type 0} (kind : Kind T) (it : T) → 1 ≤ length (record_bytes kind it)
some_bytes_of kind it = omega (arith, length-record_bytes kind it)

pub most_in_record : {T : Type 0} (kind : Kind T) → IsLawful kind → (it : T) → IsRecord kind it → length (record_bytes kind it) < 2 ^ 21
most_in_record kind lawful it fits = omega (arith, length-record_bytes kind it, lawful.most_bytes it fits.fits)

-- a number, and what follows it, are read in one way
one_number_of : (number other : ℕ) (rest more : List ℕ) → number < 2 ^ 64 → other < 2 ^ 64 → big_endian 8 number ++ rest ≡ big_endian 8 other ++ more → (number ≡ other) × (rest ≡ more)
one_number_of number other rest more small small' is = one_number 8 number other rest more (omega (arith, small)) (omega (arith, small')) is

record_numbered : {T : Type 0} (kind : Kind T) (it : T) (rest : List ℕ) → record_bytes kind it ++ rest ≡ big_endian 8 (kind.seq it) ++ (kind.contents it ++ rest)
record_numbered kind it rest = append_assoc (big_endian 8 (kind.seq it)) (kind.contents it) rest

-- a record, and what follows it, are read in one way
pub one_record : {T : Type 0} (kind : Kind T) → IsLawful kind → (it other : T) (rest rest' : List ℕ) → IsRecord kind it → IsRecord kind other
    → record_bytes kind it ++ rest ≡ record_bytes kind other ++ rest' → (it ≡ other) × (rest ≡ rest')
one_record kind lawful it other rest rest' fits fits' is =
    let numbers = one_number_of (kind.seq it) (kind.seq other) (kind.contents it ++ rest) (kind.contents other ++ rest') (omega (arith, fits.small)) (omega (arith, fits'.small))
    (sym (record_numbered kind it rest) ∙ is ∙ record_numbered kind other rest') in
    lawful.one_spelling it other rest rest' fits.fits fits'.fits numbers.0 numbers.1

-- the record that was taken of a number and contents
pub same_taken : {T : Type 0} (kind : Kind T) → IsLawful kind → (it taken : T) (number : ℕ) (bytes : List ℕ) → IsRecord kind it → number ≡ kind.seq it → bytes ≡ kind.contents it → IsTaken kind number bytes taken → taken ≡ it
same_taken kind lawful it taken number bytes fits here spelled took =
    (lawful.one_spelling taken it [] [] took.1 fits.fits (took.0 ∙ here) (ap (λ (b : List ℕ). b ++ []) (sym took.2 ∙ spelled))).0

-- the number that a record begins with
pub number_is : {T : Type 0} (kind : Kind T) (it : T) (rest : List ℕ) (number : ℕ) → HasNumber (record_bytes kind it ++ rest) number → IsRecord kind it → number ≡ kind.seq it
number_is kind it rest number has fits =
    (one_number_of number (kind.seq it) has.0 (kind.contents it ++ rest) has.1 (let small = fits.small in omega arith) (sym has.2 ∙ record_numbered kind it rest)).0

-- ---- what is split off

-- a number and the contents behind it are a record
pub split_is : {T : Type 0} (kind : Kind T) → IsLawful kind → (low bound : ℕ) (bytes : List ℕ) (number : ℕ) (behind : List ℕ) (len : ℕ) (contents rest : List ℕ) → 1 ≤ low → low ≤ number → number < bound → number < 2 ^ 62
    → bytes ≡ big_endian 8 number ++ behind → Measures kind behind (Some len) → contents ≡ take len behind → rest ≡ drop len behind → IsSplit kind low bound bytes number contents rest
split_is kind lawful low bound bytes number behind len contents rest some over under small is m front back =
    let it = lawful.numbered m.0 number m.2 in
    let front' : contents ≡ kind.contents m.0 = front ∙ ap (take len) m.3 ∙ take_at (kind.contents m.0) m.1 len (sym m.4) in
    let back' : rest ≡ m.1 = back ∙ ap (drop len) m.3 ∙ drop_at (kind.contents m.0) m.1 len (sym m.4) in (
      it.0,
      record { some = omega (arith, it.1, some, over); small = omega (arith, it.1, small); fits = it.2 },
      sym it.1,
      over,
      under,
      front' ∙ sym it.3,
      is ∙ ap (λ (b : List ℕ). big_endian 8 number ++ b) (m.3 ∙ ap (λ (b : List ℕ). b ++ m.1) (sym it.3) ∙ ap (λ (b : List ℕ). kind.contents it.0 ++ b) (sym back'))
          ∙ ap (λ (n : ℕ). big_endian 8 n ++ (kind.contents it.0 ++ rest)) (sym it.1)
          ∙ sym (record_numbered kind it.0 rest),
    )

pub unnumbered : {T : Type 0} (kind : Kind T) (id : FileId) (at low bound : ℕ) (bytes : List ℕ) (fault : Fault) → ((number : ℕ) (rest : List ℕ) → number < 2 ^ 64 → bytes ≡ big_endian 8 number ++ rest → ⊥)
    → fault ≡ Malformed id at → IsRecordUnfit kind id at low bound bytes fault
unnumbered kind id at low bound bytes fault none is = inr (
  λ it rest fits over under spelled. none (kind.seq it) (kind.contents it ++ rest) (let small = fits.small in omega arith) (spelled ∙ record_numbered kind it rest),
  λ number has. absurd (none number has.0 has.1 has.2),
  is,
)

-- no record of this number follows
pub unfit_here : {T : Type 0} (kind : Kind T) (id : FileId) (at low bound : ℕ) (bytes : List ℕ) (number : ℕ) (behind : List ℕ) (fault : Fault) → number < 2 ^ 62 → bytes ≡ big_endian 8 number ++ behind
    → fault ≡ Malformed id at → ((it : T) (rest : List ℕ) → IsRecord kind it → low ≤ kind.seq it → kind.seq it < bound → number ≡ kind.seq it → behind ≡ kind.contents it ++ rest → ⊥)
    → IsRecordUnfit kind id at low bound bytes fault
unfit_here kind id at low bound bytes number behind fault small is malformed none = inr (
  λ it rest fits over under spelled.
      let one = one_number_of number (kind.seq it) behind (kind.contents it ++ rest) (omega (arith, small)) (let least = fits.small in omega arith) (sym is ∙ spelled ∙ record_numbered kind it rest) in
      none it rest fits over under one.0 one.1,
  λ other has. let one = one_number_of number other behind has.0 (omega (arith, small)) has.1 (sym is ∙ has.2) in omega (arith, one.0, small),
  malformed,
)

great_is : (before after : List ℕ) (n number : ℕ) → n ∷ [] ≡ before ++ number ∷ after → n ≡ number
great_is [] after n number is = cc
great_is (x ∷ before) after n number is = absurd (omega (arith, ap length is, length-append before (number ∷ after)))

pub great_here : {T : Type 0} (kind : Kind T) (id : FileId) (at low bound : ℕ) (bytes : List ℕ) (number : ℕ) (behind : List ℕ) (fault : Fault) → number < 2 ^ 64 → bytes ≡ big_endian 8 number ++ behind
    → IsTooGreat id at (number ∷ []) fault → IsRecordUnfit kind id at low bound bytes fault
great_here kind id at low bound bytes number behind fault small is great =
    let same = great_is great.before great.after number great.number great.numbers_are in
    inl (number, (behind, small, is), omega (arith, same, great.great), great.fault_is ∙ ap (λ (n : ℕ). Damaged id at n (2 ^ 62)) (sym same))
