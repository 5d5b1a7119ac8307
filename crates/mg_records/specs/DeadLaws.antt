-- An entry of a delete list has one spelling, and blocks of them are short.
use Rattle.std.proofs.Common.{◌≡◌, ℕ, ◌+◌, ◌*◌, ◌≤◌, List, [], ◌∷◌, ◌++◌, length, refl, ap, ◌∙◌, inl, inr, arith}
use Rattle.std.proofs.lemmas.List.{length-append}
use Rattle.mg_frame.specs.BigEndian.{big_endian}
use Rattle.mg_frame.proofs.BigEndianLaws.{length-big_endian}
use Rattle.mg_frame.proofs.SplitLaws.{one_number}
use Rattle.mg_types.specs.Limits.{IsSize}
use Rattle.mg_types.specs.declared.items.Dead.{Dead}
use Rattle.mg_sealed.specs.Filling.{Fits}
use Rattle.mg_indexed.specs.Forms.{list_form, IsFrameLength}
use Rattle.mg_records.specs.File.{block_of}
use Rattle.mg_records.specs.Framed.{IsFramed}
use Rattle.mg_records.specs.Record.{IsLawful, record_bytes}
use Rattle.mg_records.specs.DeadRecord.{dead_kind}

same_dead : (dead other : Dead) → dead.seq ≡ other.seq → dead.size ≡ other.size → dead ≡ other
same_dead dead other seq size =
    ap (λ (n : ℕ). let d : Dead = record { seq = n; size = dead.size } in d) seq ∙ ap (λ (n : ℕ). let d : Dead = record { seq = other.seq; size = n } in d) size

one_spelling : (dead other : Dead) (rest rest' : List ℕ) → IsSize dead.size → IsSize other.size → dead.seq ≡ other.seq → big_endian 4 dead.size ++ rest ≡ big_endian 4 other.size ++ rest'
    → (dead ≡ other) × (rest ≡ rest')
one_spelling dead other rest rest' fits fits' seq same =
    let one = one_number 4 dead.size other.size rest rest' (omega (arith, fits.1)) (omega (arith, fits'.1)) same in
    (same_dead dead other seq one.0, one.1)

length-block : (block : List Dead) → length (block_of dead_kind block) ≡ 12 * length block
length-block [] = refl
length-block (dead ∷ block) =
    omega (
      arith,
      length-append (record_bytes dead_kind dead) (block_of dead_kind block),
      length-append (big_endian 8 dead.seq) (big_endian 4 dead.size),
      length-big_endian 8 dead.seq,
      length-big_endian 4 dead.size,
      length-block block,
    )

frames : (block : List Dead) → Fits (block_of dead_kind) block → IsFrameLength list_form (length (block_of dead_kind block) + 20)
frames [] fits = absurd (fits.some refl)
frames (dead ∷ block) fits =
    let long = length-block (dead ∷ block) in
    let most : length (block_of dead_kind (dead ∷ block)) ≤ 4092 = elim fits.small [ inl small ↦ omega (arith, small, long) | inr one ↦ omega (arith, one, long) ] in
    (omega (arith, long), omega (arith, most), omega (arith, most))

pub dead_framed : IsFramed dead_kind list_form
dead_framed = record { unfiltered = refl; frames = λ block fit fits. frames block fits }

pub dead_lawful : IsLawful dead_kind
dead_lawful = record {
  some_size = λ dead fits. fits.0;
  most_size = λ dead fits. fits.1;
  most_bytes = λ dead fits. omega (arith, length-big_endian 4 dead.size);
  numbered = λ dead number fits. (record { seq = number; size = dead.size }, refl, fits, refl);
  one_spelling = λ dead other rest rest' fits fits' seq same. one_spelling dead other rest rest' fits fits' seq same;
}
