-- A mutation with its number has one spelling, and blocks of them are of bounded length.
use Rattle.std.proofs.Common.{◌≡◌, ℕ, ◌+◌, ◌≤◌, List, [], ◌∷◌, ◌++◌, length, Option, refl, ap, ◌∙◌, inl, inr, arith}
use Rattle.std.proofs.lemmas.List.{length-append}
use Rattle.std.specs.List.{AllByRecursion}
use Rattle.mg_frame.specs.BigEndian.{big_endian}
use Rattle.mg_frame.proofs.BigEndianLaws.{length-big_endian}
use Rattle.mg_types.specs.declared.documents.Doc.{Doc}
use Rattle.mg_types.specs.declared.keys.Key.{Key}
use Rattle.mg_types.specs.declared.items.Item.{Item}
use Rattle.mg_sealed.specs.Filling.{Fits}
use Rattle.mg_indexed.specs.Forms.{segment_form, IsFrameLength}
use Rattle.mg_records.specs.File.{block_of}
use Rattle.mg_records.specs.Framed.{IsFramed}
use Rattle.mg_records.specs.Record.{IsLawful, IsRecord, record_bytes}
use Rattle.mg_records.specs.Contents.{AreContents, contents}
use Rattle.mg_records.specs.ContentsLaws.{length-contents, length-contents-most, contents_size-some, contents_size-most, one_contents}
use Rattle.mg_records.specs.ItemRecord.{item_kind}

unfoldable pub item_from : ℕ → Key → Option Doc → Item
item_from seq key doc = record { seq = seq; key = key; doc = doc }

pub same_item : (item other : Item) → item.seq ≡ other.seq → item.key ≡ other.key → item.doc ≡ other.doc → item ≡ other
unfolding item_from
same_item item other seq key doc =
    ap (λ (n : ℕ). item_from n item.key item.doc) seq ∙ ap (λ (k : Key). item_from other.seq k item.doc) key ∙ ap (λ (d : Option Doc). item_from other.seq other.key d) doc

one_spelling : (item other : Item) (rest rest' : List ℕ) → AreContents item.key item.doc → AreContents other.key other.doc → item.seq ≡ other.seq
    → contents item.key item.doc ++ rest ≡ contents other.key other.doc ++ rest' → (item ≡ other) × (rest ≡ rest')
one_spelling item other rest rest' fits fits' seq same =
    let parts = one_contents item.key item.doc other.key other.doc rest rest' fits fits' same in
    (same_item item other seq parts.0 parts.1, parts.2)

least_record : (item : Item) → AreContents item.key item.doc → 11 ≤ length (record_bytes item_kind item)
least_record item fits =
    let some = fits.key_fits.0 in
    omega (
      arith,
      length-append (big_endian 8 item.seq) (contents item.key item.doc),
      length-big_endian 8 item.seq,
      length-contents item.key item.doc,
    )

most_record : (item : Item) → AreContents item.key item.doc → length (record_bytes item_kind item) ≤ 1048840
most_record item fits =
    omega (
      arith,
      length-append (big_endian 8 item.seq) (contents item.key item.doc),
      length-big_endian 8 item.seq,
      length-contents-most item.key item.doc fits,
    )

one_alone : (block : List Item) → AllByRecursion (IsRecord item_kind) block → length block ≡ 1 → length (block_of item_kind block) ≤ 1048840
one_alone [] fit one = omega arith
one_alone (item ∷ []) fit one = omega (arith, most_record item fit.0.fits, length-append (record_bytes item_kind item) [])
one_alone (item ∷ (next ∷ block)) fit one = absurd (omega (arith, one))

frames : (block : List Item) → AllByRecursion (IsRecord item_kind) block → Fits (block_of item_kind) block → IsFrameLength segment_form (length (block_of item_kind block) + 20)
frames [] fit fits = absurd (fits.some refl)
frames (item ∷ block) fit fits =
    let least : 11 ≤ length (block_of item_kind (item ∷ block)) =
    omega (arith, least_record item fit.0.fits, length-append (record_bytes item_kind item) (block_of item_kind block)) in
    let most : length (block_of item_kind (item ∷ block)) ≤ 1048840 = elim fits.small [ inl small ↦ omega (arith, small) | inr one ↦ one_alone (item ∷ block) fit one ] in
    (omega (arith, least), omega (arith, most), omega (arith, most))

pub item_framed : IsFramed item_kind segment_form
item_framed = record { unfiltered = refl; frames = λ block fit fits. frames block fit fits }

pub item_lawful : IsLawful item_kind
item_lawful = record {
  some_size = λ item fits. contents_size-some item.key item.doc fits;
  most_size = λ item fits. contents_size-most item.key item.doc fits;
  most_bytes = λ item fits. omega (arith, length-contents-most item.key item.doc fits);
  numbered = λ item number fits. (record { seq = number; key = item.key; doc = item.doc }, refl, fits, refl);
  one_spelling = λ item other rest rest' fits fits' seq same. one_spelling item other rest rest' fits fits' seq same;
}
