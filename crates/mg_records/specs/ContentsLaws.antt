-- What stands behind the number of a record is read field by field, and has one spelling.
use Rattle.std.proofs.Common.{◌≡◌, ℕ, ◌+◌, ◌<◌, ◌≤◌, ◌^◌, List, [], ◌++◌, length, drop, Option, None, Some, refl, sym, ap, ◌∙◌, arith}
use Rattle.std.proofs.lemmas.List.{append-nil, length-append}
use Rattle.std.specs.Option.{IfSome}
use Rattle.mg_frame.specs.BigEndian.{big_endian, front_number, counted, front_list}
use Rattle.mg_frame.proofs.BigEndianLaws.{length-big_endian}
use Rattle.mg_types.specs.Bytes.{IsDoc}
use Rattle.mg_frame.proofs.SplitLaws.{number_begins, after_number, list_begins, after_list, length-counted}
use Rattle.mg_records.specs.Contents.{kind_of, doc_part, contents, contents_size, AreContents}

kind_of-lt : (doc : Option (List ℕ)) → kind_of doc < 256 ^ 1
kind_of-lt None = omega arith
kind_of-lt (Some doc) = omega arith

pub length-doc_part : (doc : List ℕ) → length (doc_part (Some doc)) ≡ 4 + length doc
length-doc_part doc = length-counted 4 doc

-- the bytes that they take
pub length-contents : (key : List ℕ) (doc : Option (List ℕ)) → length (contents key doc) ≡ 2 + length key + length (doc_part doc)
length-contents key doc =
    omega (
      arith,
      length-append (big_endian 1 (kind_of doc)) (counted 1 key ++ doc_part doc),
      length-append (counted 1 key) (doc_part doc),
      length-counted 1 key,
      length-big_endian 1 (kind_of doc),
    )

pub contents_size-some : (key : List ℕ) (doc : Option (List ℕ)) → AreContents key doc → 1 ≤ contents_size key doc
contents_size-some key doc fits = let some = fits.key_fits.0 in omega arith

pub contents_size-most : (key : List ℕ) (doc : Option (List ℕ)) → AreContents key doc → contents_size key doc ≤ 1048826
contents_size-most key None fits = let short = fits.key_fits.1 in omega arith
contents_size-most key (Some doc) fits = let short = fits.key_fits.1 in let short' : length doc ≤ 1048576 = fits.doc_fits in omega arith

pub length-contents-most : (key : List ℕ) (doc : Option (List ℕ)) → AreContents key doc → length (contents key doc) ≤ 1048832
length-contents-most key None fits = let short = fits.key_fits.1 in omega (arith, length-contents key None)
length-contents-most key (Some doc) fits =
    let short = fits.key_fits.1 in let short' : length doc ≤ 1048576 = fits.doc_fits in omega (arith, length-contents key (Some doc), length-doc_part doc)

-- the kind, the key, and what follows it
pub kind_read : (key : List ℕ) (doc : Option (List ℕ)) (rest bytes : List ℕ) → bytes ≡ contents key doc ++ rest → front_number 1 bytes ≡ Some (kind_of doc)
kind_read key doc rest bytes is = number_begins 1 (kind_of doc) (counted 1 key ++ doc_part doc) rest bytes (kind_of-lt doc) is

pub key_read : (key : List ℕ) (doc : Option (List ℕ)) (rest bytes : List ℕ) → AreContents key doc → bytes ≡ contents key doc ++ rest → front_list 1 (drop 1 bytes) ≡ Some key
key_read key doc rest bytes fits is =
    list_begins 1 key (doc_part doc) rest (drop 1 bytes) (let short = fits.key_fits.1 in omega arith) (after_number 1 (kind_of doc) (counted 1 key ++ doc_part doc) rest bytes is)

pub doc_part_read : (key : List ℕ) (doc : Option (List ℕ)) (rest bytes : List ℕ) → bytes ≡ contents key doc ++ rest → drop (1 + length key) (drop 1 bytes) ≡ doc_part doc ++ rest
doc_part_read key doc rest bytes is =
    after_list 1 key (doc_part doc) rest (drop 1 bytes) (after_number 1 (kind_of doc) (counted 1 key ++ doc_part doc) rest bytes is)

-- a document, and what follows it
doc_bytes : (doc rest bytes : List ℕ) → bytes ≡ counted 4 doc ++ rest → bytes ≡ counted 4 doc ++ [] ++ rest
doc_bytes doc rest bytes is = is ∙ ap (λ (t : List ℕ). t ++ rest) (sym (append-nil (counted 4 doc)))

pub doc_read : (doc rest bytes : List ℕ) → IsDoc doc → bytes ≡ doc_part (Some doc) ++ rest → front_list 4 bytes ≡ Some doc
doc_read doc rest bytes fits is = list_begins 4 doc [] rest bytes (omega arith) (doc_bytes doc rest bytes is)

after_doc : (doc rest bytes : List ℕ) → bytes ≡ doc_part (Some doc) ++ rest → drop (4 + length doc) bytes ≡ rest
after_doc doc rest bytes is = after_list 4 doc [] rest bytes (doc_bytes doc rest bytes is)

doc_parts : (doc other : Option (List ℕ)) (rest rest' : List ℕ) → IfSome doc (λ d. IsDoc d) → IfSome other (λ d. IsDoc d) → kind_of doc ≡ kind_of other
    → doc_part doc ++ rest ≡ doc_part other ++ rest' → (doc ≡ other) × (rest ≡ rest')
doc_parts None None rest rest' fits fits' kind same = (refl, same)
doc_parts None (Some other) rest rest' fits fits' kind same = absurd (omega arith)
doc_parts (Some doc) None rest rest' fits fits' kind same = absurd (omega arith)
doc_parts (Some doc) (Some other) rest rest' fits fits' kind same =
    let bytes = doc_part (Some doc) ++ rest in
    let first : front_list 4 bytes ≡ Some doc = doc_read doc rest bytes fits refl in
    let second : front_list 4 bytes ≡ Some other = doc_read other rest' bytes fits' same in
    let equal : doc ≡ other = cc in
    let after : drop (4 + length doc) bytes ≡ rest = after_doc doc rest bytes refl in
    let after' : drop (4 + length other) bytes ≡ rest' = after_doc other rest' bytes same in
    (ap (λ d. Some d) equal, sym after ∙ ap (λ (d : List ℕ). drop (4 + length d) bytes) equal ∙ after')

-- contents, and what follows them, are spelled in one way
pub one_contents : (key : List ℕ) (doc : Option (List ℕ)) (other : List ℕ) (doc' : Option (List ℕ)) (rest rest' : List ℕ) → AreContents key doc → AreContents other doc'
    → contents key doc ++ rest ≡ contents other doc' ++ rest' → (key ≡ other) × (doc ≡ doc') × (rest ≡ rest')
one_contents key doc other doc' rest rest' fits fits' same =
    let bytes = contents key doc ++ rest in
    let kind : kind_of doc ≡ kind_of doc' = (let one = kind_read key doc rest bytes refl in let two = kind_read other doc' rest' bytes same in cc) in
    let keys : key ≡ other = (let one = key_read key doc rest bytes fits refl in let two = key_read other doc' rest' bytes fits' same in cc) in
    let tails : doc_part doc ++ rest ≡ doc_part doc' ++ rest' =
    sym (doc_part_read key doc rest bytes refl) ∙ ap (λ (k : List ℕ). drop (1 + length k) (drop 1 bytes)) keys ∙ doc_part_read other doc' rest' bytes same in
    let docs = doc_parts doc doc' rest rest' fits.doc_fits fits'.doc_fits kind tails in
    (keys, docs.0, docs.1)
