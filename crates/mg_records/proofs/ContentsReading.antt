-- What bytes begin with, by the fields that are read of them.
use Rattle.std.proofs.Common.{◌≡◌, ℕ, ◌+◌, ◌≤◌, List, ◌++◌, length, drop, Option, Some, None, sym, ap, ◌∙◌, arith}
use Rattle.std.proofs.lemmas.List.{append_assoc, drop-drop, length-append, length-drop}
use Rattle.std.specs.Option.{IfSome}
use Rattle.mg_frame.specs.BigEndian.{big_endian, front_number, counted, front_list, AreBytes}
use Rattle.mg_frame.proofs.BigEndianLaws.{front_number_spelled, front_list_spelled, AreBytes-drop}
use Rattle.mg_types.specs.Bytes.{IsKey, IsDoc}
use Rattle.mg_records.specs.Contents.{kind_of, doc_part, contents, AreContents}
use Rattle.mg_records.specs.ContentsLaws.{kind_read, key_read, doc_part_read}
use Rattle.mg_frame.proofs.SplitLaws.{length-counted}

-- the bytes begin with no key and document
abbrev pub NoContents : List ℕ → Type 0
NoContents bytes = (key : List ℕ) (doc : Option (List ℕ)) (rest : List ℕ) → AreContents key doc → bytes ≡ contents key doc ++ rest → ⊥

-- the offset behind a key
behind : (bytes : List ℕ) (n : ℕ) → drop (1 + n) (drop 1 bytes) ≡ drop (2 + n) bytes
behind bytes n =
    let more : 1 + (1 + n) ≡ 2 + n = omega arith in
    drop-drop (1 + n) 1 bytes ∙ ap (λ (k : ℕ). drop k bytes) more

pub contents_spelled : (bytes key : List ℕ) (doc : Option (List ℕ)) (kind : ℕ) (rest : List ℕ) → AreBytes bytes → Some kind ≡ front_number 1 bytes → Some key ≡ front_list 1 (drop 1 bytes)
    → kind ≡ kind_of doc → drop (2 + length key) bytes ≡ doc_part doc ++ rest → bytes ≡ contents key doc ++ rest
contents_spelled bytes key doc kind rest small number listed is spelled =
    let first : bytes ≡ big_endian 1 kind ++ drop 1 bytes = (front_number_spelled 1 bytes kind small (sym number)).0 in
    let second : drop 1 bytes ≡ counted 1 key ++ drop (1 + length key) (drop 1 bytes) = (front_list_spelled 1 (drop 1 bytes) key (AreBytes-drop 1 bytes small) (sym listed)).0 in
    let third : drop (1 + length key) (drop 1 bytes) ≡ doc_part doc ++ rest = behind bytes (length key) ∙ spelled in
    first
    ∙ ap (λ (t : List ℕ). big_endian 1 kind ++ t) (second ∙ ap (λ (t : List ℕ). counted 1 key ++ t) third ∙ sym (append_assoc (counted 1 key) (doc_part doc) rest))
    ∙ sym (append_assoc (big_endian 1 kind) (counted 1 key ++ doc_part doc) rest)
    ∙ ap (λ (n : ℕ). big_endian 1 n ++ (counted 1 key ++ doc_part doc) ++ rest) is

pub key_within : (bytes key : List ℕ) → AreBytes bytes → 1 ≤ length bytes → Some key ≡ front_list 1 (drop 1 bytes) → 2 + length key ≤ length bytes
key_within bytes key small some listed =
    let spelled = (front_list_spelled 1 (drop 1 bytes) key (AreBytes-drop 1 bytes small) (sym listed)).0 in
    let len : length (drop 1 bytes) ≡ length (counted 1 key ++ drop (1 + length key) (drop 1 bytes)) = ap length spelled in
    omega (arith, length-append (counted 1 key) (drop (1 + length key) (drop 1 bytes)), length-counted 1 key, length-drop 1 bytes)

pub none_without_kind : (bytes : List ℕ) → None ≡ front_number 1 bytes → NoContents bytes
none_without_kind bytes none key doc rest fits is = let read = kind_read key doc rest bytes is in cc

pub none_without_key : (bytes : List ℕ) (read : Option (List ℕ)) → read ≡ front_list 1 (drop 1 bytes) → IfSome read (λ key. IsKey key → ⊥) → NoContents bytes
none_without_key bytes None is none key doc rest fits spelled = let found = key_read key doc rest bytes fits spelled in cc
none_without_key bytes (Some other) is none key doc rest fits spelled =
    let found = key_read key doc rest bytes fits spelled in
    let same : other ≡ key = cc in
    none (let equal : length other ≡ length key = ap length same in let low = fits.key_fits.0 in let high = fits.key_fits.1 in (omega arith, omega arith))

pub none_without_doc : (bytes key : List ℕ) (kind : ℕ) → Some kind ≡ front_number 1 bytes → Some key ≡ front_list 1 (drop 1 bytes)
    → ((doc : Option (List ℕ)) (rest : List ℕ) → IfSome doc (λ d. IsDoc d) → kind ≡ kind_of doc → drop (2 + length key) bytes ≡ doc_part doc ++ rest → ⊥) → NoContents bytes
none_without_doc bytes key kind number listed none other doc rest fits spelled =
    let kind_found = kind_read other doc rest bytes spelled in
    let key_found = key_read other doc rest bytes fits spelled in
    let same_kind : kind ≡ kind_of doc = cc in
    let same_key : key ≡ other = cc in
    none doc rest fits.doc_fits same_kind
    (sym (behind bytes (length key)) ∙ ap (λ (k : List ℕ). drop (1 + length k) (drop 1 bytes)) same_key ∙ doc_part_read other doc rest bytes spelled)
