use Rattle.std.proofs.Common.{◌≡◌, ℕ, ◌<◌, List, ◌++◌, length, drop, ◌+◌, Option, Some, None, sym, ap, ◌∙◌, arith}
use Rattle.std.specs.Option.{IfSome}
use Rattle.mg_frame.specs.BigEndian.{front_list}
use Rattle.mg_frame.proofs.BigEndianLaws.{front_list_spelled, AreBytes-from_reads, AreBytes-drop}
use Rattle.mg_types.specs.Bytes.{IsDoc}
use Rattle.mg_records.specs.Contents.{doc_part, kind_of}
use Rattle.mg_records.specs.ContentsLaws.{doc_read}
use Rattle.mg_records.proofs.contents.read_doc.Goals as goal

-- no document stands there that is read otherwise
no_doc : (bytes : List ℕ) (read : Option (List ℕ)) → read ≡ front_list 4 bytes → IfSome read (λ d. 1048576 < length d)
    → (doc : Option (List ℕ)) (rest : List ℕ) → IfSome doc (λ d. IsDoc d) → 1 ≡ kind_of doc → bytes ≡ doc_part doc ++ rest → ⊥
no_doc bytes read is long None rest fits kind spelled = absurd (omega arith)
no_doc bytes None is long (Some doc) rest fits kind spelled = let found = doc_read doc rest bytes fits spelled in cc
no_doc bytes (Some other) is long (Some doc) rest fits kind spelled =
    let found = doc_read doc rest bytes fits spelled in
    let same : other ≡ doc = cc in
    let len : length other ≡ length doc = ap length same in
    omega arith

pub returns-in_err-doc-in-1-clause-none : goal.returns-in_err-doc-in-1-clause-none
returns-in_err-doc-in-1-clause-none c =
    rw c.from_residual.ensures
    (λ doc rest fits kind spelled. no_doc (drop c.args.at c.args.bytes.now) None c.in_err-doc-in-1.ensures tt doc rest fits (sym c.in-1.is ∙ kind) spelled)

pub returns-then-doc-gt-MAX_LEN-clause-none : goal.returns-then-doc-gt-MAX_LEN-clause-none
returns-then-doc-gt-MAX_LEN-clause-none c =
    λ doc rest fits kind spelled.
    no_doc (drop c.args.at c.args.bytes.now) (Some c.in_ok-doc-in-1.doc.now) c.in_ok-doc-in-1.ensures c.if-doc-gt-MAX_LEN.true doc rest fits (sym c.in-1.is ∙ kind) spelled

pub returns-else-doc-gt-MAX_LEN-clause-spelled : goal.returns-else-doc-gt-MAX_LEN-clause-spelled
returns-else-doc-gt-MAX_LEN-clause-spelled c =
    let bytes = c.args.bytes.now in
    let spelled = front_list_spelled 4 (drop c.args.at bytes) c.in_ok-doc-in-1.doc.now (AreBytes-drop c.args.at bytes (AreBytes-from_reads bytes (λ i. (c.type_inv.bytes i).fits))) (sym c.in_ok-doc-in-1.ensures) in
    (drop (4 + length c.in_ok-doc-in-1.doc.now) (drop c.args.at bytes), spelled.0)
