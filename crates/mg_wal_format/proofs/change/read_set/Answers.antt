use Rattle.std.proofs.Common.{◌∙◌, refl, sym, ap, subst, ℕ, List, [], ◌++◌, ◌≤◌, length, arith}
use Rattle.std.proofs.lemmas.Bool.{false≢true}
use Rattle.std.proofs.lemmas.List.{append-nil}
use Rattle.mg_frame.specs.BigEndian.{counted}
use Rattle.mg_model.specs.declared.calls.Change.TheVariants.{Set}
use Rattle.mg_types.specs.Bytes.{IsDoc}
use Rattle.mg_wal_format.specs.Records.{IsOfKind}
use Rattle.mg_wal_format.proofs.ReadingLaws.{empty, not_empty, set_read}
use Rattle.mg_wal_format.proofs.SpellingLaws.{only_rest, set_parts}
use Rattle.mg_wal_format.proofs.change.read_set.Goals as goal

pub returns-in_default-split_long-clause-read : goal.returns-in_default-split_long-clause-read
returns-in_default-split_long-clause-read c = (
  tt,
  λ what fits spelled.
      let parts = set_parts what fits in
      let split = rw c.in-Some.is at (c.in_ok-key.ensures.written parts.0 (counted 4 parts.1) parts.2 (spelled ∙ parts.5)).1 in
      let short : length parts.1 ≤ 1048576 = parts.3 in
      absurd (false≢true (c.in_default-split_long.ensures.written parts.1 [] (omega arith) (split.1 ∙ sym (append-nil (counted 4 parts.1)))).0),
)

pub returns-then-not-is_empty-clause-read : goal.returns-then-not-is_empty-clause-read
returns-then-not-is_empty-clause-read c = (
  tt,
  λ what fits spelled.
      let parts = set_parts what fits in
      let split = rw c.in-Some.is at (c.in_ok-key.ensures.written parts.0 (counted 4 parts.1) parts.2 (spelled ∙ parts.5)).1 in
      let short : length parts.1 ≤ 1048576 = parts.3 in
      let behind = (c.in-Some-split_long.ensures.written parts.1 [] (omega arith) (split.1 ∙ sym (append-nil (counted 4 parts.1)))).1 in
      absurd (not_empty c.in-Some-split_long.rest.now c.if-not-is_empty.ensures behind.1),
)

pub returns-clause-read : goal.returns-clause-read
returns-clause-read c =
    let key = rw c.in-Some.is at c.in_ok-key.ensures.split in
    let doc = rw c.in-Some-2.is at c.in_ok-doc.ensures.ok in
    let fits : IsOfKind 1 (Set c.in-Some.key c.in-Some-2.doc) = ((key.0, subst IsDoc (sym doc.1) doc.0), refl) in
    let is = set_read c.args.bytes.now c.in-Some.key c.in-Some.rest.now c.in-Some-split_long.doc.now c.in-Some-split_long.rest.now key.1 c.in-Some-split_long.ensures.split (empty c.in-Some-split_long.rest.now c.if-not-is_empty.ensures)
    ∙ ap (λ (d : List ℕ). counted 1 c.in-Some.key ++ counted 4 d) (sym doc.1) in
    ((fits, is), λ what fits' is'. only_rest c.args.bytes.now 1 (Set c.in-Some.key c.in-Some-2.doc) what fits is fits' is')
