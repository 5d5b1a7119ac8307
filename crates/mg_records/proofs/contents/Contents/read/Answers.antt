use Rattle.std.proofs.Common.{◌≡◌, length, Some, None, sym, arith}
use Rattle.std.proofs.lemmas.Bool.{eqb-true}
use Rattle.std.specs.Option.{option_copied}
use Rattle.mg_frame.proofs.BigEndianLaws.{AreBytes-from_reads, front_number_fits}
use Rattle.mg_records.proofs.ContentsReading.{contents_spelled, key_within, none_without_kind, none_without_key, none_without_doc}
use Rattle.mg_records.proofs.contents.Contents.read.Goals as goal
use Rattle.mg_records.proofs.contents.Contents.read.Goals.{then-is_empty-via-then-is_empty, then-is_empty-via-else-is_empty+then-key-gt-MAX_LEN}

pub returns-in_err-kind-clause-none : goal.returns-in_err-kind-clause-none
returns-in_err-kind-clause-none c = rw c.from_residual.ensures (none_without_kind c.args.bytes.now c.in_err-kind.ensures)

pub get_short-requires : goal.get_short-requires
get_short-requires c = (front_number_fits 1 c.args.bytes.now c.in_ok-kind.kind (sym c.in_ok-kind.ensures)).0

pub returns-in_err-key-clause-none : goal.returns-in_err-key-clause-none
returns-in_err-key-clause-none c = rw c.from_residual-in_err-key.ensures (none_without_key c.args.bytes.now None c.in_err-key.ensures tt)

pub returns-then-is_empty-clause-none : goal.returns-then-is_empty-clause-none
returns-then-is_empty-clause-none c =
    none_without_key c.args.bytes.now (Some c.in_ok-key.key.now) c.in_ok-key.ensures
    (
    λ fits.
    elim c.then-is_empty.branch [
      | then-is_empty-via-then-is_empty w ↦
          let some = fits.0 in
          let none : length c.in_ok-key.key.now ≡ 0 = eqb-true _ _ (sym w.if-is_empty.ensures) in
          omega arith
      | then-is_empty-via-else-is_empty+then-key-gt-MAX_LEN w ↦
          let most = fits.1 in
          let long = w.if-key-gt-MAX_LEN.true in
          omega arith
    ]
    )

pub read_doc-requires : goal.read_doc-requires
read_doc-requires c =
    let bytes = c.args.bytes.now in
    key_within bytes c.in_ok-key.key.now (AreBytes-from_reads bytes (λ i. (c.type_inv.bytes i).fits)) (front_number_fits 1 bytes c.in_ok-kind.kind (sym c.in_ok-kind.ensures)).0 c.in_ok-key.ensures

pub returns-in_err-doc-clause-none : goal.returns-in_err-doc-clause-none
returns-in_err-doc-clause-none c =
    rw c.from_residual-in_err-doc.ensures (none_without_doc c.args.bytes.now c.in_ok-key.key.now c.in_ok-kind.kind c.in_ok-kind.ensures c.in_ok-key.ensures c.in_err-doc.ensures.none)

pub returns-clause-spelled : goal.returns-clause-spelled
returns-clause-spelled c =
    let bytes = c.args.bytes.now in
    let found = c.in_ok-doc.ensures.spelled in (
      found.0,
      contents_spelled bytes c.in_ok-key.key.now (option_copied c.in_ok-doc.doc) c.in_ok-kind.kind found.0 (AreBytes-from_reads bytes (λ i. (c.type_inv.bytes i).fits))
          c.in_ok-kind.ensures c.in_ok-key.ensures c.in_ok-doc.ensures.kind found.1,
    )
