use Rattle.std.proofs.Common.{◌∙◌, sym, []}
use Rattle.std.proofs.lemmas.Bool.{false≢true}
use Rattle.std.proofs.lemmas.List.{append-nil}
use Rattle.mg_frame.specs.BigEndian.{big_endian}
use Rattle.mg_wal_format.proofs.ReadingLaws.{not_empty}
use Rattle.mg_wal_format.proofs.change.read_mark.Goals as goal

pub returns-in_err-mark-clause-written : goal.returns-in_err-mark-clause-written
returns-in_err-mark-clause-written c mark fits spelled =
    absurd (false≢true (c.in_err-mark.ensures.written mark [] fits (spelled ∙ sym (append-nil (big_endian 8 mark)))).0)

pub returns-then-not-is_empty-clause-written : goal.returns-then-not-is_empty-clause-written
returns-then-not-is_empty-clause-written c mark fits spelled =
    let split = (c.in_ok-mark.ensures.written mark [] fits (spelled ∙ sym (append-nil (big_endian 8 mark)))).1 in
    absurd (not_empty c.in_ok-mark.rest.now c.if-not-is_empty.ensures split.1)
