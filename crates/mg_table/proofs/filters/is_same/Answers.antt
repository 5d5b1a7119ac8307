use Rattle.std.proofs.Common.{rules}
use Rattle.std.specs.Cmp.Lexicographic.{told_text}
use Rattle.mg_frame.proofs.BigEndianLaws.{AreBytes-from_reads}
use Rattle.mg_table.proofs.FilterLaws.{compared}
use Rattle.mg_table.proofs.filters.is_same.Goals as goal

pub returns : goal.returns
returns c = λ hashed is.
    let made = c.args.made.now in
    let body = c.args.body.now in
    compared hashed made body c.eq.result (told_text made body c.eq.result c.eq.ensures) (AreBytes-from_reads made (λ i. search (rules, c.type_inv.made i)))
    (AreBytes-from_reads body (λ i. search (rules, c.type_inv.body i))) is
