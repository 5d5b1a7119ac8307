use Rattle.std.proofs.Common.{◌≡◌, ◌+◌, ◌-◌, ap, subst, arith, ℕ}
use Rattle.mg_indexed.specs.Index.{BeginUpTo}
use Rattle.mg_indexed.specs.NumberKeys.{number_keys}
use Rattle.mg_records.specs.Writing.{Filed}
use Rattle.mg_records.proofs.HandleLaws.{some_begin}
use Rattle.mg_records.proofs.file.RecordFile.block_of.Goals as goal

pub overflow_sub-result : goal.overflow_sub-result
overflow_sub-result g c =
    some_begin g.R.BlockItem.form c.self.inside.indexed.footer c.self.inside.indexed.index c.args.number c.blocks_up_to.result c.self.invariant
    (omega (arith, c.requires, ap (λ (f : Filed g.row.S.Denot). f.footer.low) c.self.view_is)) c.blocks_up_to.ensures.point

pub returns-clause-point : goal.returns-clause-point
returns-clause-point g c =
    let some = overflow_sub-result g c in
    let count : c.blocks_up_to.result ≡ c.blocks_up_to.result - 1 + 1 = omega (arith, some) in
    subst (λ (n : ℕ). BeginUpTo number_keys c.args.self.now.index c.args.number n) count
    (subst (λ (f : Filed g.row.S.Denot). BeginUpTo number_keys f.index c.args.number c.blocks_up_to.result) c.self.view_is c.blocks_up_to.ensures.point)
