use Rattle.std.proofs.Common.{◌≡◌, ◌⊎◌, length, subst, IfErr, IfOk, IfSome}
use Rattle.mg_frame.specs.Frame.{StandsAt}
use Rattle.mg_sealed.specs.Answers.{Answers, IsOutside}
use Rattle.mg_sealed.specs.Blocks.{IsUnfitAt}
use Rattle.mg_sealed.specs.declared.reading.SealedFile.{SealedFile}
use Rattle.mg_table.specs.Reading.{read_at}
use Rattle.mg_table.proofs.table.Table.read_block.Goals as goal

pub returns-clause-told : goal.returns-clause-told
returns-clause-told g c =
    let handle = c.args.handle.now in
    subst (λ (f : SealedFile g.row.S.Denot). IfSome (g.F.Files.told f.file) (λ bytes. f.len ≡ length bytes → Answers (read_at f.id bytes handle c.args.number) c.block.result)) c.file.ensures
    c.block.ensures.told

pub returns-clause-stands : goal.returns-clause-stands
returns-clause-stands g c =
    let handle = c.args.handle.now in
    subst (λ (f : SealedFile g.row.S.Denot). IfSome (g.F.Files.told f.file) (λ bytes. f.len ≡ length bytes → IfOk c.block.result (λ body. StandsAt bytes handle.at (c.args.number, body)))) c.file.ensures
    c.block.ensures.stands

pub returns-clause-refusals : goal.returns-clause-refusals
returns-clause-refusals g c =
    subst (λ (f : SealedFile g.row.S.Denot). IfErr c.block.result (λ fault. IsOutside fault ⊎ IsUnfitAt f.id c.args.handle.now.at fault)) c.file.ensures c.block.ensures.refusals
