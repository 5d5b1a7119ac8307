use Rattle.std.proofs.Common.{◌∙◌, Bool, Ok, ap, sym}
use Rattle.std.specs.Cmp.Lexicographic.{told_text}
use Rattle.mg_table.specs.Reading.{BeginsWithKey}
use Rattle.mg_table.proofs.FrontLaws.{compared-key, end-begins, read-begins, refused-begins}
use Rattle.mg_table.proofs.reading.begins_with.Goals as goal

-- the block ends before a pair
pub returns-in_default : goal.returns-in_default
returns-in_default c =
    let none = end-begins c.args.block.now c.args.key.now c.new-cursor.result c.advance.new.self _ c.new-cursor.ensures.bytes c.new-cursor.ensures.read
    c.in_default.field-0-test c.in_default.ensures.ok in
    (λ never. absurd cc, λ begins. absurd (none begins))

-- the block breaks before a pair
pub returns-in_default-2 : goal.returns-in_default-2
returns-in_default-2 c =
    let none = refused-begins c.args.block.now c.args.key.now c.new-cursor.result c.advance.new.self c.advance.result _ c.new-cursor.ensures.bytes c.new-cursor.ensures.read
    c.in_default.is c.advance.ensures.err in
    (λ never. absurd cc, λ begins. absurd (none begins))

pub returns : goal.returns
returns c =
    let first = read-begins c.args.block.now c.args.key.now c.new-cursor.result c.advance.new.self c.advance.result c.new-cursor.ensures.bytes c.new-cursor.ensures.read
    (c.in-Ok-true.is ∙ ap (λ (b : Bool). Ok b) c.in-Ok-true.field-0-test) c.advance.ensures.ok in
    compared-key c.eq.result c.key.result.now c.args.key.now (BeginsWithKey c.args.block.now c.args.key.now)
    (told_text c.key.result.now c.args.key.now c.eq.result c.eq.ensures)
    (λ same. first.0 (sym c.key.ensures ∙ same), λ begins. c.key.ensures ∙ first.1 begins)
