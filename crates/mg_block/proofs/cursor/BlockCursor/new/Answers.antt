use Rattle.std.proofs.Common.{List, ℕ, [], subst, sym}
use Rattle.mg_block.specs.Cursor.{StandsBehind, read_of}
use Rattle.mg_block.proofs.Views.{StandsBehind-none, read_of-none}
use Rattle.mg_block.proofs.cursor.BlockCursor.new.Goals as goal

pub invariant_of-result : goal.invariant_of-result
invariant_of-result c =
    let block = c.args.block.now in
    subst (λ (key : List ℕ). StandsBehind block (read_of block block) block key []) (sym c.new.ensures) (StandsBehind-none block)

pub returns-clause-read : goal.returns-clause-read
returns-clause-read c = read_of-none c.args.block.now
