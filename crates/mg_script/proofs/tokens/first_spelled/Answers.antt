use Rattle.std.proofs.Common.{◌≤◌, ◌≢◌, length, get_or, arith}
use Rattle.mg_script.proofs.Spellings.{begins_escaped, begins_badly, begins_plain, begins_with_none}
use Rattle.mg_script.proofs.tokens.first_spelled.Goals as goal
use Rattle.mg_script.proofs.tokens.first_spelled.Goals.{else-text-ge3-via-then-text-ge3+else-text-eq37, else-text-ge3-via-else-text-ge3}

pub returns-in_err-byte : goal.returns-in_err-byte
returns-in_err-byte c = begins_badly c.args.text.now c.from_residual.result c.from_residual.ensures c.if-text-ge3.true c.if-text-eq37.true c.in_err-byte.ensures

pub returns-then-text-eq37 : goal.returns-then-text-eq37
returns-then-text-eq37 c = begins_escaped c.args.text.now c.in_ok-byte.byte c.if-text-ge3.true c.if-text-eq37.true c.in_ok-byte.ensures

pub returns-then-is_plain_byte : goal.returns-then-is_plain_byte
returns-then-is_plain_byte c =
    let no_escape : 3 ≤ length c.args.text.now → get_or c.args.text.now 0 0 ≢ 37 = λ l e. elim c.else-text-ge3.branch [
      | else-text-ge3-via-then-text-ge3+else-text-eq37 w ↦ w.if-text-eq37.false e
      | else-text-ge3-via-else-text-ge3 w ↦ omega (arith, w.if-text-ge3.false)
    ] in
    begins_plain c.args.text.now c.requires no_escape c.if-is_plain_byte.ensures

pub returns-else-is_plain_byte : goal.returns-else-is_plain_byte
returns-else-is_plain_byte c =
    let no_escape : 3 ≤ length c.args.text.now → get_or c.args.text.now 0 0 ≢ 37 = λ l e. elim c.else-text-ge3.branch [
      | else-text-ge3-via-then-text-ge3+else-text-eq37 w ↦ w.if-text-eq37.false e
      | else-text-ge3-via-else-text-ge3 w ↦ omega (arith, w.if-text-ge3.false)
    ] in
    begins_with_none c.args.text.now c.requires no_escape c.if-is_plain_byte.ensures
