use Rattle.std.proofs.Common.{sym}
use Rattle.mg_script.proofs.Numbers.{number_by_value, number_else}
use Rattle.mg_script.proofs.tokens.read_number.Goals as goal

pub returns-then-is_decimal_text : goal.returns-then-is_decimal_text
returns-then-is_decimal_text c = number_by_value c.args.text.now c.decimal_value.result c.if-is_decimal_text.ensures c.decimal_value.ensures

pub returns-else-is_decimal_text : goal.returns-else-is_decimal_text
returns-else-is_decimal_text c = sym (number_else c.args.text.now (sym c.if-is_decimal_text.ensures))
