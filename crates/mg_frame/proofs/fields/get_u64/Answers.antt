use Rattle.std.proofs.Common.{drop, sym, ◌∙◌}
use Rattle.std.proofs.lemmas.List.{take_rest}
use Rattle.mg_frame.proofs.BigEndianLaws.{front_number_none, chunk_read, value_of_8}
use Rattle.mg_frame.proofs.fields.get_u64.Goals as goal

pub returns-in_err-field : goal.returns-in_err-field
returns-in_err-field c = rw c.from_residual.ensures (sym (front_number_none 8 (drop c.args.at c.args.bytes.now) (rw take_rest at c.in_err-field.ensures.cases)))

pub returns : goal.returns
returns c = chunk_read 8 (drop c.args.at c.args.bytes.now) _ _ (rw take_rest at c.in_ok-field.ensures.cases) (λ len. c.from_be_bytes.ensures ∙ value_of_8 _ len)
