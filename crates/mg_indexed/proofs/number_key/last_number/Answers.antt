use Rattle.mg_indexed.proofs.FieldLaws.{last_is}
use Rattle.mg_indexed.proofs.number_key.last_number.Goals as goal

pub returns-in-Some : goal.returns-in-Some
returns-in-Some c = last_is 0 c.args.handles.now c.in-Some.handle.now c.in-Some.ensures.value
