use Rattle.std.proofs.Common.{sym}
use Rattle.std.proofs.lemmas.List.{nil_from_length}
use Rattle.std.proofs.lemmas.Bool.{eqb-true}
use Rattle.std.proofs.Common.{length}
use Rattle.mg_script.proofs.Spellings.{spelled_all}
use Rattle.mg_script.proofs.tokens.read_spelled.Goals as goal

pub returns : goal.returns
returns c = spelled_all c.loop-rest.bytes.items c.loop-rest.rest.now c.args.text.now c.loop-rest.invariant (nil_from_length c.loop-rest.rest.now (eqb-true (length c.loop-rest.rest.now) 0 (sym c.loop-rest-test.ensures)))
