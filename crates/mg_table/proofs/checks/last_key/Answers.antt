use Rattle.std.proofs.Common.{◌∙◌}
use Rattle.mg_table.proofs.ScanningLaws.{last-key-at}
use Rattle.mg_table.proofs.checks.last_key.Goals as goal

pub returns-in-Some : goal.returns-in-Some
returns-in-Some c = c.bytes.ensures.bytes ∙ last-key-at c.args.entries.now c.in-Some.entry.now c.in-Some.ensures.value
