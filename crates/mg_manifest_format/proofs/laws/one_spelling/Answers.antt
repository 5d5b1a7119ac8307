use Rattle.mg_manifest_format.proofs.SpellingLaws.{one_manifest}
use Rattle.mg_manifest_format.proofs.laws.one_spelling.Goals as goal

pub returns : goal.returns
returns c = one_manifest
