use Rattle.std.proofs.Common.{arith}
use Rattle.std.specs.Option.{option_copied}
use Rattle.mg_records.specs.ContentsLaws.{length-contents}
use Rattle.mg_records.proofs.contents.Contents.spelled_len.Goals as goal

pub returns-clause-exact : goal.returns-clause-exact
returns-clause-exact c = omega (arith, length-contents c.args.self.now.key.now (option_copied c.args.self.now.doc), c.doc_part_len.ensures.exact)
