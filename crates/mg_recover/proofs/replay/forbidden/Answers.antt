use Rattle.mg_types.specs.declared.faults.Fault.TheVariants as fault
use Rattle.mg_types.specs.declared.names.FileId.{FileId}
use Rattle.mg_wal_format.specs.Recovery.{log_file}
use Rattle.std.proofs.Common.{ap}
use Rattle.mg_recover.proofs.PlaceLaws.{placed_at, some_log}
use Rattle.mg_recover.proofs.replay.forbidden.Goals as goal

pub returns-in-Some-clause-placed : goal.returns-in-Some-clause-placed
returns-in-Some-clause-placed c parts found behind given = (
  log_file c.in-Some.log.now.number,
  c.offset_in.result,
  placed_at parts found c.args.logs.now c.in-Some.log.now c.args.before.now c.args.rec.now behind c.offset_in.result given.are given.heads given.gives c.in-Some.ensures c.offset_in.ensures,
  ap (λ (f : FileId). fault.Malformed f c.offset_in.result) c.log_file.ensures,
)

pub returns-in-None-clause-placed : goal.returns-in-None-clause-placed
returns-in-None-clause-placed c parts found behind given =
    absurd (some_log parts found c.args.logs.now c.args.before.now c.args.rec.now behind given.are given.gives c.in-None.ensures)
