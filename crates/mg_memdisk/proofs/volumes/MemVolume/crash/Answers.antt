use Rattle.std.proofs.lemmas.List.Elements.{All-from_get_or}
use Rattle.std.proofs.Common.{◌<◌, ◌^◌}
use Rattle.mg_memdisk.proofs.Picking.{picked_is_left, each_has_choice}
use Rattle.mg_memdisk.specs.Volumes.{mem_found, mem_recent}
use Rattle.mg_memdisk.proofs.volumes.MemVolume.crash.Goals as goal

pub returns-clause-each : goal.returns-clause-each
returns-clause-each c image left = each_has_choice (mem_found c.args.self.now) (mem_recent c.args.self.now) image left

pub returns-in_err-left-clause-each : goal.returns-in_err-left-clause-each
returns-in_err-left-clause-each c image left = each_has_choice (mem_found c.args.self.now) (mem_recent c.args.self.now) image left

pub returns-clause-left : goal.returns-clause-left
returns-clause-left c =
    picked_is_left (mem_found c.args.self.now) (mem_recent c.args.self.now) c.args.choice.now c.args.self.now.logs_open (All-from_get_or (λ byte. byte < 2 ^ 8) c.args.choice.now 0 (λ i lt. (c.type_inv.choice i).fits))

pub returns-in_err-left-clause-left : goal.returns-in_err-left-clause-left
returns-in_err-left-clause-left c =
    picked_is_left (mem_found c.args.self.now) (mem_recent c.args.self.now) c.args.choice.now c.args.self.now.logs_open (All-from_get_or (λ byte. byte < 2 ^ 8) c.args.choice.now 0 (λ i lt. (c.type_inv.choice i).fits))
