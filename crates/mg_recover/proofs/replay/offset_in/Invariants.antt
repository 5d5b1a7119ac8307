use Rattle.std.proofs.Common.{◌≡◌, ◌-◌, ◌^◌, min, take}
use Rattle.mg_recover.specs.Replays.{offset_in}
use Rattle.mg_recover.proofs.replay.offset_in.Given as goal

-- behind the records so far
abbrev pub invariant-loop-rec : goal.invariant-loop-rec
invariant-loop-rec l = l.at ≡ min (offset_in l.log (take l.rec-index l.records)) (2 ^ 64 - 1)
