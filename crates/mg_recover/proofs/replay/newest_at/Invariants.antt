use Rattle.std.proofs.Common.{take, MatchOption}
use Rattle.mg_recover.specs.Replays.{BeginLater, IsNewestAt}
use Rattle.mg_recover.proofs.replay.newest_at.Given as goal

-- of the logs so far
abbrev pub invariant-loop-log : goal.invariant-loop-log
invariant-loop-log l = MatchOption l.newest (BeginLater l.number (take l.log-index l.logs)) (λ log. IsNewestAt (take l.log-index l.logs) l.number log.now)
