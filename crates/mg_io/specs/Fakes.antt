-- What the sources and sinks in memory hold, and what a read of one answers.
use Rattle.std.specs.Prelude.{ℕ, List, length, min, Result, Ok, Err, if◌then◌else◌}
use Rattle.mg_faults.specs.Calls.{CallCounts, next_fails}
use Rattle.mg_io.specs.declared.errors.IoError.{IoError}
use Rattle.mg_io.specs.declared.errors.IoError.TheVariants.{Failed}

-- a source in memory: the bytes that are left, the most that one read gives, and the counts of its calls
pub record SourceState : Type 0 where
  pub left : List ℕ
  pub step : ℕ
  pub calls : CallCounts

-- a sink in memory: the bytes written, and the counts of its calls
pub record SinkState : Type 0 where
  pub written : List ℕ
  pub calls : CallCounts

-- what the next read of a source answers, with room for so many bytes
abbrev pub read_answer : SourceState → ℕ → Result ℕ IoError
read_answer s room = if next_fails s.calls then Err Failed else Ok (min (min (length s.left) s.step) room)
