use Rattle.std.proofs.Common.{◌≡◌, length, take}
use Rattle.mg_recover.specs.Made.{entries_of, AreMade}
use Rattle.mg_recover.specs.Replays.{AreReplayed}
use Rattle.mg_recover.proofs.replay.replay.Given as goal

-- the changes of the records so far are made
abbrev pub invariant-loop-at : goal.invariant-loop-at
invariant-loop-at l =
    record {
      parts : length l.partitions.items ≡ l.parts;
      made : AreMade (entries_of (take l.at l.records));
      states : AreReplayed l.parts (take l.at l.records) l.partitions.items;
    }
