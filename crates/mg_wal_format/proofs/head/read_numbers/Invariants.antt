use Rattle.std.proofs.Common.{◌≡◌, ◌+◌, ◌*◌, ◌++◌, length}
use Rattle.mg_wal_format.specs.Heads.{numbers_bytes, AreNumbers}
use Rattle.mg_wal_format.proofs.head.read_numbers.Given as goal

-- the numbers so far and what is left are the whole
abbrev pub invariant-loop : goal.invariant-loop
invariant-loop l =
    record {
      spelled : numbers_bytes l.numbers.items ++ l.rest ≡ l.bytes;
      fits : AreNumbers l.numbers.items;
      left : length l.rest + 8 * l.counter ≡ 8 * l.count;
    }
