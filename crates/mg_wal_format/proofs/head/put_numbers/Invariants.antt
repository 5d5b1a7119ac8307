use Rattle.std.proofs.Common.{◌≡◌, ◌++◌, length, take, drop}
use Rattle.mg_wal_format.specs.Heads.{numbers_bytes}
use Rattle.mg_wal_format.proofs.head.put_numbers.Given as goal

-- what was written and what is left are the whole
abbrev pub invariant-loop-number : goal.invariant-loop-number
invariant-loop-number l =
    record {
      told : l.out.items ++ numbers_bytes (drop l.number-index l.numbers) ≡ l.fn.out.items ++ numbers_bytes l.numbers;
      front : take (length l.fn.out.items) l.out.items ≡ l.fn.out.items;
    }
