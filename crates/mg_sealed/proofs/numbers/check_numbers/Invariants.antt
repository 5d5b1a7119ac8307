use Rattle.std.proofs.Common.{take}
use Rattle.mg_sealed.specs.Numbers.{AreKept}
use Rattle.mg_sealed.proofs.numbers.check_numbers.Given as goal

-- the numbers so far are kept
abbrev pub invariant-loop-number : goal.invariant-loop-number
invariant-loop-number l = AreKept (take l.number-index l.numbers)
