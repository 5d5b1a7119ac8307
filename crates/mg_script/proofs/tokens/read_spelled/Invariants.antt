use Rattle.std.proofs.Common.{◌≡◌, ◌++◌, length}
use Rattle.std.specs.Option.{option_map}
use Rattle.mg_script.specs.Tokens.{bytes_spelled}
use Rattle.mg_script.proofs.tokens.read_spelled.Given as goal

abbrev pub invariant-loop-rest : goal.invariant-loop-rest
invariant-loop-rest l = option_map (λ more. l.bytes.items ++ more) (bytes_spelled l.rest) ≡ bytes_spelled l.text

abbrev pub decreases-loop-rest : goal.decreases-loop-rest
decreases-loop-rest l = length l.rest
