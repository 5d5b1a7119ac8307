-- What is told of an adapted reader or writer.
use Rattle.std.specs.Prelude.{ℕ, List, Option}

-- the bytes that are left, or were written, where they are told, and how many calls failed
pub record ToldBytes : Type 0 where
  pub bytes : Option (List ℕ)
  pub faults : ℕ
