-- Numbers that are judged from left to right.
use Rattle.std.proofs.Common.{◌≡◌, ℕ, ◌<◌, ◌≤◌, ◌^◌, List, [], ◌∷◌, ◌++◌, length, ap, arith}
use Rattle.std.proofs.lemmas.List.{length-append}
use Rattle.mg_types.specs.declared.faults.Fault.{Fault}
use Rattle.mg_types.specs.declared.names.FileId.{FileId}
use Rattle.mg_sealed.specs.Numbers.{AreKept, IsTooGreat}

-- one more number that is kept
pub kept_more : (numbers : List ℕ) (number : ℕ) → AreKept numbers → number < 2 ^ 62 → AreKept (numbers ++ number ∷ [])
kept_more [] number kept small = (small, tt)
kept_more (first ∷ numbers) number kept small = (kept.0, kept_more numbers number kept.1 small)

-- a single number that is too great
great-first : (before after : List ℕ) (n number : ℕ) → n ∷ [] ≡ before ++ number ∷ after → 2 ^ 62 ≤ number → 2 ^ 62 ≤ n
great-first [] after n number is great = let same : n ≡ number = cc in omega (arith, same, great)
great-first (x ∷ before) after n number is great = absurd (omega (arith, ap length is, length-append before (number ∷ after)))

pub one_great : (id : FileId) (at n : ℕ) (fault : Fault) → IsTooGreat id at (n ∷ []) fault → 2 ^ 62 ≤ n
one_great id at n fault is = great-first is.before is.after n is.number is.numbers_are is.great

-- numbers that are kept are not too great
kept_not_great : (numbers before after : List ℕ) (number : ℕ) → AreKept numbers → numbers ≡ before ++ number ∷ after → 2 ^ 62 ≤ number → ⊥
kept_not_great [] [] after number kept is great = absurd cc
kept_not_great [] (x ∷ before) after number kept is great = absurd cc
kept_not_great (n ∷ numbers) [] after number kept is great = let same : n ≡ number = cc in omega (arith, kept.0, same, great)
kept_not_great (n ∷ numbers) (x ∷ before) after number kept is great = let rest : numbers ≡ before ++ number ∷ after = cc in kept_not_great numbers before after number kept.1 rest great

pub not_too_great : (id : FileId) (at : ℕ) (numbers : List ℕ) (fault : Fault) → AreKept numbers → IsTooGreat id at numbers fault → ⊥
not_too_great id at numbers fault kept is = kept_not_great numbers is.before is.after is.number kept is.numbers_are is.great
