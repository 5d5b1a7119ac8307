-- What sequence numbers keep as first keys.
use Rattle.std.proofs.Common.{ℕ, ◌^◌, [], ◌∷◌, inl, inr, arith}
use Rattle.mg_frame.proofs.BigEndianLaws.{length-big_endian}
use Rattle.mg_frame.proofs.SplitLaws.{one_number}
use Rattle.mg_types.specs.declared.faults.Fault.{Fault}
use Rattle.mg_types.specs.declared.names.FileId.{FileId}
use Rattle.mg_sealed.specs.Blocks.{IsUnfitAt}
use Rattle.mg_sealed.proofs.NumberLaws.{not_too_great}
use Rattle.mg_indexed.specs.Keys.{IsLawful}
use Rattle.mg_indexed.specs.NumberKeys.{number_keys}

not_refused : (id : FileId) (at previous number : ℕ) (fault : Fault) → number_keys.follows previous number → number_keys.refused id at previous number fault → ⊥
not_refused id at previous number fault follows (inl great) = not_too_great id at (number ∷ []) fault (follows.0, tt) great
not_refused id at previous number fault follows (inr falls) = absurd (omega (arith, follows.1, falls.1))

refused_there : (id : FileId) (at previous number : ℕ) (fault : Fault) → number_keys.refused id at previous number fault → IsUnfitAt id at fault
refused_there id at previous number fault (inl great) = inl (great.number, 2 ^ 62, great.fault_is)
refused_there id at previous number fault (inr falls) = inr falls.2

pub number_lawful : IsLawful number_keys
number_lawful = record {
  one_spelling = λ number other rest rest' fits fits' same. one_number 8 number other rest rest' (omega (arith, fits)) (omega (arith, fits')) same;
  follows_fits = λ previous number follows. omega (arith, follows.0);
  before_on = λ number other last below above. omega (arith, below, above);
  follows_before = λ previous number follows. follows.1;
  not_refused = λ id at previous number fault follows refused. not_refused id at previous number fault follows refused;
  refused_there = λ id at previous number fault refused. refused_there id at previous number fault refused;
  short = λ number fits. omega (arith, length-big_endian 8 number);
}
