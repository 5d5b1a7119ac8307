-- Names are the same where the test says so.
use Rattle.std.proofs.Common.{◌≡◌, ◌≢◌, Bool, true, false, refl, arith, ap, ◌∙◌}
use Rattle.std.proofs.lemmas.Bool.Decides.{nat_tests}
use Rattle.mg_types.proofs.KindLaws.{kind_of_code}
use Rattle.mg_types.specs.declared.names.Name.{Name}
use Rattle.mg_memdisk.specs.Events.{same_name}

pub same_is : (a b : Name) → same_name a b ≡ true → a ≡ b
same_is a b e =
    let kind : a.kind ≡ b.kind = kind_of_code _ _ (grind (arith, nat_tests)) in
    let number : a.number ≡ b.number = grind (arith, nat_tests) in
    λ i. record { kind = kind i; number = number i }

pub same_self : (a : Name) → same_name a a ≡ true
same_self a = grind (arith, nat_tests)

pub other_name : (a b : Name) → a ≢ b → same_name a b ≡ false
other_name a b other = by_case (same_name a b) refl
  where
    by_case : (t : Bool) → same_name a b ≡ t → same_name a b ≡ false
    by_case true e = absurd (other (same_is a b e))
    by_case false e = e

pub differs : (a b : Name) → same_name a b ≡ false → a ≢ b
differs a b not_same same = apart (ap (λ (n : Name). same_name n b) same ∙ same_self b)
  where
    apart : same_name a b ≡ true → ⊥
    apart is = cc
