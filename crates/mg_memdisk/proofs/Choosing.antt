-- How the bytes behind a log are picked one by one.
use Rattle.std.proofs.Common.{◌≡◌, ◌==◌, ◌<◌, ◌≤◌, ◌+◌, ◌-◌, ℕ, suc, Bool, true, false, List, [], ◌∷◌, ◌++◌, length, drop, refl, sym, ◌∙◌, ap, cond, arith, length-append, append_assoc}
use Rattle.std.specs.Prelude.{Some, None}
use Rattle.mg_memdisk.specs.Crashes.{first, tail_of, after_tail}

one_more : (n : ℕ) (c : List ℕ) (byte : ℕ) (rest : List ℕ) (t : Bool) → (first c == 1) ≡ t → Some byte ≡ cond t (Some (first (drop 1 c))) None → rest ≡ cond t (drop 2 c) (drop 1 c)
    → (tail_of (suc n) c ≡ byte ∷ tail_of n rest) × (after_tail (suc n) c ≡ after_tail n rest)
one_more n c byte rest true is some after =
    let same : first (drop 1 c) ≡ byte = cc in (
      ap (λ (t : Bool). cond t (first (drop 1 c) ∷ tail_of n (drop 2 c)) []) is ∙ ap (λ (b : ℕ). b ∷ tail_of n (drop 2 c)) same ∙ ap (λ (l : List ℕ). byte ∷ tail_of n l) (sym after),
      ap (λ (t : Bool). cond t (after_tail n (drop 2 c)) (drop 1 c)) is ∙ ap (after_tail n) (sym after),
    )
one_more n c byte rest false is some after = absurd (cc)

-- what is left to pick, and what was picked, after one byte more
pub record OneMore (most : ℕ) (bytes more c rest : List ℕ) : Type 0 where
  pub within : length more ≤ most
  pub tail : bytes ++ tail_of (most - length bytes) c ≡ more ++ tail_of (most - length more) rest
  pub after : after_tail (most - length bytes) c ≡ after_tail (most - length more) rest

pub goes_on : (most : ℕ) (bytes more c rest : List ℕ) (byte : ℕ) → length bytes < most → more ≡ bytes ++ byte ∷ [] → Some byte ≡ cond (first c == 1) (Some (first (drop 1 c))) None
    → rest ≡ cond (first c == 1) (drop 2 c) (drop 1 c) → OneMore most bytes more c rest
goes_on most bytes more c rest byte lt is some after =
    let longer : length more ≡ length bytes + 1 = ap (λ (l : List ℕ). length l) is ∙ length-append bytes (byte ∷ []) in
    let n = most - length more in
    let left : most - length bytes ≡ suc n = omega (arith, longer, lt) in
    let one = one_more n c byte rest (first c == 1) refl some after in
    record {
      within = omega (arith, longer, lt);
      tail = ap (λ (k : ℕ). bytes ++ tail_of k c) left ∙ ap (λ (l : List ℕ). bytes ++ l) one.0 ∙ sym (append_assoc bytes (byte ∷ []) (tail_of n rest)) ∙ ap (λ (l : List ℕ). l ++ tail_of n rest) (sym is);
      after = ap (λ (k : ℕ). after_tail k c) left ∙ one.1;
    }
