-- What keys keep as first keys.
use Rattle.std.proofs.Common.{◌≡◌, ℕ, ◌<◌, ◌^◌, List, ◌++◌, length, inr, ap, sym, ◌∙◌, arith, append_assoc}
use Rattle.std.proofs.lemmas.Cmp.{nat_list_cmp_total}
use Rattle.std.proofs.lemmas.List.{length-append}
use Rattle.mg_frame.specs.BigEndian.{big_endian, counted}
use Rattle.mg_frame.proofs.SplitLaws.{length-counted, one_number}
use Rattle.mg_sealed.proofs.ListLaws.{same_parts}
use Rattle.mg_indexed.specs.Keys.{IsLawful}
use Rattle.mg_indexed.specs.TableKeys.{table_keys}

one_spelling : (key other rest rest' : List ℕ) → length key < 2 ^ 8 → length other < 2 ^ 8 → counted 1 key ++ rest ≡ counted 1 other ++ rest' → (key ≡ other) × (rest ≡ rest')
unfolding counted
one_spelling key other rest rest' fits fits' same =
    let regrouped : big_endian 1 (length key) ++ (key ++ rest) ≡ big_endian 1 (length other) ++ (other ++ rest') =
    sym (append_assoc (big_endian 1 (length key)) key rest) ∙ same ∙ append_assoc (big_endian 1 (length other)) other rest' in
    let one = one_number 1 (length key) (length other) (key ++ rest) (other ++ rest') (omega (arith, fits)) (omega (arith, fits')) regrouped in
    same_parts key other rest rest' (omega (arith, ap length one.1, length-append key rest, length-append other rest', one.0)) one.1

pub table_lawful : IsLawful table_keys
table_lawful = record {
  one_spelling = λ key other rest rest' fits fits' same. one_spelling key other rest rest' fits fits' same;
  follows_fits = λ previous key follows. omega (arith, follows.1);
  before_on = λ key other last below above. nat_list_cmp_total.trans key other last below above;
  follows_before = λ previous key follows. follows.0;
  not_refused = λ id at previous key fault follows refused. refused.0 follows;
  refused_there = λ id at previous key fault refused. inr refused.1;
  short = λ key fits. omega (arith, length-counted 1 key, fits);
}
