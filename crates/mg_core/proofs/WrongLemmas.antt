-- Wrong results lead to layouts that stand for no list.
use Rattle.std.proofs.Common.{◌≡◌, ◌≢◌, inl, ℕ, ◌+◌, List, [], ◌∷◌, ◌++◌, false, refl, ap, arith}
use Rattle.std.proofs.lemmas.Bool.{both_ways}
use Rattle.mg_types.specs.declared.items.Dead.{Dead}
use Rattle.mg_types.specs.declared.items.Item.{Item}
use Rattle.mg_model.specs.Mutations.{Mutations}
use Rattle.mg_core.specs.Lists.{Has, occurs, times}
use Rattle.mg_core.specs.Layouts.{Layout, Run, Stands, records_of}
use Rattle.mg_core.specs.Results.{Divides, IsClean, IsMerge, unless_empty, with_clean, with_merge}
use Rattle.mg_core.proofs.ListLemmas.{has_times, occurs_from, times_append, times_none, times_once}
use Rattle.mg_core.proofs.MergeLemmas.{merge_stands}
use Rattle.mg_core.proofs.CleanLemmas.{clean_stands, records_joined, records_unless_empty}
use Rattle.mg_core.proofs.ResultLemmas.{deletes_told}

-- what is there counts
more_deletes : (dead others : List Dead) → dead ≢ [] → ((n : ℕ) → times (λ (d : Dead). d.seq) n (dead ++ others) ≡ times (λ (d : Dead). d.seq) n others) → ⊥
more_deletes [] others some same = some refl
more_deletes (d ∷ dead) others some same =
    omega (arith, same d.seq, times_append (λ (d : Dead). d.seq) d.seq (d ∷ dead) others, has_times (λ (d : Dead). d.seq) d.seq (d ∷ dead) d (inl refl) refl)

pub wrong_merge : (l : Layout) (m other : Mutations) (newer inputs older : List Run) (run : Run) (dead : List Dead) → Stands l m → l.runs ≡ newer ++ (inputs ++ older)
    → IsMerge inputs run dead → dead ≢ [] → Stands (with_merge l newer run older []) other → ⊥
wrong_merge l m other newer inputs older run dead s e f some wrong =
    more_deletes dead l.deletes some (λ n. deletes_told (with_merge l newer run older dead) (with_merge l newer run older []) m other n (merge_stands l m newer inputs older run dead s e f) wrong refl refl)

pub wrong_deletes : (l : Layout) (m other : Mutations) (older inputs newer : List (List Item)) (chosen others rest : List Dead) (segment : List Item) → Stands l m
    → l.segments ≡ older ++ (inputs ++ newer) → Divides l.deletes chosen others → IsClean (records_of inputs) chosen segment rest → rest ≢ []
    → Stands (with_clean l older segment newer [] others) other → ⊥
wrong_deletes l m other older inputs newer chosen others rest segment s e parts f some wrong =
    more_deletes rest others some (λ n. deletes_told (with_clean l older segment newer rest others) (with_clean l older segment newer [] others) m other n
    (clean_stands l m older inputs newer chosen others rest segment s e parts f) wrong refl refl)

-- how often a number occurs among the records of three groups of segments
three_times : (n : ℕ) (xs ys zs : List (List Item)) → times (λ (r : Item). r.seq) n (records_of (xs ++ (ys ++ zs)))
    ≡ times (λ (r : Item). r.seq) n (records_of xs) + (times (λ (r : Item). r.seq) n (records_of ys) + times (λ (r : Item). r.seq) n (records_of zs))
three_times n xs ys zs =
    omega (
      arith,
      ap (times (λ (r : Item). r.seq) n) (records_joined xs (ys ++ zs)),
      times_append (λ (r : Item). r.seq) n (records_of xs) (records_of (ys ++ zs)),
      ap (times (λ (r : Item). r.seq) n) (records_joined ys zs),
      times_append (λ (r : Item). r.seq) n (records_of ys) (records_of zs),
    )

no_times : {X : Type 0} (f : X → ℕ) (xs : List X) (n : ℕ) → occurs f xs n ≡ false → times f n xs ≡ 0
no_times f xs n none = times_none f n xs (λ x h e. both_ways (occurs f xs n) none (occurs_from f xs x n h e))

pub wrong_record : (l : Layout) (m other : Mutations) (older inputs newer : List (List Item)) (chosen others rest : List Dead) (segment : List Item) (r : Item) → Stands l m
    → l.segments ≡ older ++ (inputs ++ newer) → Divides l.deletes chosen others → Has (records_of inputs) r → occurs (λ (d : Dead). d.seq) chosen r.seq ≡ false
    → occurs (λ (r : Item). r.seq) segment r.seq ≡ false → Stands (with_clean l older segment newer rest others) other → ⊥
wrong_record l m other older inputs newer chosen others rest segment r s e parts there unnamed dropped wrong =
    omega (
      arith,
      s.agree.numbers r.seq,
      wrong.agree.numbers r.seq,
      ap (λ (segments : List (List Item)). times (λ (r : Item). r.seq) r.seq (records_of segments)) e,
      three_times r.seq older inputs newer,
      three_times r.seq older (unless_empty segment) newer,
      ap (times (λ (r : Item). r.seq) r.seq) (records_unless_empty segment),
      no_times (λ (r : Item). r.seq) segment r.seq dropped,
      has_times (λ (r : Item). r.seq) r.seq (records_of inputs) r there refl,
      times_once (λ (r : Item). r.seq) r.seq (records_of l.segments) s.agree.rising,
      parts.numbers r.seq,
      times_append (λ (d : Dead). d.seq) r.seq chosen others,
      no_times (λ (d : Dead). d.seq) chosen r.seq unnamed,
      times_append (λ (d : Dead). d.seq) r.seq rest others,
    )
