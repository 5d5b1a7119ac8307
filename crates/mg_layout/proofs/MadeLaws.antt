-- Files that a flush, a merge and a cleaning made, in a layout of files.
use Rattle.std.specs.Prelude.{nat_lt}
use Rattle.std.proofs.Common.{◌≡◌, ℕ, ◌<◌, ◌≤◌, List, [], ◌∷◌, ◌++◌, take, length, Option, Some, None, refl, sym, ap, ◌∙◌, subst, arith, inl, inr}
use Rattle.std.specs.List.{AllZip, flat_map}
use Rattle.std.specs.Option.{option_to_list}
use Rattle.std.proofs.lemmas.List.Concat.{flat_map-append}
use Rattle.mg_types.specs.declared.items.Dead.{Dead}
use Rattle.mg_types.specs.declared.items.Item.{Item}
use Rattle.mg_core.proofs.CleanLemmas.{clean_stands}
use Rattle.mg_core.proofs.FlushLemmas.{flush_stands}
use Rattle.mg_core.proofs.ItemLemmas.{live_rises}
use Rattle.mg_core.proofs.ListLemmas.{from_append, has_left, has_right, rises_filter, same_rising, times_append}
use Rattle.mg_core.proofs.MergeLemmas.{merge_stands}
use Rattle.mg_core.specs.Layouts.{Layout, Stands}
use Rattle.mg_core.specs.Lists.{Has, RisesBy, SameMembers, times}
use Rattle.mg_core.specs.Results.{Divides, IsFlushOf, fresh, unless_empty, with_clean, with_flush, with_merge}
use Rattle.mg_model.specs.Mutations.{Mutations, live}
use Rattle.mg_records.specs.DeadRecord.{dead_kind}
use Rattle.mg_records.specs.ItemRecord.{item_kind}
use Rattle.mg_records.specs.Writing.{Filed, Represents}
use Rattle.mg_layout.specs.Files.{LayoutFiles, RunFile}
use Rattle.mg_layout.specs.Holding.{HoldsDeletes, HoldsLayout, HoldsRun, HoldsRuns, HoldsSegments}
use Rattle.mg_layout.specs.Made.{HoldsDead, HoldsRecords, IsCleanMade, IsFlushMade, IsMergeMade, with_cleaned, with_flushed, with_merged}
use Rattle.mg_layout.proofs.ZipLaws.{zip_join, zip_split}

-- the records of a flush of the newest mutations are these
fresh_records : (m : Mutations) (items : List Item) (above upto : ℕ) (records : List Item) → SameMembers items (fresh m above upto) → SameMembers records items
    → RisesBy (λ (r : Item). r.seq) records → records ≡ fresh m above upto
fresh_records m items above upto records newest same rising =
    same_rising (λ (r : Item). r.seq) records (fresh m above upto) rising (rises_filter (λ (r : Item). r.seq) (λ (i : Item). nat_lt above i.seq) (live (take upto m)) (live_rises (take upto m)))
    (λ r h. newest.there r (same.there r h)) (λ r h. same.back r (newest.back r h))

pub flushed_stands : {S : Type 0} (told : S → Option (List ℕ)) (files : LayoutFiles S) (l : Layout) (m : Mutations) (items : List Item) (above upto : ℕ) (file : RunFile S) (segment : Filed S)
    → HoldsLayout told files l → Stands l (take above m) → above < upto → upto ≤ length m → SameMembers items (fresh m above upto) → IsFlushMade told items above upto file segment
    → (new : Layout) × HoldsLayout told (with_flushed files file segment) new × Stands new (take upto m)
flushed_stands {S} told files l m items above upto file segment holds stands some inside newest made =
    let same = fresh_records m items above upto made.records newest made.members made.rising in
    let flushed : IsFlushOf (fresh m above upto) above upto made.run made.records =
    subst (λ (is : List Item). IsFlushOf is above upto made.run made.records) same made.flushed in (
      with_flush l made.run made.records,
      record {
        runs = (made.has_run, holds.runs);
        segments = zip_join (Represents item_kind told) files.segments (segment ∷ []) l.segments (made.records ∷ []) holds.segments (made.has_records, tt);
        deletes = holds.deletes;
      },
      flush_stands l m above upto made.run made.records stands some inside flushed,
    )

-- delete lists before others have their entries before those of the others
dead_before : {S : Type 0} (told : S → Option (List ℕ)) (list : Option (Filed S)) (files : List (Filed S)) (dead deletes : List Dead)
    → HoldsDead told list dead → HoldsDeletes told files deletes → HoldsDeletes told (option_to_list list ++ files) (dead ++ deletes)
dead_before told None files dead deletes none holds = (holds.0, holds.1, ap (λ ds. ds ++ deletes) none ∙ holds.2)
dead_before told (Some list) files dead deletes has holds = (dead ∷ holds.0, (has, holds.1), ap (λ ds. dead ++ ds) holds.2)

pub merged_stands : {S : Type 0} (told : S → Option (List ℕ)) (files : LayoutFiles S) (l : Layout) (m : Mutations) (newer inputs older : List (RunFile S)) (file : RunFile S) (list : Option (Filed S))
    → HoldsLayout told files l → Stands l m → files.runs ≡ newer ++ (inputs ++ older) → IsMergeMade told inputs file list
    → (new : Layout) × HoldsLayout told (with_merged files newer file older list) new × Stands new m
merged_stands {S} told files l m newer inputs older file list holds stands parts made =
    let first = zip_split (HoldsRun told) newer (inputs ++ older) l.runs (subst (λ (runs : List (RunFile S)). HoldsRuns told runs l.runs) parts holds.runs) in
    let second = zip_split (HoldsRun told) inputs older first.1 first.4 in
    let result = made second.0 second.3 in
    let run = result.0 in
    let dead = result.1 in
    let split : l.runs ≡ first.0 ++ (second.0 ++ second.1) = first.2 ∙ ap (λ rs. first.0 ++ rs) second.2 in (
      with_merge l first.0 run second.1 dead,
      record {
        runs = zip_join (HoldsRun told) newer (file ∷ older) first.0 (run ∷ second.1) first.3 (result.2, second.4);
        segments = holds.segments;
        deletes = dead_before told list files.deletes dead l.deletes result.3 holds.deletes;
      },
      merge_stands l m first.0 second.0 second.1 run dead stands split result.4,
    )

-- the segments of a cleaning's result: one, or none where no record is left
kept_segment : {S : Type 0} (told : S → Option (List ℕ)) (segment : Option (Filed S)) (records : List Item) → HoldsRecords told segment records
    → HoldsSegments told (option_to_list segment) (unless_empty records)
kept_segment told None records none = subst (λ (rs : List Item). HoldsSegments told [] (unless_empty rs)) (sym none) tt
kept_segment told (Some file) [] has = absurd (has.0 refl)
kept_segment told (Some file) (r ∷ rs) has = (has.1, tt)

-- the entries of some lists of several are chosen, and those of the others stay
lists_divide : (before chosen after : List (List Dead)) → Divides (flat_map (λ list. list) (before ++ (chosen ++ after))) (flat_map (λ list. list) chosen)
    (flat_map (λ list. list) before ++ flat_map (λ list. list) after)
lists_divide before chosen after =
    let all : List (List Dead) → List Dead = λ lists. flat_map (λ list. list) lists in
    let split : all (before ++ (chosen ++ after)) ≡ all before ++ (all chosen ++ all after) =
    flat_map-append (λ (list : List Dead). list) before (chosen ++ after) ∙ ap (λ ds. all before ++ ds) (flat_map-append (λ (list : List Dead). list) chosen after) in
    record {
      members = λ d h. subst (λ (ds : List Dead). Has ds d) (sym split) (elim (from_append (all chosen) (all before ++ all after) d h) [
        | inl c ↦ has_right (all before) (all chosen ++ all after) d (has_left (all chosen) (all after) d c)
        | inr o ↦ elim (from_append (all before) (all after) d o) [
          | inl b ↦ has_left (all before) (all chosen ++ all after) d b
          | inr a ↦ has_right (all before) (all chosen ++ all after) d (has_right (all chosen) (all after) d a)
        ]
      ]);
      numbers = λ n.
          let count : List Dead → ℕ = λ ds. times (λ (d : Dead). d.seq) n ds in
          omega (
            arith,
            ap count split,
            times_append (λ (d : Dead). d.seq) n (all before) (all chosen ++ all after),
            times_append (λ (d : Dead). d.seq) n (all chosen) (all after),
            times_append (λ (d : Dead). d.seq) n (all chosen) (all before ++ all after),
            times_append (λ (d : Dead). d.seq) n (all before) (all after),
          );
    }

pub cleaned_stands : {S : Type 0} (told : S → Option (List ℕ)) (files : LayoutFiles S) (l : Layout) (m : Mutations) (older inputs newer before lists after : List (Filed S)) (segment rest : Option (Filed S))
    → HoldsLayout told files l → Stands l m → files.segments ≡ older ++ (inputs ++ newer) → files.deletes ≡ before ++ (lists ++ after) → IsCleanMade told inputs lists segment rest
    → (new : Layout) × HoldsLayout told (with_cleaned files older segment newer rest before after) new × Stands new m
cleaned_stands {S} told files l m older inputs newer before lists after segment rest holds stands parts chosen made =
    let items = Represents item_kind told in
    let deads = Represents dead_kind told in
    let all : List (List Dead) → List Dead = λ ds. flat_map (λ list. list) ds in
    let s = zip_split items older (inputs ++ newer) l.segments (subst (λ (fs : List (Filed S)). HoldsSegments told fs l.segments) parts holds.segments) in
    let t = zip_split items inputs newer s.1 s.4 in
    let d = zip_split deads before (lists ++ after) holds.deletes.0 (subst (λ (fs : List (Filed S)). AllZip deads fs holds.deletes.0) chosen holds.deletes.1) in
    let e = zip_split deads lists after d.1 d.4 in
    let result = made t.0 (all e.0) t.3 (e.0, e.3, refl) in
    let others = all d.0 ++ all e.1 in
    let split : l.segments ≡ s.0 ++ (t.0 ++ t.1) = s.2 ∙ ap (λ ss. s.0 ++ ss) t.2 in
    let divides : Divides l.deletes (all e.0) others =
    subst (λ (ds : List Dead). Divides ds (all e.0) others) (sym (holds.deletes.2 ∙ ap all (d.2 ∙ ap (λ q. d.0 ++ q) e.2))) (lists_divide d.0 e.0 e.1) in (
      with_clean l s.0 result.0 t.1 result.1 others,
      record {
        runs = holds.runs;
        segments = zip_join items older (option_to_list segment ++ newer) s.0 (unless_empty result.0 ++ t.1) s.3
            (zip_join items (option_to_list segment) newer (unless_empty result.0) t.1 (kept_segment told segment result.0 result.2) t.4);
        deletes = dead_before told rest (before ++ after) result.1 others result.3 (d.0 ++ e.1, zip_join deads before after d.0 e.1 d.3 e.4, sym (flat_map-append (λ (list : List Dead). list) d.0 e.1));
      },
      clean_stands l m s.0 t.0 t.1 (all e.0) others result.1 result.0 stands split divides result.4,
    )
