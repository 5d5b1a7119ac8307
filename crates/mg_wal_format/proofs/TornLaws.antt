-- A log of which a crash left a front.
use Rattle.std.proofs.Common.{◌≡◌, ℕ, zero, suc, ◌+◌, ◌<◌, ◌≤◌, ◌^◌, ◌⊎◌, inl, inr, List, [], ◌∷◌, ◌++◌, length, map, take, refl, sym, ap, subst, ◌∙◌, arith, append_assoc}
use Rattle.std.specs.List.{All, AllByRecursion}
use Rattle.std.proofs.lemmas.List.Elements.{All-from_recursion}
use Rattle.std.proofs.lemmas.List.{length-map}
use Rattle.mg_frame.specs.Frame.{frame, IsEntry, NoFrame}
use Rattle.mg_frame.specs.Frames.{frames, ReadsFirst}
use Rattle.mg_frame.proofs.FramesLaws.{NoneOfAny, TornLog}
use Rattle.mg_model.specs.declared.calls.Change.{Change}
use Rattle.mg_model.specs.declared.calls.Change.TheVariants.{Set, Del, Mark, Forget, Back, Clear}
use Rattle.mg_wal_format.specs.declared.head.Head.{Head}
use Rattle.mg_wal_format.specs.declared.record.Rec.{Rec}
use Rattle.mg_wal_format.specs.Heads.{head_bytes, IsHead}
use Rattle.mg_wal_format.specs.Logs.{entry_of, one_more, InOrder, Log}
use Rattle.mg_wal_format.specs.Records.{change_bytes, record_bytes, Counts, IsChange, IsNext}
use Rattle.mg_wal_format.specs.Recovery.{log_bytes, found_of}
use Rattle.mg_wal_format.specs.Torn.{plan_entries, EndsAt, Plan, TornWalLaw}
use Rattle.mg_wal_format.proofs.SpellingLaws.{length-set, length-delete, length-of_mark, length-bare, length-record_body, length-head_bytes}

change_fits : (what : Change) → IsChange what → length (change_bytes what) ≤ 1048832
change_fits (Set key doc) fits = let short = fits.0.1 in let short' : length doc ≤ 1048576 = fits.1 in omega (arith, length-set key doc)
change_fits (Del key) fits = let short = fits.1 in omega (arith, length-delete key)
change_fits Mark fits = omega (arith, length-bare Mark refl)
change_fits (Forget mark) fits = omega (arith, length-of_mark (Forget mark) mark refl)
change_fits (Back mark) fits = omega (arith, length-of_mark (Back mark) mark refl)
change_fits Clear fits = omega (arith, length-bare Clear refl)

pub body_fits : (parts : ℕ) (counts : Counts) (rec : Rec) → IsNext parts counts rec → length (record_bytes rec) < 2 ^ 32
body_fits parts counts rec next = omega (arith, change_fits rec.what next.fits.what, length-record_body rec.part rec.change rec.what)

pub entry_fits : (parts : ℕ) (counts : Counts) (rec : Rec) → rec.number < 2 ^ 62 → IsNext parts counts rec → IsEntry (entry_of rec)
unfolding entry_of
entry_fits parts counts rec kept next = record { number_fits = omega (arith, kept); body_fits = body_fits parts counts rec next }

entries_fit : (parts : ℕ) (counts : Counts) (number : ℕ) (recs : List Rec) → InOrder parts counts number recs → AllByRecursion IsEntry (map entry_of recs)
entries_fit parts counts number [] ordered = tt
entries_fit parts counts number (rec ∷ recs) ordered =
    (entry_fits parts counts rec (omega (arith, ordered.0, ordered.1)) ordered.2, entries_fit parts (one_more counts rec.part) (number + 1) recs ordered.3)

head_fits : (number : ℕ) (head : Head) → number < 2 ^ 62 → IsHead head → IsEntry (number, head_bytes head)
head_fits number head kept fits = record { number_fits = omega (arith, kept); body_fits = let most = fits.parts in omega (arith, length-head_bytes head) }

pub InOrder-take : (parts : ℕ) (counts : Counts) (number : ℕ) (recs : List Rec) (count : ℕ) → InOrder parts counts number recs → InOrder parts counts number (take count recs)
InOrder-take parts counts number recs zero ordered = tt
InOrder-take parts counts number [] (suc count) ordered = tt
InOrder-take parts counts number (rec ∷ recs) (suc count) ordered =
    (ordered.0, ordered.1, ordered.2, InOrder-take parts (one_more counts rec.part) (number + 1) recs count ordered.3)

-- the number behind records that are in order fits a frame
pub InOrder-number : (parts : ℕ) (counts : Counts) (number : ℕ) (recs : List Rec) → number < 2 ^ 62 → InOrder parts counts number recs → number + length recs ≤ 2 ^ 62
InOrder-number parts counts number [] kept ordered = omega (arith, kept)
InOrder-number parts counts number (rec ∷ []) kept ordered = omega (arith, kept)
InOrder-number parts counts number (rec ∷ next ∷ recs) kept ordered = omega (arith, InOrder-number parts (one_more counts rec.part) (number + 1) (next ∷ recs) ordered.3.1 ordered.3)

take_map : (recs : List Rec) (count : ℕ) → take count (map entry_of recs) ≡ map entry_of (take count recs)
take_map recs zero = refl
take_map [] (suc count) = refl
take_map (rec ∷ recs) (suc count) = ap (λ (l : List (ℕ × List ℕ)). entry_of rec ∷ l) (take_map recs count)

torn_of : (parts : ℕ) (counts : Counts) (plan : Plan) (image : List ℕ) (least count : ℕ)
    → plan.number < 2 ^ 62 → plan.head.first < 2 ^ 62 → InOrder parts counts plan.head.first plan.recs → least ≤ count → ReadsFirst image (plan_entries plan) count
    → ((least ≡ 0) × NoFrame plan.number image) ⊎ ((log : Log) × (n : ℕ) × (image ≡ log_bytes (found_of log)) × (least ≤ suc n) × EndsAt plan log n)
unfolding frames
torn_of parts counts plan image least zero kept kept' ordered enough reads =
    inl (omega (arith, enough), subst (NoFrame plan.number) (sym reads.image_is) (NoneOfAny plan.number reads.rest (omega (arith, kept)) reads.then_none))
torn_of parts counts plan image least (suc count) kept kept' ordered enough reads =
    let among : count ≤ length plan.recs = omega (arith, reads.among, length-map plan.recs entry_of) in
    let log : Log = record { number = plan.number; head = plan.head; rest = frames (map entry_of (take count plan.recs)) ++ reads.rest } in
    inr (
      log,
      count,
      reads.image_is ∙ append_assoc (frame plan.number (head_bytes plan.head)) (frames (take count (map entry_of plan.recs))) reads.rest
          ∙ ap (λ (l : List (ℕ × List ℕ)). frame plan.number (head_bytes plan.head) ++ (frames l ++ reads.rest)) (take_map plan.recs count),
      enough,
      record {
        rest = reads.rest;
        front = record { number = refl; head = refl; among = among; spelled = refl };
        ends = NoneOfAny (plan.head.first + count) reads.rest (omega (arith, among, InOrder-number parts counts plan.head.first plan.recs kept' ordered)) reads.then_none;
      },
    )

pub TornWal : TornWalLaw
TornWal parts counts plan image tail least kept kept' fits ordered small among begins bound no_chance =
    let all : All IsEntry (plan_entries plan) = All-from_recursion IsEntry (plan_entries plan) (head_fits plan.number plan.head kept fits, entries_fit parts counts plan.head.first plan.recs ordered) in
    let torn = TornLog (plan_entries plan) image tail least all small (omega (arith, among, length-map plan.recs entry_of)) begins bound no_chance in
    torn_of parts counts plan image least torn.0 kept kept' ordered torn.1 torn.2
