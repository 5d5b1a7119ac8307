-- An image that opens to a cut is not refused, and opens to one.
use Rattle.std.proofs.Common.{◌≡◌, ℕ, ◌<◌, inl, inr, List, ◌∷◌, ◌++◌, Bool, true, false, Option, None, Some, sym, ap, subst, ◌∙◌, arith}
use Rattle.mg_disk.specs.Images.{Image}
use Rattle.mg_model.specs.History.{allows, call_for}
use Rattle.mg_model.specs.Placed.{Opening}
use Rattle.mg_model.specs.State.{worn, State}
use Rattle.mg_recover.specs.Cuts.{IsOpened}
use Rattle.mg_recover.specs.Made.{entries_of, states_after, AreMade, MayMake}
use Rattle.mg_recover.specs.Refusals.{IsStoreRefused, IsUnfit, IsUnfitFor, IsUnfitLog}
use Rattle.mg_recover.proofs.CutLemmas.{are_made_next, entries_of-append}
use Rattle.mg_types.specs.declared.faults.Fault.{Fault}
use Rattle.mg_wal_format.specs.declared.record.Rec.{Rec}
use Rattle.mg_wal_format.specs.Logs.{Log}
use Rattle.mg_wal_format.specs.Recovery.{low_of}
use Rattle.mg_wal_format.proofs.OpeningLaws.{NeverRefused, OneOpening}

no_number : (o : Option ℕ) (n : ℕ) → o ≡ None → o ≡ Some n → ⊥
no_number o n none some = cc

not_both : (b : Bool) → b ≡ true → b ≡ false → ⊥
not_both b yes_it no_it = cc

-- a change that may be made is none that is refused
fit : (s : State) (logs : List Log) (before : List Rec) (rec : Rec) (fault : Fault) → MayMake s rec.what → IsUnfitFor s logs before rec fault → ⊥
fit s logs before rec fault may (inl limit) = no_number (worn s (call_for rec.what)) limit.0 may.0 limit.1
fit s logs before rec fault may (inr other) = not_both (allows s rec.what) may.1 other.1

fit_all : (logs : List Log) (recs : List Rec) (fault : Fault) → AreMade (entries_of recs) → IsUnfit logs recs fault → ⊥
fit_all logs recs fault made unfit =
    let rec = unfit.rec in
    let entries : entries_of recs ≡ entries_of unfit.before ++ (rec.part, rec.what) ∷ entries_of unfit.behind =
    ap (λ (rs : List Rec). entries_of rs) unfit.split ∙ entries_of-append unfit.before (rec ∷ unfit.behind) in
    fit (states_after (entries_of unfit.before) rec.part) logs unfit.before rec fault
    (are_made_next (entries_of unfit.before) (rec.part, rec.what) (entries_of unfit.behind) (subst AreMade entries made)) unfit.why

fit_logs : (parts : ℕ) (logs : List Log) (recs : List Rec) (fault : Fault) → ((part : ℕ) → low_of logs part ≡ 0) → AreMade (entries_of recs) → IsUnfitLog parts logs recs fault → ⊥
fit_logs parts logs recs fault whole made (inl gap) = absurd (omega (arith, gap.some, whole gap.part))
fit_logs parts logs recs fault whole made (inr unfit) = fit_all logs recs fault made unfit.1

pub opened_not_refused : (parts : ℕ) (image : Image) (states : Opening) (fault : Fault) → IsOpened parts image states → IsStoreRefused parts image fault → ⊥
opened_not_refused parts image states fault opened (inl refused) = NeverRefused parts image opened.logs opened.recs fault opened.opens refused
opened_not_refused parts image states fault opened (inr other) =
    let logs = other.0 in
    let recs = other.1 in
    let same = OneOpening parts parts image opened.logs logs opened.recs recs opened.opens other.2 in
    let whole : (part : ℕ) → low_of logs part ≡ 0 = subst (λ (ls : List Log). (part : ℕ) → low_of ls part ≡ 0) same.0 opened.whole in
    let made : AreMade (entries_of recs) = subst (λ (rs : List Rec). AreMade (entries_of rs)) same.1 opened.made in
    fit_logs parts logs recs fault whole made other.3

pub opened_once : (parts : ℕ) (image : Image) (states others : Opening) → IsOpened parts image states → IsOpened parts image others → (part : ℕ) → part < parts → states part ≡ others part
opened_once parts image states others one two part within =
    let same = OneOpening parts parts image one.logs two.logs one.recs two.recs one.opens two.opens in
    one.led part within ∙ ap (λ (rs : List Rec). states_after (entries_of rs) part) same.1 ∙ sym (two.led part within)
