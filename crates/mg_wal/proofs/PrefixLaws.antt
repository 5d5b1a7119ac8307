-- The heads of an image that opens to a front of the list count what stands before them in the whole list.
use Rattle.std.proofs.Common.{◌≡◌, ℕ, ◌+◌, ◌⊎◌, inl, inr, List, [], ◌∷◌, ◌++◌, length, refl, sym, ap, ◌∙◌, arith, append_assoc}
use Rattle.std.proofs.lemmas.List.{length-append}
use Rattle.std.specs.List.{AllByRecursion}
use Rattle.mg_disk.specs.Images.{Image}
use Rattle.mg_wal_format.specs.declared.record.Rec.{Rec}
use Rattle.mg_wal_format.specs.Logs.{counts_after, Log}
use Rattle.mg_wal_format.specs.Opening.{BeginsBehind}
use Rattle.mg_wal_format.specs.Records.{counts_in, Counts}
use Rattle.mg_wal_format.specs.Recovery.{first_of, low_of}
use Rattle.mg_wal_format.proofs.LogLaws.{counts_after-append}
use Rattle.mg_wal_format.proofs.OrderLaws.{HeadCounts}
use Rattle.mg_wal.specs.Book.{Entry}
use Rattle.mg_wal.specs.Lists.{all_recs, Basis}
use Rattle.mg_wal.specs.Scenes.{HeadsCountLaw, LeavesPrefix}
use Rattle.mg_wal.proofs.CountLaws.{counts_after-same}

-- what holds of each place of a list holds of all its elements
all_places : {X : Type 0} (P : X → Type 0) (xs : List X) → ((older : List X) (x : X) (newer : List X) → xs ≡ older ++ x ∷ newer → P x) → AllByRecursion P xs
all_places P [] each = tt
all_places P (x ∷ xs) each = (each [] x xs refl, all_places P xs (λ older y newer is. each (x ∷ older) y newer (ap (λ ys. x ∷ ys) is)))

none_there : (older newer : List Log) (log : Log) → [] ≡ older ++ log ∷ newer → ⊥
none_there older newer log is = omega (arith, ap length is, length-append older (log ∷ newer))

begins_in_all : (basis : Basis) (released : List ℕ) (list : List Entry) (reach : ℕ) (image : Image) (prefix : LeavesPrefix basis released list reach image) (log : Log)
    → first_of prefix.logs ≡ basis.first + length prefix.skipped → ((part : ℕ) → low_of prefix.logs part ≡ counts_after (counts_in basis.low) prefix.skipped part)
    → BeginsBehind (low_of prefix.logs) (first_of prefix.logs) prefix.recs log → BeginsBehind (counts_in basis.low) basis.first (all_recs basis list) log
begins_in_all basis released list reach image prefix log first low begins =
    record {
      before = prefix.skipped ++ begins.before;
      behind = begins.behind ++ prefix.more;
      split = prefix.among ∙ ap (λ (rs : List Rec). prefix.skipped ++ (rs ++ prefix.more)) begins.split
          ∙ ap (λ (rs : List Rec). prefix.skipped ++ rs) (append_assoc begins.before begins.behind prefix.more) ∙ sym (append_assoc prefix.skipped begins.before (begins.behind ++ prefix.more));
      first = omega (arith, first, begins.first, length-append prefix.skipped begins.before);
      gives = λ part. begins.gives part ∙ counts_after-same (low_of prefix.logs) (counts_after (counts_in basis.low) prefix.skipped) begins.before low part
          ∙ ap (λ (c : Counts). c part) (sym (counts_after-append prefix.skipped begins.before (counts_in basis.low)));
    }

pub HeadsCount : HeadsCountLaw
HeadsCount basis released list reach image prefix =
    all_places (λ log. BeginsBehind (counts_in basis.low) basis.first (all_recs basis list) log) prefix.logs (λ older log newer is. by older log newer is prefix.at prefix.low)
  where
    by : (older : List Log) (log : Log) (newer : List Log) → prefix.logs ≡ older ++ log ∷ newer → ((prefix.logs ≡ []) × (prefix.skipped ≡ [])) ⊎ (first_of prefix.logs ≡ basis.first + length prefix.skipped)
        → (prefix.logs ≡ []) ⊎ ((part : ℕ) → low_of prefix.logs part ≡ counts_after (counts_in basis.low) prefix.skipped part) → BeginsBehind (counts_in basis.low) basis.first (all_recs basis list) log
    by older log newer is (inl none) low = absurd (none_there older newer log (sym none.0 ∙ is))
    by older log newer is (inr first) (inl none) = absurd (none_there older newer log (sym none ∙ is))
    by older log newer is (inr first) (inr low) =
        begins_in_all basis released list reach image prefix log first low (HeadCounts (length basis.low) prefix.logs prefix.recs prefix.opens.gives older log newer is)
