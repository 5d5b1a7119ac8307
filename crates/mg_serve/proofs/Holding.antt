-- What the log reaches, one call on.
use Rattle.std.proofs.Common.{◌≡◌, ◌≤◌, ◌⊎◌, inl, inr, ℕ, ◌-◌, List, [], ◌∷◌, ◌++◌, Ok, ap, subst, sym, ◌∙◌, arith}
use Rattle.std.proofs.lemmas.List.{append_assoc, append-nil}
use Rattle.mg_disk.specs.Images.{Image, View}
use Rattle.mg_model.specs.declared.replies.Answer.{Answer}
use Rattle.mg_model.specs.declared.replies.Reply.TheVariants as reply
use Rattle.mg_model.specs.Placed.{Placed}
use Rattle.mg_recover.specs.declared.partition.Partition.{Partition}
use Rattle.mg_recover.specs.Answers.{CarriesReach, IsAnswered}
use Rattle.mg_recover.specs.Cuts.{last_change}
use Rattle.mg_recover.specs.Made.{run_changes}
use Rattle.mg_recover.proofs.CutLemmas.{book_last}
use Rattle.mg_script.specs.declared.script.Line.{Line}
use Rattle.mg_wal.specs.Book.{Book}
use Rattle.mg_wal.specs.Lists.{Basis}
use Rattle.mg_wal.specs.Stories.{Reaches}
use Rattle.mg_wal.proofs.ReachLaws.{reaches_now}
use Rattle.mg_serve.specs.Answers.{AllFit, IsSyncedAt}
use Rattle.mg_serve.specs.Lasting.{Holds}
use Rattle.mg_serve.specs.Placed.{placed_by, placed_of}
use Rattle.mg_serve.proofs.Answering.{placed-push}

-- the last line was answered that all is synced
abbrev IsSyncedLast : Basis → List Placed → Line → Answer → ℕ → Type 0
IsSyncedLast basis before line answer number = (answer.result ≡ Ok reply.Synced) × (number ≡ last_change basis (before ++ placed_by line answer))

-- a sync among some lines and one more is among those, or the last
synced-push : (basis : Basis) (before : List Placed) (lines : List Line) (answers : List Answer) (line : Line) (answer : Answer) (number : ℕ) → AllFit basis before lines answers
    → IsSyncedAt basis before (lines ++ line ∷ []) (answers ++ answer ∷ []) number → IsSyncedAt basis before lines answers number ⊎ IsSyncedLast basis (before ++ placed_of lines answers) line answer number
synced-push basis before [] [] line answer number fit (inl here) = inr (here.0, here.1 ∙ ap (λ (ps : List Placed). last_change basis (ps ++ placed_by line answer)) (sym (append-nil before)))
synced-push basis before [] [] line answer number fit (inr none) = absurd none
synced-push basis before [] (a ∷ answers) line answer number fit s = absurd fit
synced-push basis before (l ∷ lines) [] line answer number fit s = absurd fit
synced-push basis before (l ∷ lines) (a ∷ answers) line answer number fit (inl here) = inl (inl here)
synced-push basis before (l ∷ lines) (a ∷ answers) line answer number fit (inr later) = by_case (synced-push basis (before ++ placed_by l a) lines answers line answer number fit.1 later)
  where
    by_case : IsSyncedAt basis (before ++ placed_by l a) lines answers number ⊎ IsSyncedLast basis ((before ++ placed_by l a) ++ placed_of lines answers) line answer number
        → IsSyncedAt basis before (l ∷ lines) (a ∷ answers) number ⊎ IsSyncedLast basis (before ++ (placed_by l a ++ placed_of lines answers)) line answer number
    by_case (inl among) = inl (inr among)
    by_case (inr last) = inr (last.0, last.1 ∙ ap (λ (ps : List Placed). last_change basis (ps ++ placed_by line answer)) (append_assoc before (placed_by l a) (placed_of lines answers)))

-- what the log reaches stays so over one call, and where that answers that all is synced, all is reached from then on
pub holds_next : (basis : Basis) (lines : List Line) (answers : List Answer) (line : Line) (answer : Answer) (opening : ℕ) (old new : Book) (now : List Partition) (view view' : View)
    → AllFit basis [] lines answers → IsAnswered basis (placed_of lines answers) line.part line.client line.call answer old new now
    → CarriesReach basis (placed_of lines answers) (placed_of lines answers ++ placed_by line answer) old new view view'
    → ((image : Image) → view'.left_since view'.moment image → view'.may_leave image)
    → Holds basis lines answers opening old view → Holds basis (lines ++ line ∷ []) (answers ++ answer ∷ []) opening new view'
holds_next basis lines answers line answer opening old new now view view' fit answered carries only holds = record {
  found = carried opening basis.reached holds.found;
  synced = λ number s. by_case number (synced-push basis [] lines answers line answer number fit s);
}
  where
    placed : List Placed
    placed = placed_of lines answers

    all : List Placed
    all = placed_of (lines ++ line ∷ []) (answers ++ answer ∷ [])

    same : all ≡ placed ++ placed_by line answer
    same = placed-push basis [] lines answers line answer fit

    carried : (time reach : ℕ) → Reaches basis (run_changes basis placed) time reach old view → Reaches basis (run_changes basis all) time reach new view'
    carried time reach before = subst (λ (ps : List Placed). Reaches basis (run_changes basis ps) time reach new view') (sym same) (carries time reach before)

    by_case : (number : ℕ) → IsSyncedAt basis [] lines answers number ⊎ IsSyncedLast basis placed line answer number
        → (time : ℕ) × (reach : ℕ) × (number ≤ reach - 1) × (basis.reached ≤ reach) × Reaches basis (run_changes basis all) time reach new view'
    by_case number (inl before) =
        let it = holds.synced number before in
        (it.0, it.1, it.2, it.3, carried it.0 it.1 it.4)
    by_case number (inr last) =
        let books = answered.stands.books in
        let sure = answered.synced last.0 in (
          view'.moment,
          new.reach,
          omega (arith, last.1, sure, book_last basis (placed ++ placed_by line answer) new books),
          books.reach.0,
          reaches_now basis (run_changes basis all) opening basis.reached new view' only (carried opening basis.reached holds.found),
        )
