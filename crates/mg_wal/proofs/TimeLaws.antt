-- What was sure since a moment stays so, and what every image since then opens to.
use Rattle.std.proofs.Common.{◌≡◌, ℕ, ◌+◌, ◌≤◌, ◌⊎◌, inl, inr, List, [], ◌∷◌, ◌++◌, refl, sym, ap, subst, ◌∙◌, arith, append_assoc}
use Rattle.std.proofs.lemmas.List.{append-nil}
use Rattle.mg_disk.specs.Images.{Elapses, Image, View}
use Rattle.mg_frame.specs.Frames.{NoChance}
use Rattle.mg_frame.proofs.FramesLaws.{FrontChance}
use Rattle.mg_wal_format.specs.declared.record.Rec.{Rec}
use Rattle.mg_wal_format.specs.Logs.{one_more}
use Rattle.mg_wal_format.specs.Records.{Counts}
use Rattle.mg_wal_format.specs.Recovery.{log_name, ByNoChance}
use Rattle.mg_wal.specs.Book.{Entry}
use Rattle.mg_wal.specs.Lists.{all_recs, next_of, opened_counts, rec_of, recs_of, Basis}
use Rattle.mg_wal.specs.Scenes.{scene_reach, LeavesPrefix, Scene, Shows}
use Rattle.mg_wal.specs.Times.{Follows, IsSeen, KeepsSince, Since, SinceNowLaw, SinceOpensLaw, WasLeft}
use Rattle.mg_wal.proofs.SceneLaws.{SceneOpens}

-- ---- a scene that follows

pub Follows-self : (scene : Scene) → Follows scene scene
Follows-self scene = record { more = []; list = sym (append-nil scene.list); released = λ part. omega arith; written = λ number. ([], sym (append-nil (scene.written (log_name number)))) }

pub Follows-then : (one two three : Scene) → Follows one two → Follows two three → Follows one three
Follows-then one two three first second =
    record {
      more = first.more ++ second.more;
      list = second.list ∙ ap (λ (l : List Entry). l ++ second.more) first.list ∙ append_assoc one.list first.more second.more;
      released = λ part. omega (arith, first.released part, second.released part);
      written = λ number. (
        (first.written number).0 ++ (second.written number).0,
        (second.written number).1 ∙ ap (λ (l : List ℕ). l ++ (second.written number).0) (first.written number).1
            ∙ append_assoc (one.written (log_name number)) (first.written number).0 (second.written number).0,
      );
    }

pub WasLeft-then : (basis : Basis) (scene next : Scene) (reach : ℕ) (image : Image) → Follows scene next → WasLeft basis scene reach image → WasLeft basis next reach image
WasLeft-then basis scene next reach image follows was =
    record { past = was.past; is = was.is; shows = was.shows; enough = was.enough; follows = Follows-then was.past scene next was.follows follows }

-- ---- time

left_later : (basis : Basis) (scene next : Scene) (newest : ℕ) (old new : View) (time reach : ℕ) (image : Image) → IsSeen basis next newest new → Follows scene next → scene_reach scene ≤ scene_reach next
    → Since basis scene old time reach → old.left_since time image ⊎ new.may_leave image → WasLeft basis next reach image
left_later basis scene next newest old new time reach image seen follows grown since (inl before) = WasLeft-then basis scene next reach image follows (since.images image before)
left_later basis scene next newest old new time reach image seen follows grown since (inr now) =
    record { past = next; is = seen.is; shows = seen.images image now; enough = omega (arith, since.enough, grown); follows = Follows-self next }

-- a step of the volume
pub step_keeps : (basis : Basis) (scene next : Scene) (newest : ℕ) (old new : View) → Elapses old new → IsSeen basis next newest new → Follows scene next → scene_reach scene ≤ scene_reach next
    → KeepsSince basis scene next old new
step_keeps basis scene next newest old new elapses seen follows grown time reach since =
    record {
      past = omega (arith, since.past, elapses.later);
      enough = omega (arith, since.enough, grown);
      images = λ image left. left_later basis scene next newest old new time reach image seen follows grown since (elapses.nothing_else time image since.past left);
    }

pub SinceNow : SinceNowLaw
SinceNow basis scene newest view seen only =
    record {
      past = omega arith;
      enough = omega arith;
      images = λ image left. record { past = scene; is = seen.is; shows = seen.images image (only image left); enough = omega arith; follows = Follows-self scene };
    }

-- ---- what an image opens to

recs_of-append : (counts : Counts) (number : ℕ) (list more : List Entry) → (rest : List Rec) × (recs_of counts number (list ++ more) ≡ recs_of counts number list ++ rest)
recs_of-append counts number [] more = (recs_of counts number more, refl)
recs_of-append counts number (e ∷ list) more =
    let later = recs_of-append (one_more counts e.0) (number + 1) list more in
    (later.0, ap (λ (rs : List Rec). rec_of counts number e ∷ rs) later.1)

-- a longer list has more records behind the same
pub all_recs-append : (basis : Basis) (list more : List Entry) → (rest : List Rec) × (all_recs basis (list ++ more) ≡ all_recs basis list ++ rest)
all_recs-append basis list more =
    let later = recs_of-append (opened_counts basis) (next_of basis) list more in
    (later.0, ap (λ (rs : List Rec). basis.opened ++ rs) later.1 ∙ sym (append_assoc basis.opened (recs_of (opened_counts basis) (next_of basis) list) later.0))

chance_then : (past scene : Scene) (image : Image) → Shows past image → Follows past scene → ByNoChance image scene.written → ByNoChance image past.written
chance_then past scene image shows follows chance number bytes is =
    let later = follows.written number in
    FrontChance bytes (past.written (log_name number)) later.0 (shows.bound number bytes is) (subst (NoChance bytes) later.1 (chance number bytes is))

prefix_then : (basis : Basis) (past scene : Scene) (reach : ℕ) (image : Image) → Follows past scene → reach ≤ scene_reach past → LeavesPrefix basis past.released past.list (scene_reach past) image
    → LeavesPrefix basis scene.released scene.list reach image
prefix_then basis past scene reach image follows enough leaves =
    let longer = all_recs-append basis past.list follows.more in
    let all : all_recs basis scene.list ≡ (leaves.skipped ++ (leaves.recs ++ leaves.more)) ++ longer.0 =
    ap (all_recs basis) follows.list ∙ longer.1 ∙ ap (λ (rs : List Rec). rs ++ longer.0) leaves.among in
    record {
      logs = leaves.logs;
      skipped = leaves.skipped;
      recs = leaves.recs;
      more = leaves.more ++ longer.0;
      opens = leaves.opens;
      among = all ∙ append_assoc leaves.skipped (leaves.recs ++ leaves.more) longer.0 ∙ ap (λ (rs : List Rec). leaves.skipped ++ rs) (append_assoc leaves.recs leaves.more longer.0);
      at = leaves.at;
      low = leaves.low;
      gone = λ part. omega (arith, leaves.gone part, follows.released part);
      reaches = omega (arith, enough, leaves.reaches);
      named = leaves.named;
    }

pub SinceOpens : SinceOpensLaw
SinceOpens basis scene view time reach image since left bytes chance =
    let was = since.images image left in
    prefix_then basis was.past scene reach image was.follows was.enough
    (SceneOpens basis was.past image was.is was.shows bytes (chance_then was.past scene image was.shows was.follows chance))
