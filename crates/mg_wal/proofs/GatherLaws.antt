-- What an image has of all logs that are not removed: those with a whole head, one after another, give a front of the records.
use Rattle.std.proofs.Common.{◌≡◌, ℕ, zero, suc, ◌+◌, ◌<◌, ◌≤◌, ◌^◌, ◌⊎◌, inl, inr, List, [], ◌∷◌, ◌++◌, length, map, refl, sym, ap, subst, ◌∙◌, arith, Option, None, Some}
use Rattle.std.specs.List.{AllByRecursion}
use Rattle.mg_disk.specs.Images.{HoldsBytes, Image}
use Rattle.mg_frame.specs.Frame.{NoFrame}
use Rattle.mg_types.specs.declared.names.Name.{Name}
use Rattle.mg_wal_format.specs.declared.record.Rec.{Rec}
use Rattle.mg_wal_format.specs.Chains.{AreFor, IsFor, Leaves}
use Rattle.mg_wal_format.specs.Heads.{head_bytes, parts_of, IsSoundHead}
use Rattle.mg_wal_format.specs.Logs.{counts_after, InOrder, Log}
use Rattle.mg_wal_format.specs.Records.{Counts}
use Rattle.mg_wal_format.specs.Recovery.{found_of, log_bytes, log_name, ByNoChance, IsSoundLog, NumbersRise}
use Rattle.mg_wal_format.specs.Torn.{EndsAt, Plan}
use Rattle.mg_wal_format.proofs.FoundLaws.{Among}
use Rattle.mg_wal_format.proofs.FrontLaws.{InOrder-behind, InOrder-front}
use Rattle.mg_wal_format.proofs.SpellingLaws.{length-head_bytes}
use Rattle.mg_wal.specs.Lists.{Basis}
use Rattle.mg_wal.specs.Scenes.{behind_head, name_of, reach_from, reach_in, AreTracks, IsBegunAs, IsFollowedByFound, IsLeft, IsSoundTrack, Track, TracksRise}
use Rattle.mg_wal.proofs.TrackLaws.{left_track, IsNone, IsWhole}

-- a log of an image, with a head that a log of the run or one that it found may have
abbrev pub IsOf : Basis → Image → Log → Type 0
IsOf basis image log = (length (head_bytes log.head) < 2 ^ 32) × (image (log_name log.number) ≡ Some (log_bytes (found_of log))) × IsSoundLog log × (parts_of log.head ≤ length basis.low)
    × ((log.number ≤ basis.newest) ⊎ (parts_of log.head ≡ length basis.low))

-- no log has a whole head, and none is sure
pub record NoneWhole (image : Image) (before : ℕ) (tracks : List Track) : Type 0 where
  pub begun : IsFollowedByFound tracks → ⊥
  pub reach : reach_from before tracks ≡ before
  pub each : (track : Track) (bytes : List ℕ) → Among track tracks → image (name_of track) ≡ Some bytes → NoFrame track.plan.number bytes

-- what is left of a log is one of these, or has no whole head
abbrev pub IsOneOf : List Log → Track → List ℕ → Type 0
IsOneOf logs track bytes = ((log : Log) × Among log logs × (log.number ≡ track.plan.number)) ⊎ NoFrame track.plan.number bytes

-- some logs have a whole head, and give a front of the records that has the sure ones
pub record SomeWhole (basis : Basis) (image : Image) (counts : Counts) (number : ℕ) (recs : List Rec) (before lowest width : ℕ) (tracks : List Track) : Type 0 where
  pub plan : Plan
  pub plans : List Plan
  pub log : Log
  pub logs : List Log
  pub behind : ℕ
  pub is_for : IsFor counts number recs plan
  pub are : AreFor counts number recs (plan ∷ plans)
  pub head : log.head ≡ plan.head
  pub left : Leaves (plan ∷ plans) (log ∷ logs) behind
  pub reach : reach_from before tracks ≤ behind
  pub of : AllByRecursion (IsOf basis image) (log ∷ logs)
  pub least : lowest ≤ log.number
  pub parts : width ≤ parts_of plan.head
  pub rise : NumbersRise (map found_of (log ∷ logs))
  pub each : (track : Track) (bytes : List ℕ) → Among track tracks → image (name_of track) ≡ Some bytes → IsOneOf (log ∷ logs) track bytes

-- ---- one log

named_as : (found : Option (List ℕ)) (basis : Basis) (written : List ℕ) (track : Track) → IsBegunAs found basis written track → (track.plan.number ≤ basis.newest) ⊎ (parts_of track.plan.head ≡ length basis.low)
named_as None basis written track begun = inr begun.1
named_as (Some rest) basis written track begun = inl begun.1

of_whole : (basis : Basis) (written : Name → List ℕ) (image : Image) (track : Track) (tracks : List Track) → IsSoundTrack basis written track → (whole : IsWhole image track tracks) → IsOf basis image whole.log
of_whole basis written image track tracks sound whole =
    let number : track.plan.number ≡ whole.log.number = sym whole.front.number in
    let head = sym whole.front.head in
    let few = sound.head.fits.parts in
    let named = named_as track.found basis (written (name_of track)) track sound.begun in (
      omega (arith, few, length-head_bytes whole.log.head, ap parts_of head),
      subst (λ (n : ℕ). image (log_name n) ≡ Some (log_bytes (found_of whole.log))) number whole.there,
      (subst (λ (n : ℕ). n < 2 ^ 62) number sound.number, subst (λ h. IsSoundHead h) head sound.head),
      omega (arith, sound.fits, ap parts_of head),
      subst (λ h. (whole.log.number ≤ basis.newest) ⊎ (parts_of h ≡ length basis.low)) head (subst (λ (n : ℕ). (n ≤ basis.newest) ⊎ (parts_of track.plan.head ≡ length basis.low)) number named),
    )

pub reach_below : (before first number sure : ℕ) → before ≤ number → first ≡ number → reach_in before first sure ≤ number + behind_head sure
reach_below before first number zero below is = omega (arith, below)
reach_below before first number (suc count) below is = omega (arith, is)

reach_above : (before first sure count : ℕ) → before ≤ first → sure ≤ suc count → reach_in before first sure ≤ first + count
reach_above before first zero count below enough = omega (arith, below)
reach_above before first (suc sure) count below enough = omega (arith, enough)

behind_below : (sure count : ℕ) → sure ≤ suc count → behind_head sure ≤ count
behind_below zero count enough = omega arith
behind_below (suc sure) count enough = omega (arith, enough)

-- where no records stand before these logs, they are for all of them
none_before : (P : Counts → ℕ → List Rec → Type 0) (counts : Counts) (number : ℕ) (recs mine others : List Rec) → recs ≡ mine ++ others → length mine ≡ 0
    → P (counts_after counts mine) (number + length mine) others → P counts number recs
none_before P counts number recs [] others is none all = subst (λ (n : ℕ). P counts n recs) (omega arith) (subst (P counts (number + 0)) (sym is) all)
none_before P counts number recs (rec ∷ mine) others is none all = absurd (omega (arith, none))

-- ---- one log and those behind it

-- what is known of the logs from one on
record Known (basis : Basis) (counts : Counts) (number : ℕ) (recs : List Rec) (before lowest width : ℕ) (track : Track) (tracks : List Track) (mine others : List Rec) : Type 0 where
  is_for : IsFor counts number recs track.plan
  split : recs ≡ mine ++ others
  mine_are : length mine ≡ behind_head track.sure
  below : before ≤ number
  least : lowest ≤ track.plan.number
  parts : width ≤ parts_of track.plan.head

abbrev Gathered : Basis → Image → Counts → ℕ → List Rec → ℕ → ℕ → ℕ → List Track → Type 0
Gathered basis image counts number recs before least parts tracks = NoneWhole image before tracks ⊎ SomeWhole basis image counts number recs before least parts tracks

each_none : (image : Image) (track : Track) (tracks : List Track) → IsNone image track
    → ((other : Track) (bytes : List ℕ) → Among other tracks → image (name_of other) ≡ Some bytes → NoFrame other.plan.number bytes)
    → (other : Track) (bytes : List ℕ) → Among other (track ∷ tracks) → image (name_of other) ≡ Some bytes → NoFrame other.plan.number bytes
each_none image track tracks none each other bytes (inl same) is =
    subst (λ (t : Track). NoFrame t.plan.number bytes) (sym same) (none.none bytes (ap (λ (t : Track). image (name_of t)) (sym same) ∙ is))
each_none image track tracks none each other bytes (inr behind) is = each other bytes behind is

each_of : (image : Image) (track : Track) (tracks : List Track) (logs : List Log) → IsNone image track
    → ((other : Track) (bytes : List ℕ) → Among other tracks → image (name_of other) ≡ Some bytes → IsOneOf logs other bytes)
    → (other : Track) (bytes : List ℕ) → Among other (track ∷ tracks) → image (name_of other) ≡ Some bytes → IsOneOf logs other bytes
each_of image track tracks logs none each other bytes (inl same) is =
    inr (subst (λ (t : Track). NoFrame t.plan.number bytes) (sym same) (none.none bytes (ap (λ (t : Track). image (name_of t)) (sym same) ∙ is)))
each_of image track tracks logs none each other bytes (inr behind) is = each other bytes behind is

-- one log more stands before these
more_logs : (log : Log) (logs : List Log) (track : Track) (bytes : List ℕ) → IsOneOf logs track bytes → IsOneOf (log ∷ logs) track bytes
more_logs log logs track bytes (inl (other, among, is)) = inl (other, inr among, is)
more_logs log logs track bytes (inr none) = inr none

each_whole : (image : Image) (track : Track) (tracks : List Track) (log : Log) (logs : List Log) → log.number ≡ track.plan.number
    → ((other : Track) (bytes : List ℕ) → Among other tracks → image (name_of other) ≡ Some bytes → IsOneOf logs other bytes)
    → (other : Track) (bytes : List ℕ) → Among other (track ∷ tracks) → image (name_of other) ≡ Some bytes → IsOneOf (log ∷ logs) other bytes
each_whole image track tracks log logs numbered each other bytes (inl same) is = inl (log, inl refl, numbered ∙ ap (λ (t : Track). t.plan.number) (sym same))
each_whole image track tracks log logs numbered each other bytes (inr behind) is = more_logs log logs other bytes (each other bytes behind is)

-- the log has no whole head
skip_one : (basis : Basis) (image : Image) (counts : Counts) (number : ℕ) (recs mine others : List Rec) (before least parts : ℕ) (track : Track) (tracks : List Track)
    → Known basis counts number recs before least parts track tracks mine others → IsNone image track
    → Gathered basis image (counts_after counts mine) (number + length mine) others (reach_in before track.plan.head.first track.sure) (track.plan.number + 1) (parts_of track.plan.head) tracks
    → Gathered basis image counts number recs before least parts (track ∷ tracks)
skip_one basis image counts number recs mine others before least parts track tracks known none (inl later) =
    inl (record { begun = none.begun; reach = later.reach ∙ ap (reach_in before track.plan.head.first) none.unsure; each = each_none image track tracks none later.each })
skip_one basis image counts number recs mine others before least parts track tracks known none (inr later) =
    let nothing : length mine ≡ 0 = known.mine_are ∙ ap behind_head none.unsure in
    inr (
    record {
      plan = later.plan;
      plans = later.plans;
      log = later.log;
      logs = later.logs;
      behind = later.behind;
      is_for = none_before (λ c n rs. IsFor c n rs later.plan) counts number recs mine others known.split nothing later.is_for;
      are = none_before (λ c n rs. AreFor c n rs (later.plan ∷ later.plans)) counts number recs mine others known.split nothing later.are;
      head = later.head;
      left = later.left;
      reach = later.reach;
      of = later.of;
      least = omega (arith, known.least, later.least);
      parts = omega (arith, known.parts, later.parts);
      rise = later.rise;
      each = each_of image track tracks (later.log ∷ later.logs) none later.each;
    }
    )

-- the last log that has a whole head
ends_last : (image : Image) (track : Track) (tracks : List Track) (whole : IsWhole image track tracks) → (IsFollowedByFound tracks → ⊥)
    → IsFollowedByFound tracks ⊎ NoFrame (track.plan.head.first + whole.count) whole.rest → EndsAt track.plan whole.log whole.count
ends_last image track tracks whole alone (inl followed) = absurd (alone followed)
ends_last image track tracks whole alone (inr none) = record { rest = whole.rest; front = whole.front; ends = none }

-- the log has a whole head
take_one : (basis : Basis) (image : Image) (counts : Counts) (number : ℕ) (recs mine others : List Rec) (before least parts : ℕ) (track : Track) (tracks : List Track)
    → Known basis counts number recs before least parts track tracks mine others → (whole : IsWhole image track tracks) → IsOf basis image whole.log
    → Gathered basis image (counts_after counts mine) (number + length mine) others (reach_in before track.plan.head.first track.sure) (track.plan.number + 1) (parts_of track.plan.head) tracks
    → SomeWhole basis image counts number recs before least parts (track ∷ tracks)
take_one basis image counts number recs mine others before least parts track tracks known whole of (inl later) =
    record {
      plan = track.plan;
      plans = [];
      log = whole.log;
      logs = [];
      behind = track.plan.head.first + whole.count;
      is_for = known.is_for;
      are = known.is_for;
      head = whole.front.head;
      left = (whole.count, ends_last image track tracks whole later.begun whole.ends, refl);
      reach = omega (arith, later.reach, reach_above before track.plan.head.first track.sure whole.count (omega (arith, known.below, known.is_for.first)) whole.enough);
      of = (of, tt);
      least = omega (arith, known.least, whole.front.number);
      parts = known.parts;
      rise = tt;
      each = each_whole image track tracks whole.log [] whole.front.number (λ other bytes among is. inr (later.each other bytes among is));
    }
take_one basis image counts number recs mine others before least parts track tracks known whole of (inr later) =
    record {
      plan = track.plan;
      plans = later.plan ∷ later.plans;
      log = whole.log;
      logs = later.log ∷ later.logs;
      behind = later.behind;
      is_for = known.is_for;
      are = (known.is_for, later.parts, mine, others, known.split, later.are);
      head = whole.front.head;
      left = (
        whole.count,
        whole.rest,
        whole.front,
        omega (arith, later.is_for.first, known.mine_are, known.is_for.first, behind_below track.sure whole.count whole.enough),
        later.left,
      );
      reach = later.reach;
      of = (of, later.of);
      least = omega (arith, known.least, whole.front.number);
      parts = known.parts;
      rise = (omega (arith, later.least, whole.front.number), later.rise);
      each = each_whole image track tracks whole.log (later.log ∷ later.logs) whole.front.number later.each;
    }

one_then : (basis : Basis) (written : Name → List ℕ) (image : Image) (counts : Counts) (number : ℕ) (recs mine others : List Rec) (before least parts : ℕ) (track : Track) (tracks : List Track)
    → Known basis counts number recs before least parts track tracks mine others → IsSoundTrack basis written track → IsNone image track ⊎ IsWhole image track tracks
    → Gathered basis image (counts_after counts mine) (number + length mine) others (reach_in before track.plan.head.first track.sure) (track.plan.number + 1) (parts_of track.plan.head) tracks
    → Gathered basis image counts number recs before least parts (track ∷ tracks)
one_then basis written image counts number recs mine others before least parts track tracks known sound (inl none) later =
    skip_one basis image counts number recs mine others before least parts track tracks known none later
one_then basis written image counts number recs mine others before least parts track tracks known sound (inr whole) later =
    inr (take_one basis image counts number recs mine others before least parts track tracks known whole (of_whole basis written image track tracks sound whole) later)

-- ---- all logs

pub gather : (basis : Basis) (written : Name → List ℕ) (image : Image) (counts : Counts) (number : ℕ) (recs : List Rec) (before least parts : ℕ) (tracks : List Track)
    → InOrder (length basis.low) counts number recs → AreTracks counts number recs tracks → AllByRecursion (IsSoundTrack basis written) tracks → TracksRise least parts tracks
    → AllByRecursion (IsLeft image) tracks
    → ((number : ℕ) (bytes : List ℕ) → image (log_name number) ≡ Some bytes → length bytes ≤ length (written (log_name number))) → HoldsBytes image → ByNoChance image written → before ≤ number
    → NoneWhole image before tracks ⊎ SomeWhole basis image counts number recs before least parts tracks
gather basis written image counts number recs before least parts [] ordered are sound rise left small bytes chance below =
    inl (record { begun = λ followed. followed; reach = refl; each = λ track bytes among is. absurd among })
gather basis written image counts number recs before least parts (track ∷ tracks) ordered are sound rise left small bytes chance below =
    let is_for = are.0 in
    let mine = are.2 in
    let others = are.3 in
    let all : InOrder (length basis.low) counts number (track.plan.recs ++ is_for.more) = subst (InOrder (length basis.low) counts number) is_for.front ordered in
    let here : InOrder (length basis.low) counts track.plan.head.first track.plan.recs =
    subst (λ (n : ℕ). InOrder (length basis.low) counts n track.plan.recs) (sym is_for.first) (InOrder-front (length basis.low) counts number track.plan.recs is_for.more all) in
    let later_ordered = InOrder-behind (length basis.low) counts number mine others (subst (InOrder (length basis.low) counts number) are.4 ordered) in
    let known : Known basis counts number recs before least parts track tracks mine others =
    record { is_for = is_for; split = are.4; mine_are = are.5; below = below; least = rise.0; parts = rise.1 } in
    let reach = reach_below before track.plan.head.first number track.sure below is_for.first in
    let later = gather basis written image (counts_after counts mine) (number + length mine) others (reach_in before track.plan.head.first track.sure) (track.plan.number + 1) (parts_of track.plan.head) tracks
    later_ordered are.6 sound.1 rise.2 left.1 small bytes chance (omega (arith, reach, are.5)) in
    one_then basis written image counts number recs mine others before least parts track tracks known sound.0
    (left_track (length basis.low) counts basis written image track tracks here sound.0 are.1 left.0 (small track.plan.number) bytes chance) later
