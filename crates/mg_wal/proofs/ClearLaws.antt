-- The removal of strays, one after another: what is removed is gone, and the rest is as it was.
use Rattle.std.proofs.Common.{◌≡◌, ◌≢◌, ℕ, ◌+◌, ◌<◌, ◌⊎◌, inl, inr, List, [], ◌∷◌, ◌++◌, length, get_or, take, drop, Option, None, Some, refl, sym, ap, subst, ◌∙◌, arith, ◌≤◌}
use Rattle.std.proofs.lemmas.List.{drop_more, take_more}
use Rattle.std.specs.List.{AllByRecursion}
use Rattle.std.specs.Prelude.{IfSome}
use Rattle.mg_disk.specs.Images.{Image, NameInDoubt, NameSet, Sets, Stays, View}
use Rattle.mg_disk.specs.Moments.{EachImage, LeavesOnly}
use Rattle.mg_disk.proofs.Moments.{started}
use Rattle.mg_frame.specs.Frame.{NoFrame}
use Rattle.mg_types.specs.declared.names.Name.{Name}
use Rattle.mg_wal_format.specs.Recovery.{log_name, Clears, IsLess, IsStray}
use Rattle.mg_wal_format.proofs.FoundLaws.{all_among, among, Among}
use Rattle.mg_wal.specs.Findings.{AreRising}
use Rattle.mg_wal.specs.Stories.{IsOpenLog}
use Rattle.mg_wal.specs.Strays.{AreStrays, KeepsEachReach, KeepsLess, Removes}
use Rattle.mg_wal.proofs.MomentLaws.{one_call, same_or_other_name, then_calls}
use Rattle.mg_wal.proofs.MoveLaws.{stays_move}
use Rattle.mg_wal.proofs.StepLaws.{all_append, all_by}
use Rattle.mg_wal.proofs.StrayLaws.{goes_by, StrayGoes}

-- P of each element gives Q of each
all_map : {X : Type 0} (P Q : X → Type 0) (xs : List X) → ((x : X) → P x → Q x) → AllByRecursion P xs → AllByRecursion Q xs
all_map P Q xs f all = all_by P P Q xs (λ x p _. f x p) all all

-- ---- an image without one stray more

less_name : (image before c : Image) (own name : Name) → IsStray image own → (new_is : Sets own None before c) → (before name ≡ image name) ⊎ (IsStray image name × (before name ≡ None)) → (name ≡ own) ⊎ (name ≢ own)
    → (c name ≡ image name) ⊎ (IsStray image name × (c name ≡ None))
less_name image before c own name stray sets less (inl same) = inr (subst (IsStray image) (sym same) stray, ap c same ∙ sets.at)
less_name image before c own name stray sets (inl was) (inr differs) = inl (sets.elsewhere name differs ∙ was)
less_name image before c own name stray sets (inr gone) (inr differs) = inr (gone.0, sets.elsewhere name differs ∙ gone.1)

less_without : (image before c : Image) (own : Name) → IsStray image own → IsLess image before → Sets own None before c → IsLess image c
less_without image before c own stray less sets name = less_name image before c own name stray sets (less name) (same_or_other_name name own)

-- a stray of an image of which strays are gone is one of the whole image
stray_before : (image now : Image) (name : Name) → (now name ≡ image name) ⊎ (IsStray image name × (now name ≡ None)) → IsStray now name → IsStray image name
stray_before image now name (inl same) stray = (stray.0, stray.1, stray.2, sym same ∙ stray.3, stray.4)
stray_before image now name (inr was) stray = was.0

-- ---- one removal

stray_at : (image : Image) (number : ℕ) → IsStray image (log_name number) → (bytes : List ℕ) × (image (log_name number) ≡ Some bytes) × NoFrame number bytes
stray_at image number stray = (stray.1, stray.3, subst (λ (n : ℕ). NoFrame n stray.1) (sym (ap (λ (name : Name). name.number) stray.2)) stray.4)

pub reach_without : (number : ℕ) (old new : View) → old.may_leave old.contents → IsStray old.contents (log_name number) → NameSet (log_name number) None old new ⊎ NameInDoubt (log_name number) None old new
    → KeepsEachReach old new
reach_without number old new may stray change basis list time reach book none reached =
    let is = stray_at old.contents number stray in
    StrayGoes basis list time reach book old new number is.0 reached may is.1 is.2 none change

left_without : (image : Image) (number : ℕ) (old : View) (c : Image) → IsStray image (log_name number) → EachImage old (IsLess image) → old.may_leave c ⊎ ((before : Image) × old.may_leave before × Sets (log_name number) None before c)
    → IsLess image c
left_without image number old c stray all (inl left) = all c left
left_without image number old c stray all (inr from) = less_without image from.0 c (log_name number) stray (all from.0 from.1) from.2

pub less_change : (number : ℕ) (old new : View) → ((c : Image) → old.left_since old.moment c → old.may_leave c) → old.may_leave old.contents → IsStray old.contents (log_name number)
    → NameSet (log_name number) None old new ⊎ NameInDoubt (log_name number) None old new → KeepsLess old new
less_change number old new only may stray change image all =
    let by = goes_by number old new change in
    let is : IsStray image (log_name number) = stray_before image old.contents (log_name number) (all old.contents may (log_name number)) stray in
    let all' : EachImage new (IsLess image) = λ c left. left_without image number old c is all (by.2 c left) in
    (one_call old new (IsLess image) only all (by.0, all'), all')

less_then : (old mid new : View) → KeepsLess old mid → KeepsLess mid new → KeepsLess old new
less_then old mid new first second image all =
    let here = first image all in
    let there = second image here.1 in
    (then_calls old mid new (IsLess image) here.0 there.0, there.1)

-- ---- one after another

-- what was removed of the strays so far, and what is left of them
pub record Removing (strays : List ℕ) (count : ℕ) (old new : View) : Type 0 where
  pub removed : Removes (take count strays) old.contents new.contents
  pub rise : AreRising (drop count strays)
  pub left : AllByRecursion (λ number. IsStray new.contents (log_name number)) (drop count strays)
  pub reaches : KeepsEachReach old new
  pub less : KeepsLess old new

pub removing_none : (strays : List ℕ) (view : View) → ((c : Image) → view.left_since view.moment c → view.may_leave c) → AreStrays view.contents strays → Removing strays 0 view view
removing_none strays view only are =
    record {
      removed = record { gone = tt; elsewhere = λ name others. refl };
      rise = are.rise;
      left = are.each;
      reaches = λ basis list time reach book none reached. reached;
      less = λ image all. (started view (IsLess image) only all, all);
    }

-- the next stray, and those behind it
pub next_stray : (strays : List ℕ) (count : ℕ) (old new : View) → count < length strays → Removing strays count old new → IsStray new.contents (log_name (get_or strays count 0))
next_stray strays count old new within so_far =
    (subst (AllByRecursion (λ number. IsStray new.contents (log_name number))) (drop_more strays count 0 within) so_far.left).0

rise_behind : (n : ℕ) (ns : List ℕ) → AreRising (n ∷ ns) → AreRising ns
rise_behind n [] rise = tt
rise_behind n (m ∷ ns) rise = rise.1

-- numbers behind the first are others
others_behind : (n : ℕ) (ns : List ℕ) → AreRising (n ∷ ns) → AllByRecursion (λ other. n < other) ns
others_behind n [] rise = tt
others_behind n (m ∷ ns) rise = (rise.0, all_map (λ other. m < other) (λ other. n < other) ns (λ other above. omega (arith, rise.0, above)) (others_behind m ns rise.1))

other_log : (n other : ℕ) → n < other → log_name other ≢ log_name n
other_log n other above same = omega (arith, above, ap (λ (name : Name). name.number) same)

still_stray : (own name : Name) (old new : Image) → Sets own None old new → name ≢ own → IsStray old name → IsStray new name
still_stray own name old new sets differs stray = (stray.0, stray.1, stray.2, sets.elsewhere name differs ∙ stray.3, stray.4)

still_gone : (own name : Name) (old new : Image) → Sets own None old new → (name ≡ own) ⊎ (name ≢ own) → old name ≡ None → new name ≡ None
still_gone own name old new sets (inl same) gone = ap new same ∙ sets.at
still_gone own name old new sets (inr differs) gone = sets.elsewhere name differs ∙ gone

removes_more : (numbers : List ℕ) (number : ℕ) (old mid new : Image) → Removes numbers old mid → Sets (log_name number) None mid new → Removes (numbers ++ number ∷ []) old new
removes_more numbers number old mid new so_far sets =
    record {
      gone = all_append (λ n. new (log_name n) ≡ None) numbers (number ∷ [])
          (all_map (λ n. mid (log_name n) ≡ None) (λ n. new (log_name n) ≡ None) numbers (λ n gone. still_gone (log_name number) (log_name n) mid new sets (same_or_other_name (log_name n) (log_name number)) gone) so_far.gone)
          (sets.at, tt);
      elsewhere = λ name others.
          let split = all_split (λ n. name ≢ log_name n) numbers number others in
          sets.elsewhere name split.1 ∙ so_far.elsewhere name split.0;
    }
  where
    all_split : (P : ℕ → Type 0) (ns : List ℕ) (n : ℕ) → AllByRecursion P (ns ++ n ∷ []) → AllByRecursion P ns × P n
    all_split P [] n all = (tt, all.0)
    all_split P (m ∷ ns) n all = let behind = all_split P ns n all.1 in ((all.0, behind.0), behind.1)

pub removing_more : (strays : List ℕ) (count number : ℕ) (old mid new : View) → count < length strays → number ≡ get_or strays count 0 → ((c : Image) → mid.left_since mid.moment c → mid.may_leave c) → mid.may_leave mid.contents
    → Removing strays count old mid → NameSet (log_name number) None mid new → Removing strays (count + 1) old new
removing_more strays count number old mid new within is only may so_far change =
    let split : drop count strays ≡ number ∷ drop (count + 1) strays = drop_more strays count 0 within ∙ ap (λ (n : ℕ). n ∷ drop (count + 1) strays) (sym is) in
    let rise : AreRising (number ∷ drop (count + 1) strays) = subst AreRising split so_far.rise in
    let left : AllByRecursion (λ n. IsStray mid.contents (log_name n)) (number ∷ drop (count + 1) strays) = subst (AllByRecursion (λ n. IsStray mid.contents (log_name n))) split so_far.left in
    record {
      removed = subst (λ (ns : List ℕ). Removes ns old.contents new.contents) (ap (λ (n : ℕ). take count strays ++ n ∷ []) is ∙ sym (take_more strays count 0 within))
          (removes_more (take count strays) number old.contents mid.contents new.contents so_far.removed change.contents);
      rise = rise_behind number (drop (count + 1) strays) rise;
      left = all_by (λ n. number < n) (λ n. IsStray mid.contents (log_name n)) (λ n. IsStray new.contents (log_name n)) (drop (count + 1) strays)
          (λ n above stray. still_stray (log_name number) (log_name n) mid.contents new.contents change.contents (other_log number n above) stray) (others_behind number (drop (count + 1) strays) rise) left.1;
      reaches = λ basis list time reach book none reached. reach_without number mid new may left.0 (inl change) basis list time reach book none (so_far.reaches basis list time reach book none reached);
      less = less_then old mid new so_far.less (less_change number mid new only may left.0 (inl change));
    }

-- a removal that failed
pub removing_failed : (strays : List ℕ) (count number : ℕ) (old mid new : View) → count < length strays → number ≡ get_or strays count 0 → ((c : Image) → mid.left_since mid.moment c → mid.may_leave c) → mid.may_leave mid.contents
    → Removing strays count old mid → NameInDoubt (log_name number) None mid new → KeepsEachReach old new × KeepsLess old new
removing_failed strays count number old mid new within is only may so_far change =
    let stray : IsStray mid.contents (log_name number) = subst (λ (n : ℕ). IsStray mid.contents (log_name n)) (sym is) (next_stray strays count old mid within so_far) in (
      λ basis list time reach book none reached. reach_without number mid new may stray (inr change) basis list time reach book none (so_far.reaches basis list time reach book none reached),
      less_then old mid new so_far.less (less_change number mid new only may stray (inr change)),
    )

-- ---- all strays are gone

-- the name is none of these logs, or is one
is_among : (name : Name) (numbers : List ℕ) → AllByRecursion (λ n. name ≢ log_name n) numbers ⊎ ((n : ℕ) × Among n numbers × (name ≡ log_name n))
is_among name [] = inl tt
is_among name (n ∷ ns) = put (same_or_other_name name (log_name n)) (is_among name ns)
  where
    put : (name ≡ log_name n) ⊎ (name ≢ log_name n) → AllByRecursion (λ m. name ≢ log_name m) ns ⊎ ((m : ℕ) × Among m ns × (name ≡ log_name m))
        → AllByRecursion (λ m. name ≢ log_name m) (n ∷ ns) ⊎ ((m : ℕ) × Among m (n ∷ ns) × (name ≡ log_name m))
    put (inl same) behind = inr (n, inl refl, same)
    put (inr differs) (inl others) = inl (differs, others)
    put (inr differs) (inr (m, in_ns, is)) = inr (m, inr in_ns, is)

clears_name : (numbers : List ℕ) (old new : Image) (name : Name) → AreStrays old numbers → Removes numbers old new → AllByRecursion (λ n. name ≢ log_name n) numbers ⊎ ((n : ℕ) × Among n numbers × (name ≡ log_name n))
    → ((IsStray old name → ⊥) × (new name ≡ old name)) ⊎ (IsStray old name × (new name ≡ None))
clears_name numbers old new name are removes (inl others) = inl (
  λ stray.
      all_among (λ n. name ≢ log_name n) numbers stray.0 others (among numbers stray.0 (are.all stray.0 (subst (IsStray old) stray.2 stray))) stray.2,
  removes.elsewhere name others,
)
clears_name numbers old new name are removes (inr (n, in_numbers, is)) =
    inr (subst (IsStray old) (sym is) (all_among (λ m. IsStray old (log_name m)) numbers n are.each in_numbers), ap new is ∙ all_among (λ m. new (log_name m) ≡ None) numbers n removes.gone in_numbers)

pub clears : (numbers : List ℕ) (old new : Image) → AreStrays old numbers → Removes numbers old new → Clears old new
clears numbers old new are removes name = clears_name numbers old new name are removes (is_among name numbers)

-- ---- reads before

pub reach_stays : (old new : View) → Stays old new → KeepsEachReach old new
reach_stays old new stays basis list time reach book none reached =
    let scene = reached.0 in
    let story = reached.1 in
    let moved = stays_move basis scene book.newest old new story.seen stays in (
      scene,
      record {
        seen = moved.0;
        list = story.list;
        released = story.released;
        sure = story.sure;
        reach = story.reach;
        logs = story.logs;
        anchor = story.anchor;
        writing = subst (λ (w : Option ℕ). IfSome w (λ len. IsOpenLog scene new.contents book.newest len)) (sym none) tt;
      },
      moved.1 time reach reached.2,
    )

-- where a crash leaves what reads give alone, it does so while only reads are made
pub only_contents : (old new : View) → ((c : Image) → old.left_since old.moment c → old.may_leave c) → ((c : Image) → old.may_leave c → c ≡ old.contents) → Stays old new
    → LeavesOnly old new (λ image. image ≡ old.contents)
only_contents old new only_now only stays = one_call old new (λ image. image ≡ old.contents) only_now only (stays.time, λ c left. only c (stays.images c left))

pub less_contents : (image old : Image) → image ≡ old → IsLess old image
less_contents image old same name = inl (ap (λ (i : Image). i name) same)

pub only_less : (old new : View) → ((c : Image) → old.left_since old.moment c → old.may_leave c) → ((c : Image) → old.may_leave c → c ≡ old.contents) → Stays old new
    → LeavesOnly old new (IsLess old.contents) × EachImage new (IsLess old.contents)
only_less old new only_now only stays =
    let all : EachImage old (IsLess old.contents) = λ c left. less_contents c old.contents (only c left) in
    let all' : EachImage new (IsLess old.contents) = λ c left. all c (stays.images c left) in
    (one_call old new (IsLess old.contents) only_now all (stays.time, all'), all')

-- reads, and then a removal of strays
pub less_after : (old mid new : View) → ((c : Image) → old.left_since old.moment c → old.may_leave c) → ((c : Image) → old.may_leave c → c ≡ old.contents) → Stays old mid → KeepsLess mid new → LeavesOnly old new (IsLess old.contents)
less_after old mid new only_now only stays less =
    let read = only_less old mid only_now only stays in
    then_calls old mid new (IsLess old.contents) read.0 (less old.contents read.1).0

pub clears_after : (numbers : List ℕ) (old mid new : View) → AreStrays old.contents numbers → Stays old mid → Removes numbers mid.contents new.contents → Clears old.contents new.contents
clears_after numbers old mid new are stays removes = clears numbers old.contents new.contents are (subst (λ (image : Image). Removes numbers image new.contents) stays.contents removes)

-- the first of some strays is one
pub first_stray : (image : Image) (numbers : List ℕ) → 1 ≤ length numbers → AllByRecursion (λ number. IsStray image (log_name number)) numbers → (number : ℕ) × IsStray image (log_name number)
first_stray image [] some all = absurd (omega (arith, some))
first_stray image (number ∷ numbers) some all = (number, all.0)
