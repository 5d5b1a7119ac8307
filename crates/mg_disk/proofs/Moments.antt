-- How a run of calls goes on.
use Rattle.std.proofs.Common.{◌≡◌, inl, inr, ⊎_elim, ℕ, List, [], ◌++◌, refl, sym, ◌∙◌, ap, subst, arith, append_assoc}
use Rattle.std.specs.Prelude.{◌≢◌, ◌≤◌, Some, Result, Ok, Err, OnOk, OnErr}
use Rattle.mg_disk.specs.Images.{Image, View, Elapses, Grows, Appended, AppendFailed, NameSet, Stays, Synced}
use Rattle.mg_disk.specs.Moments.{LeavesOnly, EachImage, Begins, OthersAsLeft, LeftOrLog}
use Rattle.mg_types.specs.declared.names.Name.{Name}

-- before the first call
pub started : (old : View) (P : Image → Type 0) → ((c : Image) → old.left_since old.moment c → old.may_leave c) → EachImage old P → LeavesOnly old old P
started old P only_now now = record {
  later = omega arith;
  each = λ c left. now c (only_now c left);
  before = λ t c le left. inl left;
}

-- one call more, after which a crash leaves what has P
pub goes_on : (old mid new : View) (P : Image → Type 0) → LeavesOnly old mid P → Elapses mid new → EachImage new P → LeavesOnly old new P
goes_on old mid new P so_far time now = record {
  later = omega (arith, so_far.later, time.later);
  each = λ c left. ⊎_elim (so_far.each c) (now c) (time.nothing_else old.moment c so_far.later left);
  before = λ t c le left. ⊎_elim (so_far.before t c le) (λ here. inr (now c here)) (time.nothing_else t c (omega (arith, le, so_far.later)) left);
}

-- a log that grows goes on beginning with what it began with
pub grows_begins : (name : Name) (most : ℕ) (kept : List ℕ) (old new : Image) → Begins name kept old → Grows name most old new → Begins name kept new
grows_begins name most kept old new (behind, was) grown =
    let same : Some (kept ++ behind) ≡ Some grown.front = sym was ∙ grown.before in
    let front : kept ++ behind ≡ grown.front = cc in
    (behind ++ grown.behind, grown.after.at ∙ ap (λ (l : List ℕ). Some (l ++ grown.behind)) (sym front) ∙ ap (λ (l : List ℕ). Some l) (append_assoc kept behind grown.behind))

-- after an append each image begins with what each began with
pub appended_begins : (name : Name) (bytes kept : List ℕ) (old new : View) → EachImage old (Begins name kept) → Appended name bytes old new → EachImage new (Begins name kept)
appended_begins name bytes kept old new all done c left =
    let from = done.images c left in
    grows_begins name _ kept from.0 c (all from.0 from.1) from.2

-- after an append, whatever it answers, time went on and each image begins with what each began with
pub append_keeps : {T E : Type 0} (r : Result T E) (name : Name) (bytes kept : List ℕ) (old new : View) → OnOk r (Appended name bytes old new) → OnErr r (AppendFailed name bytes old new) → EachImage old (Begins name kept) → Elapses old new × EachImage new (Begins name kept)
append_keeps (Ok x) name bytes kept old new done failed all = (done.time, appended_begins name bytes kept old new all done)
append_keeps (Err e) name bytes kept old new done (inl stays) all = (stays.time, λ c left. all c (stays.images c left))
append_keeps (Err e) name bytes kept old new done (inr part) all = (part.appended.time, appended_begins name part.front kept old new all part.appended)

-- after a sync, whatever it answers, time went on and each image begins with what each began with
pub sync_keeps : {T E : Type 0} (r : Result T E) (name : Name) (kept : List ℕ) (old new : View) → old.may_leave old.contents → OnOk r (Synced name old new) → OnErr r (Stays old new) → EachImage old (Begins name kept)
    → Elapses old new × EachImage new (Begins name kept)
sync_keeps (Ok x) name kept old new now done stays all =
    let here = all old.contents now in
    (done.time, λ c left. (here.0, (done.images c left).2.at ∙ here.1))
sync_keeps (Err e) name kept old new now done stays all = (stays.time, λ c left. all c (stays.images c left))

-- each image has itself to show what its names stood for
pub as_left : (view : View) (name : Name) → EachImage view (OthersAsLeft view name)
as_left view name = λ c left. (c, left, λ other apart. refl)

-- after an append, whatever it answers, time went on and the other names stand in each image as in one of before
pub append_elsewhere : {T E : Type 0} (r : Result T E) (name : Name) (bytes : List ℕ) (old new : View) → OnOk r (Appended name bytes old new) → OnErr r (AppendFailed name bytes old new) → Elapses old new × EachImage new (OthersAsLeft old name)
append_elsewhere (Ok x) name bytes old new done failed = (done.time, λ c left. let from = done.images c left in (from.0, from.1, from.2.after.elsewhere))
append_elsewhere (Err e) name bytes old new done (inl stays) = (stays.time, λ c left. as_left old name c (stays.images c left))
append_elsewhere (Err e) name bytes old new done (inr part) = (part.appended.time, λ c left. let from = part.appended.images c left in (from.0, from.1, from.2.after.elsewhere))

-- the same of a sync that comes after
pub sync_elsewhere : {T E : Type 0} (r : Result T E) (name : Name) (old mid new : View) → OnOk r (Synced name mid new) → OnErr r (Stays mid new) → EachImage mid (OthersAsLeft old name) → Elapses mid new × EachImage new (OthersAsLeft old name)
sync_elsewhere (Ok x) name old mid new done stays all = (
  done.time,
  λ c left. let from = done.images c left in
      let before = all from.0 from.1 in
      (before.0, before.1, λ other apart. from.2.elsewhere other apart ∙ before.2 other apart),
)
sync_elsewhere (Err e) name old mid new done stays all = (stays.time, λ c left. all c (stays.images c left))

-- a run that leaves only what has R, and calls after it that leave only what has both P and Q, which together give R
pub joins : (old mid new : View) (P Q R : Image → Type 0) → LeavesOnly old mid R → LeavesOnly mid new P → LeavesOnly mid new Q → ((c : Image) → P c → Q c → R c) → LeavesOnly old new R
joins old mid new P Q R first second third both = record {
  later = omega (arith, first.later, second.later);
  each = λ c left. ⊎_elim (first.each c) (λ p. ⊎_elim (first.each c) (both c p) (third.before old.moment c first.later left)) (second.before old.moment c first.later left);
  before = λ t c le left.
      let earlier : t ≤ mid.moment = omega (arith, le, first.later) in
      ⊎_elim (first.before t c le) (λ p. ⊎_elim (first.before t c le) (λ q. inr (both c p q)) (third.before t c earlier left)) (second.before t c earlier left);
}

-- where a log was left under a name, and a call changed that log alone, a log is left there still
log_left : (old : View) (name : Name) (c d : Image) (behind : List ℕ) → c name ≡ Some behind → ((other : Name) → other ≢ name → c other ≡ d other) → LeftOrLog old name d → LeftOrLog old name c
log_left old name c d behind here others (inl left) = inr (d, behind, left, record { at = here; elsewhere = others })
log_left old name c d behind here others (inr (from, log, left, sets)) =
    inr (from, behind, left, record { at = here; elsewhere = λ other apart. others other apart ∙ sets.elsewhere other apart })

-- A volume is looked at, a log is made in it, and calls put bytes behind the log: each moment leaves what was left, or a log.
pub log_made : (old found mid new : View) (name own : Name) → own ≡ name → ((c : Image) → old.left_since old.moment c → old.may_leave c) → Stays old found → NameSet name (Some []) found mid
    → ((kept : List ℕ) → EachImage mid (Begins own kept) → LeavesOnly mid new (Begins own kept)) → LeavesOnly mid new (OthersAsLeft mid own) → LeavesOnly old new (LeftOrLog old name)
log_made old found mid new name own named only_now stays made begins others =
    let looked = goes_on old old found (LeftOrLog old name) (started old (LeftOrLog old name) only_now (λ c left. inl left)) stays.time (λ c left. inl (stays.images c left)) in
    let each : EachImage mid (LeftOrLog old name) = λ c left. (let from = made.images c left in inr (from.0, [], stays.images from.0 from.1, from.2)) in
    let empty : EachImage mid (Begins own []) = subst (λ n. EachImage mid (Begins n [])) (sym named) (λ c left. ([], (made.images c left).2.at)) in
    let behind = subst (λ n. LeavesOnly mid new (Begins n [])) named (begins [] empty) in
    let beside = subst (λ n. LeavesOnly mid new (OthersAsLeft mid n)) named others in
    joins old mid new _ _ _ (goes_on old found mid (LeftOrLog old name) looked made.time each) beside behind (λ c p q. log_left old name c p.0 q.0 q.1 p.2 (each p.0 p.1))
