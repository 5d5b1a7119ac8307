-- What a change and a read give, before they take their place.
use Rattle.std.proofs.Common.{◌≡◌, ◌<◌, ◌⊎◌, ℕ, List, [], ◌∷◌, ◌++◌, length, get_or, set, true, false, inl, inr, Some, Result, Ok, Err, refl, ap, subst, sym, ◌∙◌, get_or-set_same, get_or-set_other}
use Rattle.std.specs.Prelude.{IfErr, OnOk}
use Rattle.std.proofs.lemmas.List.{append-nil, get_or_read}
use Rattle.mg_disk.specs.Images.{View}
use Rattle.mg_types.specs.declared.faults.Fault.{Fault}
use Rattle.mg_types.specs.declared.faults.Fault.TheVariants.{NoMemory}
use Rattle.mg_model.specs.declared.calls.Call.{Call}
use Rattle.mg_model.specs.declared.calls.Call.TheVariants.{Set, Del, Get, Feed, Mark, Forget, Rollback, Clear, Sync, Compact, Stats}
use Rattle.mg_model.specs.declared.calls.Change.{Change}
use Rattle.mg_model.specs.declared.calls.Change.TheVariants as change
use Rattle.mg_model.specs.declared.replies.Reply.{Reply}
use Rattle.mg_model.specs.Fits.{is_read}
use Rattle.mg_model.specs.History.{call_for}
use Rattle.mg_model.specs.State.{HasRoom, State}
use Rattle.mg_wal.specs.Book.{after_push, after_reserve, parts_in, staged_of, Book, Entry, IsWorn}
use Rattle.mg_wal.specs.Lists.{Books, IsNextOf, KeepsBooks, KeepsBooksWith}
use Rattle.mg_wal.specs.Stories.{KeepsReach, KeepsReachWith, Reaches}
use Rattle.mg_recover.specs.declared.partition.Partition.{Partition}
use Rattle.mg_recover.specs.Answers.{IsCallFault, IsChangeFault, IsServed}
use Rattle.mg_recover.specs.Steps.{made_by, Gives, IsNoWrite, IsStep, KeepsBooksBy, KeepsReachBy, Tries}
use Rattle.mg_recover.specs.Stores.{new_partition, part_at, AllSynced}

-- what was read at a place
pub part_read : (was : List Partition) (i part : ℕ) (p : Partition) → i ≡ part → part < length was → p ≡ get_or was i p → p ≡ part_at was part
part_read was i part p e l at = get_or_read was i p (subst (λ n. n < length was) (sym e) l) at new_partition ∙ ap (part_at was) e

-- the log did so, and one partition was set
pub gives_by : (part i : ℕ) (call : Call) (given : Result Reply Fault) (old new : Book) (was : List Partition) (p p' : Partition)
    → i ≡ part → part < length was → p ≡ get_or was i p → IsStep p.plain call given p'.plain → p'.places ≡ p.places
    → parts_in new ≡ parts_in old → new.released ≡ old.released → Tries call old new → KeepsBooksBy (made_by part call given) old new → IfErr given (IsCallFault old part p.plain call) → (call ≡ Sync → OnOk given (AllSynced new))
    → Gives part call given old new was (set was i p')
gives_by part i call given old new was p p' e l at step_is places_are parts_are released_are tries_are keeps why sure =
    let here : p ≡ part_at was part = part_read was i part p e l at in
    let there : part_at (set was i p') part ≡ p' = ap (λ n. part_at (set was n p') part) e ∙ get_or-set_same was part p' new_partition l in
    record {
      parts = parts_are;
      released = released_are;
      tries = tries_are;
      books = keeps;
      step = subst (λ (q : Partition). IsStep (part_at was part).plain call given q.plain) (sym there) (subst (λ (q : Partition). IsStep q.plain call given p'.plain) here step_is);
      places = ap (λ (q : Partition). q.places) there ∙ places_are ∙ ap (λ (q : Partition). q.places) here;
      others = λ other h. get_or-set_other was i other p' new_partition (λ same. h (same ∙ e));
      fault = subst (λ (q : Partition). IfErr given (IsCallFault old part q.plain call)) here why;
      synced = sure;
    }

-- the log did so, and the partitions are as before, after a fault
pub gives_none : (part : ℕ) (call : Call) (f : Fault) (old new : Book) (was : List Partition)
    → parts_in new ≡ parts_in old → new.released ≡ old.released → Tries call old new → KeepsBooksBy (made_by part call (Err f)) old new → IsCallFault old part (part_at was part).plain call f
    → Gives part call (Err f) old new was was
gives_none part call f old new was parts_are released_are tries_are keeps why =
    record {
      parts = parts_are;
      released = released_are;
      tries = tries_are;
      books = keeps;
      step = refl;
      places = refl;
      others = λ other h. refl;
      fault = why;
      synced = λ e. tt;
    }

-- ---- nothing is entered

pub books_by_none : (entries : List Entry) (old new : Book) → entries ≡ [] → KeepsBooks old new → KeepsBooksBy entries old new
books_by_none entries old new none keeps basis list b = subst (λ (es : List Entry). Books basis es new) (sym (append-nil list) ∙ ap (λ (es : List Entry). list ++ es) (sym none)) (keeps basis list b)

pub reach_by_none : (entries : List Entry) (old new : Book) (view view' : View) → entries ≡ [] → KeepsReach old new view view' → KeepsReachBy entries old new view view'
reach_by_none entries old new view view' none keeps basis list time reach b r =
    subst (λ (es : List Entry). Reaches basis es time reach new view') (sym (append-nil list) ∙ ap (λ (es : List Entry). list ++ es) (sym none)) (keeps basis list time reach b r)

pub err_makes_none : (part : ℕ) (call : Call) (f : Fault) → made_by part call (Err f) ≡ []
err_makes_none part (Set key doc) f = refl
err_makes_none part (Del key) f = refl
err_makes_none part (Get key) f = refl
err_makes_none part (Feed epoch after limit) f = refl
err_makes_none part Mark f = refl
err_makes_none part (Forget mark) f = refl
err_makes_none part (Rollback to) f = refl
err_makes_none part Clear f = refl
err_makes_none part Sync f = refl
err_makes_none part (Compact through) f = refl
err_makes_none part Stats f = refl

pub read_makes_none : (part : ℕ) (call : Call) (given : Result Reply Fault) → is_read call ≡ true → made_by part call given ≡ []
read_makes_none part (Set key doc) given r = absurd cc
read_makes_none part (Del key) given r = absurd cc
read_makes_none part (Get key) given r = refl
read_makes_none part (Feed epoch after limit) given r = refl
read_makes_none part Mark given r = refl
read_makes_none part (Forget mark) given r = refl
read_makes_none part (Rollback to) given r = refl
read_makes_none part Clear given r = refl
read_makes_none part Sync given r = refl
read_makes_none part (Compact through) given r = refl
read_makes_none part Stats given r = refl

-- ---- a call that reads

read_fault : (book : Book) (part : ℕ) (s : State) (call : Call) (f : Fault) → is_read call ≡ true → f ≡ NoMemory → IsCallFault book part s call f
read_fault book part s (Set key doc) f r e = absurd cc
read_fault book part s (Del key) f r e = absurd cc
read_fault book part s (Get key) f r e = e
read_fault book part s (Feed epoch after limit) f r e = e
read_fault book part s Mark f r e = e
read_fault book part s (Forget mark) f r e = e
read_fault book part s (Rollback to) f r e = e
read_fault book part s Clear f r e = e
read_fault book part s Sync f r e = absurd cc
read_fault book part s (Compact through) f r e = e
read_fault book part s Stats f r e = e

read_faults : (book : Book) (part : ℕ) (s : State) (call : Call) (given : Result Reply Fault) → is_read call ≡ true → IfErr given (λ f. f ≡ NoMemory) → IfErr given (IsCallFault book part s call)
read_faults book part s call (Ok reply) r why = tt
read_faults book part s call (Err f) r why = read_fault book part s call f r why

no_sync : (call : Call) → is_read call ≡ true → call ≡ Sync → ⊥
no_sync call r e = let other : is_read Sync ≡ true = ap is_read (sym e) ∙ r in absurd cc

read_tries : (call : Call) (book : Book) → is_read call ≡ true → Tries call book book
read_tries (Set key doc) book r = absurd cc
read_tries (Del key) book r = absurd cc
read_tries (Get key) book r = (refl, refl)
read_tries (Feed epoch after limit) book r = (refl, refl)
read_tries Mark book r = (refl, refl)
read_tries (Forget mark) book r = (refl, refl)
read_tries (Rollback to) book r = (refl, refl)
read_tries Clear book r = (refl, refl)
read_tries Sync book r = absurd cc
read_tries (Compact through) book r = (refl, refl)
read_tries Stats book r = (refl, refl)

pub read_gives : (part i : ℕ) (call : Call) (given : Result Reply Fault) (book : Book) (was : List Partition) (p p' : Partition)
    → i ≡ part → part < length was → p ≡ get_or was i p → is_read call ≡ true → IsStep p.plain call given p'.plain → p'.places ≡ p.places → IfErr given (λ f. f ≡ NoMemory)
    → Gives part call given book book was (set was i p')
read_gives part i call given book was p p' e l at r step_is places_are why =
    gives_by part i call given book book was p p' e l at step_is places_are refl refl (read_tries call book r) (books_by_none (made_by part call given) book book (read_makes_none part call given r) (λ basis list b. b))
    (read_faults book part p.plain call given r why) (λ sync. absurd (no_sync call r sync))

-- ---- a change

change_fault : (book : Book) (part : ℕ) (s : State) (what : Change) (f : Fault) → IsServed (call_for what) → IsChangeFault book part s (call_for what) f → IsCallFault book part s (call_for what) f
change_fault book part s (change.Set key doc) f k why = why
change_fault book part s (change.Del key) f k why = why
change_fault book part s change.Mark f k why = absurd k
change_fault book part s (change.Forget mark) f k why = absurd k
change_fault book part s (change.Back mark) f k why = absurd k
change_fault book part s change.Clear f k why = absurd k

pub change_makes : (part : ℕ) (what : Change) (reply : Reply) → IsServed (call_for what) → made_by part (call_for what) (Ok reply) ≡ (part, what) ∷ []
change_makes part (change.Set key doc) reply k = refl
change_makes part (change.Del key) reply k = refl
change_makes part change.Mark reply k = absurd k
change_makes part (change.Forget mark) reply k = absurd k
change_makes part (change.Back mark) reply k = absurd k
change_makes part change.Clear reply k = absurd k

change_is_no_sync : (what : Change) → call_for what ≡ Sync → ⊥
change_is_no_sync (change.Set key doc) e = absurd cc
change_is_no_sync (change.Del key) e = absurd cc
change_is_no_sync change.Mark e = absurd cc
change_is_no_sync (change.Forget mark) e = absurd cc
change_is_no_sync (change.Back mark) e = absurd cc
change_is_no_sync change.Clear e = absurd cc

change_tries : (what : Change) (old new : Book) → new.newest ≡ old.newest → new.reach ≡ old.reach → Tries (call_for what) old new
change_tries (change.Set key doc) old new newest reach = (newest, reach)
change_tries (change.Del key) old new newest reach = (newest, reach)
change_tries change.Mark old new newest reach = (newest, reach)
change_tries (change.Forget mark) old new newest reach = (newest, reach)
change_tries (change.Back mark) old new newest reach = (newest, reach)
change_tries change.Clear old new newest reach = (newest, reach)

-- nothing was reserved
pub unreserved_gives : (part : ℕ) (what : Change) (f : Fault) (old new : Book) (was : List Partition) → IsServed (call_for what) → HasRoom (part_at was part).plain (call_for what) → new ≡ old → KeepsBooks old new → (f ≡ NoMemory) ⊎ IsWorn old part f
    → Gives part (call_for what) (Err f) old new was was
unreserved_gives part what f old new was k room same keeps why =
    gives_none part (call_for what) f old new was (ap parts_in same) (ap (λ (b : Book). b.released) same) (change_tries what old new (ap (λ (b : Book). b.newest) same) (ap (λ (b : Book). b.reach) same)) (books_by_none (made_by part (call_for what) (Err f)) old new (err_makes_none part (call_for what) f) keeps)
    (change_fault old part (part_at was part).plain what f k (kinds why))
  where
    kinds : (f ≡ NoMemory) ⊎ IsWorn old part f → IsChangeFault old part (part_at was part).plain (call_for what) f
    kinds (inl e) = inl e
    kinds (inr w) = inr (inr (room, w))

-- a record is reserved, and the change was not made
pub unmade_gives : (part i : ℕ) (what : Change) (f : Fault) (old new : Book) (was : List Partition) (p p' : Partition)
    → i ≡ part → part < length was → p ≡ get_or was i p → IsServed (call_for what) → IsStep p.plain (call_for what) (Err f) p'.plain → p'.places ≡ p.places
    → new ≡ after_reserve (part, what) old → KeepsBooks old new → f ≡ NoMemory → Gives part (call_for what) (Err f) old new was (set was i p')
unmade_gives part i what f old new was p p' e l at k step_is places_are staged keeps why =
    gives_by part i (call_for what) (Err f) old new was p p' e l at step_is places_are (ap parts_in staged) (ap (λ (b : Book). b.released) staged) (change_tries what old new (ap (λ (b : Book). b.newest) staged) (ap (λ (b : Book). b.reach) staged))
    (books_by_none (made_by part (call_for what) (Err f)) old new (err_makes_none part (call_for what) f) keeps) (change_fault old part p.plain what f k (inl why)) (λ sync. tt)

module _ (part : ℕ) (what : Change) (old mid new : Book) (staged : mid ≡ after_reserve (part, what) old) (next : IsNextOf old (part, what)) where
  staged_mid : mid.staged ≡ Some (staged_of mid (part, what))
  staged_mid = subst (λ (b : Book). b.staged ≡ Some (staged_of b (part, what))) (sym staged) refl

  next_mid : IsNextOf mid (part, what)
  next_mid = subst (λ (b : Book). IsNextOf b (part, what)) (sym staged) next

  -- the record was reserved, and then pushed
  pub made_books : (reply : Reply) → IsServed (call_for what) → KeepsBooks old mid → ((e : Entry) → mid.staged ≡ Some (staged_of mid e) → IsNextOf mid e → KeepsBooksWith e mid new) → KeepsBooksBy (made_by part (call_for what) (Ok reply)) old new
  made_books reply k reserved pushed basis list b =
      subst (λ (es : List Entry). Books basis (list ++ es) new) (sym (change_makes part what reply k)) (pushed (part, what) staged_mid next_mid basis list (reserved basis list b))

  pub made_reach : (reply : Reply) (view mid_view view' : View) → IsServed (call_for what) → KeepsBooks old mid → KeepsReach old mid view mid_view
      → ((e : Entry) → mid.staged ≡ Some (staged_of mid e) → IsNextOf mid e → KeepsReachWith e mid new mid_view view') → KeepsReachBy (made_by part (call_for what) (Ok reply)) old new view view'
  made_reach reply view mid_view view' k books reserved pushed basis list time reach b r =
      subst (λ (es : List Entry). Reaches basis (list ++ es) time reach new view') (sym (change_makes part what reply k)) (pushed (part, what) staged_mid next_mid basis list time reach (books basis list b) (reserved basis list time reach b r))

  pub pushed_released : ((e : Entry) → mid.staged ≡ Some (staged_of mid e) → new ≡ after_push e mid) → new.released ≡ old.released
  pushed_released book = ap (λ (b : Book). b.released) (book (part, what) staged_mid) ∙ ap (λ (b : Book). b.released) staged

  pub pushed_tries : ((e : Entry) → mid.staged ≡ Some (staged_of mid e) → new ≡ after_push e mid) → Tries (call_for what) old new
  pushed_tries book =
      let pushed = book (part, what) staged_mid in
      change_tries what old new (ap (λ (b : Book). b.newest) pushed ∙ ap (λ (b : Book). b.newest) staged) (ap (λ (b : Book). b.reach) pushed ∙ ap (λ (b : Book). b.reach) staged)

pub made_gives : (part i : ℕ) (what : Change) (reply : Reply) (old mid new : Book) (was : List Partition) (p p' : Partition)
    → i ≡ part → part < length was → p ≡ get_or was i p → IsServed (call_for what) → IsStep p.plain (call_for what) (Ok reply) p'.plain → p'.places ≡ p.places
    → mid ≡ after_reserve (part, what) old → IsNextOf old (part, what) → KeepsBooks old mid → parts_in new ≡ parts_in mid
    → ((e : Entry) → mid.staged ≡ Some (staged_of mid e) → new ≡ after_push e mid) → ((e : Entry) → mid.staged ≡ Some (staged_of mid e) → IsNextOf mid e → KeepsBooksWith e mid new)
    → Gives part (call_for what) (Ok reply) old new was (set was i p')
made_gives part i what reply old mid new was p p' e l at k step_is places_are staged next reserved parts_are book pushed =
    gives_by part i (call_for what) (Ok reply) old new was p p' e l at step_is places_are (parts_are ∙ ap parts_in staged) (pushed_released part what old mid new staged next book)
    (pushed_tries part what old mid new staged next book)
    (made_books part what old mid new staged next reply k reserved pushed) tt (λ sync. absurd (change_is_no_sync what sync))

-- a call that a store serves, and neither reads nor writes, is a sync
pub is_sync : (call : Call) → IsServed call → is_read call ≡ false → IsNoWrite call → call ≡ Sync
is_sync (Set key doc) k r n = absurd n
is_sync (Del key) k r n = absurd n
is_sync (Get key) k r n = absurd cc
is_sync (Feed epoch after limit) k r n = absurd cc
is_sync Mark k r n = absurd k
is_sync (Forget mark) k r n = absurd k
is_sync (Rollback to) k r n = absurd k
is_sync Clear k r n = absurd k
is_sync Sync k r n = refl
is_sync (Compact through) k r n = absurd k
is_sync Stats k r n = absurd cc
