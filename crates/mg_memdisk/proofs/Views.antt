-- What one event more means for a volume in memory.
use Rattle.std.proofs.Common.{◌≡◌, ◌≢◌, ◌⊎◌, ◌&&◌, inl, inr, ℕ, Bool, true, false, not, List, [], ◌∷◌, ◌++◌, take, drop, refl, sym, ◌∙◌, ap, subst, cond, take-append-drop}
use Rattle.std.proofs.lemmas.List.Sums.{fold-append}
use Rattle.std.specs.Prelude.{◌↔◌, Option, Some, None, is_some, IsSome, IfSome, Result, Ok, Err, OnOk, OnErr, IfOk, Vec}
use Rattle.std.specs.List.{Contains, fold}
use Rattle.std.specs.declared.alloc.Global.{Global}
use Rattle.mg_types.specs.declared.names.Name.{Name}
use Rattle.mg_disk.specs.Files.{extended}
use Rattle.mg_disk.specs.Images.{Image, View, Stays, NameSet, NameInDoubt, Appended, Settled, Synced}
use Rattle.mg_memdisk.specs.declared.bytes.Bytes.{Bytes}
use Rattle.mg_memdisk.specs.declared.events.Event.{Event}
use Rattle.mg_memdisk.specs.declared.events.Event.TheVariants.{Put, MayPut, Append, Sync}
use Rattle.mg_memdisk.specs.declared.volumes.MemLog.{MemLog}
use Rattle.mg_memdisk.specs.declared.volumes.MemVolume.{MemVolume}
use Rattle.mg_memdisk.specs.Events.{same_name, is_file, nothing, kept, value_bytes, held, opens, view_of}
use Rattle.mg_memdisk.specs.Volumes.{mem_found, mem_recent, mem_view, mem_open, mem_stands, mem_log_name, Pushes, Untouched, PutsBehind}
use Rattle.mg_memdisk.specs.SameNames.{same_is, same_self, other_name}
use Rattle.mg_memdisk.specs.Holding.{Shared, open_log, none_open}
use Rattle.mg_memdisk.proofs.Pushed.{stays_self, pushed_put, pushed_may, pushed_append, pushed_sync, contents_push}

-- all events at once give the contents
pub all_contents : (v : MemVolume) → fold held nothing v.events.items ≡ (mem_view v).contents
all_contents v = ap (fold held nothing) (sym (take-append-drop v.settled v.events.items)) ∙ fold-append held nothing (take v.settled v.events.items) (drop v.settled v.events.items)

pushed : (e : Event) (v w : MemVolume) → Pushes e v w → view_of (mem_found v) (mem_recent v ++ e ∷ []) ≡ mem_view w
pushed e v w p i = view_of (sym p.found i) (sym p.recent i)

untouched : (v w : MemVolume) → Untouched v w → mem_view v ≡ mem_view w
untouched v w u i = view_of (sym u.found i) (sym u.recent i)

pub view_stays : (v w : MemVolume) → Untouched v w → Stays (mem_view v) (mem_view w)
view_stays v w u = subst (Stays (mem_view v)) (untouched v w u) (stays_self (mem_found v) (mem_recent v))

pub view_put : (v w : MemVolume) (name : Name) (value : Option Shared) → Pushes (Put name value) v w → NameSet name (value_bytes value) (mem_view v) (mem_view w)
view_put v w name value p = subst (NameSet name (value_bytes value) (mem_view v)) (pushed _ v w p) (pushed_put (mem_found v) (mem_recent v) name value)

pub view_doubt : (v w : MemVolume) (name : Name) (value : Option Shared) (shown : Bool) → Untouched v w ⊎ Pushes (MayPut name value shown) v w → NameInDoubt name (value_bytes value) (mem_view v) (mem_view w)
view_doubt v w name value shown (inl u) = let s = view_stays v w u in record { time = s.time; contents = inl s.contents; written = s.written; images = λ c left. inl (s.images c left) }
view_doubt v w name value shown (inr p) = subst (NameInDoubt name (value_bytes value) (mem_view v)) (pushed _ v w p) (pushed_may (mem_found v) (mem_recent v) name value shown)

pub view_sync : (v w : MemVolume) (name : Name) → Pushes (Sync name) v w → Synced name (mem_view v) (mem_view w)
view_sync v w name p = subst (Synced name (mem_view v)) (pushed _ v w p) (pushed_sync (mem_found v) (mem_recent v) name)

-- a log in writing is there, and its name is not that of a file
pub open_there : (v : MemVolume) (name : Name) → mem_open v name ≡ true → ((log : List ℕ) × ((mem_view v).contents name ≡ Some log)) × (is_file name ≡ false)
open_there v name now = open_log (mem_found v) (λ n. false) (mem_recent v) (none_open (mem_found v)) name now

pub view_append : (v w : MemVolume) (name : Name) (bytes : Bytes) → mem_open v name ≡ true → Pushes (Append name bytes) v w → Appended name (kept bytes) (mem_view v) (mem_view w)
view_append v w name bytes now p =
    let there = open_there v name now in
    subst (Appended name (kept bytes) (mem_view v)) (pushed _ v w p) (pushed_append (mem_found v) (mem_recent v) name bytes there.0.0 there.0.1 there.1)

-- which logs are in writing
open_push : (e : Event) (v w : MemVolume) → Pushes e v w → (name : Name) → mem_open w name ≡ opens (mem_open v) e name
open_push e v w p name = ap (λ (l : List Event). fold opens (λ n. false) l name) p.recent ∙ ap (λ (f : Name → Bool). f name) (fold-append opens (λ n. false) (mem_recent v) (e ∷ []))

pub open_same : (v w : MemVolume) → Untouched v w → (name : Name) → mem_open w name ≡ mem_open v name
open_same v w u name = ap (λ (l : List Event). fold opens (λ n. false) l name) u.recent

pub open_put_at : (v w : MemVolume) (name : Name) (value : Option Shared) → Pushes (Put name value) v w → mem_open w name ≡ (is_some value && not (is_file name))
open_put_at v w name value p = open_push _ v w p name ∙ ap (λ (t : Bool). cond t (is_some value && not (is_file name)) (mem_open v name)) (same_self name)

pub open_put_else : (v w : MemVolume) (name : Name) (value : Option Shared) → Pushes (Put name value) v w → (other : Name) → other ≢ name → mem_open w other ≡ mem_open v other
open_put_else v w name value p other ne = open_push _ v w p other ∙ ap (λ (t : Bool). cond t (is_some value && not (is_file name)) (mem_open v other)) (other_name other name ne)

pub open_may_else : (v w : MemVolume) (name : Name) (value : Option Shared) (shown : Bool) → Untouched v w ⊎ Pushes (MayPut name value shown) v w → (other : Name) → other ≢ name → mem_open w other ≡ mem_open v other
open_may_else v w name value shown (inl u) other ne = open_same v w u other
open_may_else v w name value shown (inr p) other ne = open_push _ v w p other ∙ ap (λ (t : Bool). cond t false (mem_open v other)) (other_name other name ne)

pub open_append : (v w : MemVolume) (name : Name) (bytes : Bytes) → Pushes (Append name bytes) v w → (other : Name) → mem_open w other ≡ mem_open v other
open_append v w name bytes p other = open_push _ v w p other

pub open_sync : (v w : MemVolume) (name : Name) → Pushes (Sync name) v w → (other : Name) → mem_open w other ≡ mem_open v other
open_sync v w name p other = open_push _ v w p other

-- a name of a file is never that of a log in writing
file_closed : (v : MemVolume) (name : Name) → is_file name ≡ true → mem_open v name ≡ false
file_closed v name file = by_case (mem_open v name) refl
  where
    by_case : (t : Bool) → mem_open v name ≡ t → mem_open v name ≡ false
    by_case true e = let there = open_there v name e in absurd (apart file there.1)
      where
        apart : is_file name ≡ true → is_file name ≡ false → ⊥
        apart is isnt = cc
    by_case false e = e

pub open_file : (v w : MemVolume) (name : Name) → is_file name ≡ true → mem_open w name ≡ mem_open v name
open_file v w name file = file_closed w name file ∙ sym (file_closed v name file)

-- the bytes of files
pub stands_contents : (v w : MemVolume) (name : Name) → (mem_view w).contents name ≡ (mem_view v).contents name → mem_stands w name ≡ mem_stands v name
stands_contents v w name same = ap (λ (o : Option (List ℕ)). cond (is_file name) o None) same

pub stands_append : (v w : MemVolume) (name : Name) (bytes : Bytes) → mem_open v name ≡ true → Pushes (Append name bytes) v w → (other : Name) → mem_stands w other ≡ mem_stands v other
stands_append v w name bytes now p other =
    let image = fold held (mem_found v) (mem_recent v) in
    let new : (mem_view w).contents other ≡ held image (Append name bytes) other = ap (λ (u : View). u.contents other) (sym (pushed _ v w p)) ∙ ap (λ (i : Image). i other) (contents_push (mem_found v) (mem_recent v) (Append name bytes)) in
    ap (λ (o : Option (List ℕ)). cond (is_file other) o None) new ∙ by_case (same_name other name) refl
  where
    by_case : (t : Bool) → same_name other name ≡ t → cond (is_file other) (held (fold held (mem_found v) (mem_recent v)) (Append name bytes) other) None ≡ cond (is_file other) (fold held (mem_found v) (mem_recent v) other) None
    by_case true e = log_at (ap is_file (same_is other name e) ∙ (open_there v name now).1)
      where
        log_at : is_file other ≡ false → cond (is_file other) (held (fold held (mem_found v) (mem_recent v)) (Append name bytes) other) None ≡ cond (is_file other) (fold held (mem_found v) (mem_recent v) other) None
        log_at isnt = ap (λ (t : Bool). cond t (held (fold held (mem_found v) (mem_recent v)) (Append name bytes) other) None) isnt ∙ sym (ap (λ (t : Bool). cond t (fold held (mem_found v) (mem_recent v) other) None) isnt)
    by_case false e = ap (λ (t : Bool). cond (is_file other) (cond (t && not (is_file name)) (extended (fold held (mem_found v) (mem_recent v) other) (kept bytes)) (fold held (mem_found v) (mem_recent v) other)) None) e

always_none : (t : Bool) → cond {A = Option (List ℕ)} t None None ≡ None
always_none true = refl
always_none false = refl

module _ {T E : Type 0} (v w : MemVolume) (name : Name) where
  pub on_put : (r : Result T E) (value : Option Shared) → OnOk r (Pushes (Put name value) v w) → OnOk r (NameSet name (value_bytes value) (mem_view v) (mem_view w))
  on_put (Ok x) value p = view_put v w name value p
  on_put (Err e) value p = tt

  pub on_same : (r : Result T E) (value : Option Shared) → OnErr r (Untouched v w) → OnErr r (NameInDoubt name (value_bytes value) (mem_view v) (mem_view w))
  on_same (Ok x) value u = tt
  on_same (Err e) value u = view_doubt v w name value false (inl u)

  pub on_gone : (r : Result T E) → OnOk r (NameSet name None (mem_view v) (mem_view w)) → OnOk r (mem_stands w name ≡ None)
  on_gone (Ok x) set = ap (λ (o : Option (List ℕ)). cond (is_file name) o None) set.contents.at ∙ always_none (is_file name)
  on_gone (Err e) set = tt

  -- whatever the push answers, the name is at most in doubt
  pub in_doubt : (r : Result T E) (value : Option Shared) (shown : Bool) → OnOk r (Pushes (MayPut name value shown) v w) → OnErr r (Untouched v w) → NameInDoubt name (value_bytes value) (mem_view v) (mem_view w)
  in_doubt (Ok x) value shown p u = view_doubt v w name value shown (inr p)
  in_doubt (Err e) value shown p u = view_doubt v w name value shown (inl u)

  pub on_sync : (r : Result T E) → OnOk r (Pushes (Sync name) v w) → OnOk r (Synced name (mem_view v) (mem_view w))
  on_sync (Ok x) p = view_sync v w name p
  on_sync (Err e) p = tt

  pub on_behind : (r : Result T E) (b : Bytes) (bytes : List ℕ) → kept b ≡ bytes → OnOk r (Pushes (Append name b) v w) → OnOk r (PutsBehind name bytes v w)
  on_behind (Ok x) b bytes same p = (b, same, p)
  on_behind (Err e) b bytes same p = tt

  pub on_append : (r : Result T E) (bytes : Bytes) → mem_open v name ≡ true → OnOk r (Pushes (Append name bytes) v w) → OnOk r (Appended name (kept bytes) (mem_view v) (mem_view w))
  on_append (Ok x) bytes now p = view_append v w name bytes now p
  on_append (Err e) bytes now p = tt

all_from : (v : MemVolume) (l : List Event) → l ≡ v.events.items → fold held nothing l ≡ (mem_view v).contents
all_from v l same = ap (λ (es : List Event). fold held nothing es) same ∙ all_contents v

pub on_file : (v : MemVolume) (l : List Event) (name : Name) (o : Option (List ℕ)) → l ≡ v.events.items → o ≡ fold held nothing l name → o ≡ (mem_view v).contents name
on_file v l name o same is = is ∙ ap (λ (i : Image). i name) (all_from v l same)

pub on_names : {E : Type 0} (v : MemVolume) (l : List Event) (r : Result (Vec Name Global) E) → l ≡ v.events.items → IfOk r (λ names. (n : Name) → Contains names.items n ↔ IsSome (fold held nothing l n)) → IfOk r (λ names. (n : Name) → Contains names.items n ↔ IsSome ((mem_view v).contents n))
on_names v l r same all = subst (λ (i : Image). IfOk r (λ names. (n : Name) → Contains names.items n ↔ IsSome (i n))) (all_from v l same) all

pub on_log : {T E : Type 0} (v : MemVolume) (l : List Event) (name : Name) (r : Result T E) (fits : T → List ℕ → Type 0) → l ≡ v.events.items → IfOk r (λ x. IfSome (fold held nothing l name) (λ bytes. fits x bytes)) → IfOk r (λ x. IfSome ((mem_view v).contents name) (λ bytes. fits x bytes))
on_log v l name r fits same all = subst (λ (i : Image). IfOk r (λ x. IfSome (i name) (λ bytes. fits x bytes))) (all_from v l same) all

-- where nothing happened since all that was found, a volume is at rest
pub settled_of : (found : Image) (recent : List Event) → recent ≡ [] → Settled {L = MemLog} (view_of found recent) (λ log. fold opens (λ n. false) recent (mem_log_name log))
settled_of found recent none = subst (λ (l : List Event). Settled {L = MemLog} (view_of found l) (λ log. fold opens (λ n. false) l (mem_log_name log))) (sym none) record {
  image = refl;
  only = λ c left. left;
  closed = λ log. refl;
  written = λ name log. refl;
}

pub found_contents : (es : List Event) (k : ℕ) → fold held (fold held nothing (take k es)) (drop k es) ≡ fold held nothing es
found_contents es k = sym (fold-append held nothing (take k es) (drop k es)) ∙ ap (λ (l : List Event). fold held nothing l) (take-append-drop k es)

-- the contents where all that happened counts as found
pub contents_of : (v : MemVolume) (k : ℕ) → fold held (fold held nothing (take k v.events.items)) (drop k v.events.items) ≡ (mem_view v).contents
contents_of v k = found_contents v.events.items k ∙ all_contents v

pub puts_behind_from : {T E : Type 0} (r : Result T E) (u v w : MemVolume) (name : Name) (bytes : List ℕ) → mem_found v ≡ mem_found u → mem_recent v ≡ mem_recent u → OnOk r (PutsBehind name bytes v w) → OnOk r (PutsBehind name bytes u w)
puts_behind_from (Ok x) u v w name bytes found recent (b, same, p) = (b, same, record { found = p.found ∙ found; recent = p.recent ∙ ap (λ l. l ++ Append name b ∷ []) recent })
puts_behind_from (Err e) u v w name bytes found recent p = tt
