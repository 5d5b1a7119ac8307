-- A crash leaves of each log in writing a log that is no longer, and goes on event by event.
use Rattle.std.proofs.Common.{◌≡◌, ◌⊎◌, ◌≤◌, ◌&&◌, inl, inr, ℕ, Bool, true, false, not, List, [], ◌∷◌, ◌++◌, length, drop, refl, sym, ◌∙◌, ap, subst, arith, cond}
use Rattle.std.specs.Prelude.{Option, Some, is_some}
use Rattle.std.specs.List.{fold}
use Rattle.std.proofs.lemmas.List.{drop-append-le}
use Rattle.mg_types.specs.declared.names.Name.{Name}
use Rattle.mg_disk.specs.Files.{extended}
use Rattle.mg_disk.specs.Images.{Image, Sets, Grows, bytes_of}
use Rattle.mg_memdisk.specs.declared.bytes.Bytes.{Bytes}
use Rattle.mg_memdisk.specs.declared.events.Event.{Event}
use Rattle.mg_memdisk.specs.declared.events.Event.TheVariants.{Put, MayPut, Append, Sync}
use Rattle.mg_memdisk.specs.Events.{same_name, is_file, kept, value_bytes, held, opens, may_after, leaves}
use Rattle.mg_memdisk.specs.Crashes.{is_open_for, are_open}
use Rattle.mg_memdisk.specs.SameNames.{same_is, differs}
use Rattle.mg_memdisk.specs.Holding.{Shared, both, not_is, value_some}

-- a crash may leave the second image after an event, where it could leave the first before, and the contents were these
abbrev pub LeftAfter : Image → Event → Image → Image → Type 0
LeftAfter contents (Put name value) d c = Sets name (value_bytes value) d c
LeftAfter contents (MayPut name value shown) d c = (c ≡ d) ⊎ Sets name (value_bytes value) d c
LeftAfter contents (Append name bytes) d c = Grows name (length (bytes_of (contents name) ++ kept bytes)) d c
LeftAfter contents (Sync name) d c = Sets name (contents name) d c

-- the name is that of a log, which is there in the contents and in the image, and in the image is no longer
pub record HasLog (name : Name) (contents image : Image) : Type 0 where
  pub is_log : is_file name ≡ false
  pub log : List ℕ
  pub in_contents : contents name ≡ Some log
  pub front : List ℕ
  pub in_image : image name ≡ Some front
  pub bound : length front ≤ length log

-- an append or a sync has its log
abbrev pub HasItsLog : Image → Image → Event → Type 0
HasItsLog contents image (Put name value) = Unit {0}
HasItsLog contents image (MayPut name value shown) = Unit {0}
HasItsLog contents image (Append name bytes) = HasLog name contents image
HasItsLog contents image (Sync name) = HasLog name contents image

-- each log in writing is there, and in the image no longer
abbrev pub Behind : Image → Image → (Name → Bool) → Type 0
Behind contents image open_now = (name : Name) → open_now name ≡ true → HasLog name contents image

-- a log that is the same in the contents and in the image
same_log : (name : Name) (contents image : Image) (log : List ℕ) → is_file name ≡ false → contents name ≡ Some log → image name ≡ Some log → HasLog name contents image
same_log name contents image log is_log in_contents in_image = record { is_log = is_log; log = log; in_contents = in_contents; front = log; in_image = in_image; bound = omega arith }

-- a log that stays as it was in both
kept_log : (name : Name) (contents image after left : Image) → HasLog name contents image → after name ≡ contents name → left name ≡ image name → HasLog name after left
kept_log name contents image after left has same same_left = record { is_log = has.is_log; log = has.log; in_contents = same ∙ has.in_contents; front = has.front; in_image = same_left ∙ has.in_image; bound = has.bound }

module _ (contents d c : Image) (open_now : Name → Bool) (before : Behind contents d open_now) where
  put_step : (name : Name) (value : Option Shared) → Sets name (value_bytes value) d c → (other : Name) (t : Bool) → same_name other name ≡ t → cond t (is_some value && not (is_file name)) (open_now other) ≡ true
      → HasLog other (held contents (Put name value)) c
  put_step name value set other true same now =
      let parts = both _ _ now in
      let value_is = value_some value parts.0 in
      let is = same_is other name same in
      same_log other _ _ value_is.0 (ap is_file is ∙ not_is _ parts.1) (ap (λ (t : Bool). cond t (value_bytes value) (contents other)) same ∙ value_is.1) (ap c is ∙ set.at ∙ value_is.1)
  put_step name value set other false same now =
      kept_log other contents d _ _ (before other now) (ap (λ (t : Bool). cond t (value_bytes value) (contents other)) same) (set.elsewhere other (differs other name same))

  may_step : (name : Name) (value : Option Shared) (shown : Bool) → (c ≡ d) ⊎ Sets name (value_bytes value) d c → (other : Name) (t : Bool) → same_name other name ≡ t → cond t false (open_now other) ≡ true → HasLog other (held contents (MayPut name value shown)) c
  may_step name value shown left other true same now = absurd (cc)
  may_step name value shown left other false same now = may_other left
    where
      stays : (t : Bool) → cond (t && same_name other name) (value_bytes value) (contents other) ≡ contents other
      stays true = ap (λ (b : Bool). cond b (value_bytes value) (contents other)) same
      stays false = refl

      may_other : (c ≡ d) ⊎ Sets name (value_bytes value) d c → HasLog other (held contents (MayPut name value shown)) c
      may_other (inl is) = kept_log other contents d _ _ (before other now) (stays shown) (ap (λ (i : Image). i other) is)
      may_other (inr set) = kept_log other contents d _ _ (before other now) (stays shown) (set.elsewhere other (differs other name same))

  append_step : (name : Name) (bytes : Bytes) → Grows name (length (bytes_of (contents name) ++ (kept bytes))) d c → (other : Name) (t : Bool) → same_name other name ≡ t → open_now other ≡ true
      → HasLog other (held contents (Append name bytes)) c
  append_step name bytes grown other true same now =
      let has = before other now in
      let is = same_is other name same in
      let is_log : is_file name ≡ false = ap is_file (sym is) ∙ has.is_log in
      let at : contents name ≡ Some has.log = ap contents (sym is) ∙ has.in_contents in
      let most : length (bytes_of (contents name) ++ (kept bytes)) ≡ length (has.log ++ (kept bytes)) = ap (λ (o : Option (List ℕ)). length (bytes_of o ++ (kept bytes))) at in
      record {
        is_log = has.is_log;
        log = has.log ++ (kept bytes);
        in_contents = ap (λ (t : Bool). cond (t && not (is_file name)) (extended (contents other) (kept bytes)) (contents other)) same ∙ ap (λ (t : Bool). cond (not t) (extended (contents other) (kept bytes)) (contents other)) is_log ∙ ap (λ (o : Option (List ℕ)). extended o (kept bytes)) has.in_contents;
        front = grown.front ++ grown.behind;
        in_image = ap c is ∙ grown.after.at;
        bound = subst (λ (n : ℕ). length (grown.front ++ grown.behind) ≤ n) most grown.bound;
      }
  append_step name bytes grown other false same now =
      kept_log other contents d _ _ (before other now) (ap (λ (t : Bool). cond (t && not (is_file name)) (extended (contents other) (kept bytes)) (contents other)) same) (grown.after.elsewhere other (differs other name same))

  sync_step : (name : Name) → Sets name (contents name) d c → (other : Name) (t : Bool) → same_name other name ≡ t → open_now other ≡ true → HasLog other contents c
  sync_step name set other true same now =
      let has = before other now in
      let is = same_is other name same in
      same_log other _ _ has.log has.is_log has.in_contents (ap c is ∙ set.at ∙ ap contents (sym is) ∙ has.in_contents)
  sync_step name set other false same now = kept_log other contents d _ _ (before other now) refl (set.elsewhere other (differs other name same))

  pub behind_step : (e : Event) → LeftAfter contents e d c → Behind (held contents e) c (opens open_now e)
  behind_step (Put name value) left other now = put_step name value left other (same_name other name) refl now
  behind_step (MayPut name value shown) left other now = may_step name value shown left other (same_name other name) refl now
  behind_step (Append name bytes) left other now = append_step name bytes left other (same_name other name) refl now
  behind_step (Sync name) left other now = sync_step name left other (same_name other name) refl now

-- what a crash may leave after an event comes from what it could leave before
pub comes_from : (before : Image → Type 0) (contents : Image) (e : Event) (c : Image) → may_after before contents e c → (d : Image) × before d × LeftAfter contents e d c
comes_from before contents (Put name value) c left = left
comes_from before contents (MayPut name value shown) c (inl was) = (c, was, inl refl)
comes_from before contents (MayPut name value shown) c (inr (d, was, set)) = (d, was, inr set)
comes_from before contents (Append name bytes) c left = left
comes_from before contents (Sync name) c left = left

pub goes_to : (before : Image → Type 0) (contents : Image) (e : Event) (d c : Image) → before d → LeftAfter contents e d c → may_after before contents e c
goes_to before contents (Put name value) d c was left = (d, was, left)
goes_to before contents (MayPut name value shown) d c was (inl is) = inl (subst before (sym is) was)
goes_to before contents (MayPut name value shown) d c was (inr set) = inr (d, was, set)
goes_to before contents (Append name bytes) d c was left = (d, was, left)
goes_to before contents (Sync name) d c was left = (d, was, left)

pub leaves_behind : (before : Image → Type 0) (contents : Image) (open_now : Name → Bool) (es : List Event) → ((d : Image) → before d → Behind contents d open_now)
    → (c : Image) → leaves before contents es c → Behind (fold held contents es) c (fold opens open_now es)
leaves_behind before contents open_now [] behind c left = behind c left
leaves_behind before contents open_now (e ∷ es) behind c left = leaves_behind (may_after before contents e) (held contents e) (opens open_now e) es (λ d may. step d (comes_from before contents e d may)) c left
  where
    step : (d : Image) → (b : Image) × before b × LeftAfter contents e b d → Behind (held contents e) d (opens open_now e)
    step d (b, was, after) = behind_step contents b d open_now (behind b was) e after

pub none_behind : (contents d : Image) → Behind contents d (λ name. false)
none_behind contents d name now = absurd (cc)

-- one event more of a list that goes on being open
pub open_push : (open_now : Name → Bool) (es : List Event) (e : Event) → are_open open_now es ≡ true → is_open_for (fold opens open_now es) e ≡ true → are_open open_now (es ++ e ∷ []) ≡ true
open_push open_now [] e all now = ap (λ (t : Bool). t && true) now
open_push open_now (x ∷ es) e all now =
    let parts = both _ _ all in
    ap (λ (t : Bool). t && are_open (opens open_now x) (es ++ e ∷ [])) parts.0 ∙ open_push (opens open_now x) es e parts.1 now

-- a list of events that goes on, where so many are settled
pub stays_open : (old new : List Event) (s : ℕ) (e : Event) (ok : Bool) → s ≤ length old → are_open (λ name. false) (drop s old) ≡ true → is_open_for (fold opens (λ name. false) (drop s old)) e ≡ true
    → new ≡ cond ok (old ++ e ∷ []) old → are_open (λ name. false) (drop s new) ≡ true
stays_open old new s e true le all now is =
    ap (λ (l : List Event). are_open (λ name. false) (drop s l)) is ∙ ap (λ (l : List Event). are_open (λ name. false) l) (drop-append-le s old (e ∷ []) le) ∙ open_push (λ name. false) (drop s old) e all now
stays_open old new s e false le all now is = ap (λ (l : List Event). are_open (λ name. false) (drop s l)) is ∙ all

pub has_its_log : (contents image : Image) (open_now : Name → Bool) (e : Event) → Behind contents image open_now → is_open_for open_now e ≡ true → HasItsLog contents image e
has_its_log contents image open_now (Put name value) behind now = tt
has_its_log contents image open_now (MayPut name value shown) behind now = tt
has_its_log contents image open_now (Append name bytes) behind now = behind name now
has_its_log contents image open_now (Sync name) behind now = behind name now
