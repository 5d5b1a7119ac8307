-- What an event does to what names stand for, and to the logs in writing.
use Rattle.std.proofs.Common.{◌≡◌, ◌⊎◌, ◌&&◌, inl, inr, ℕ, Bool, true, false, not, List, [], ◌∷◌, ◌++◌, refl, ◌∙◌, ap, cond}
use Rattle.std.specs.Prelude.{Option, Some, None, is_some}
use Rattle.std.specs.Arc.{arc_value}
use Rattle.std.specs.List.{fold}
use Rattle.std.specs.declared.sync.Arc.{Arc}
use Rattle.std.specs.declared.alloc.Global.{Global}
use Rattle.mg_types.specs.declared.names.Name.{Name}
use Rattle.mg_disk.specs.Files.{extended}
use Rattle.mg_disk.specs.Images.{Image, Sets}
use Rattle.mg_memdisk.specs.declared.bytes.Bytes.{Bytes}
use Rattle.mg_memdisk.specs.declared.events.Event.{Event}
use Rattle.mg_memdisk.specs.declared.events.Event.TheVariants.{Put, MayPut, Append, Sync}
use Rattle.mg_memdisk.specs.Events.{same_name, is_file, kept, value_bytes, held, opens}
use Rattle.mg_memdisk.specs.SameNames.{same_is, same_self, other_name}

abbrev pub Shared : Type 0
Shared = Arc Bytes Global

pub put_sets : (image : Image) (name : Name) (value : Option Shared) → Sets name (value_bytes value) image (held image (Put name value))
put_sets image name value = record {
  at = ap (λ (t : Bool). cond t (value_bytes value) (image name)) (same_self name);
  elsewhere = λ other ne. ap (λ (t : Bool). cond t (value_bytes value) (image other)) (other_name other name ne);
}

-- reads show the change or not
pub may_sets : (image : Image) (name : Name) (value : Option Shared) (shown : Bool) → (held image (MayPut name value shown) ≡ image) ⊎ Sets name (value_bytes value) image (held image (MayPut name value shown))
may_sets image name value true = inr (put_sets image name value)
may_sets image name value false = inl refl

pub append_sets : (image : Image) (name : Name) (bytes : Bytes) (log : List ℕ) → image name ≡ Some log → is_file name ≡ false → Sets name (Some (log ++ kept bytes)) image (held image (Append name bytes))
append_sets image name bytes log there kind = record {
  at = ap (λ (t : Bool). cond (t && not (is_file name)) (extended (image name) (kept bytes)) (image name)) (same_self name) ∙ ap (λ (t : Bool). cond (not t) (extended (image name) (kept bytes)) (image name)) kind ∙ ap (λ (o : Option (List ℕ)). extended o (kept bytes)) there;
  elsewhere = λ other ne. ap (λ (t : Bool). cond (t && not (is_file name)) (extended (image other) (kept bytes)) (image other)) (other_name other name ne);
}

-- a log in writing is there, and its name is not that of a file
abbrev pub IsOpenLog : Image → (Name → Bool) → Type 0
IsOpenLog image open_now = (name : Name) → open_now name ≡ true → ((log : List ℕ) × (image name ≡ Some log)) × (is_file name ≡ false)

option_some : {T : Type 0} (o : Option T) → is_some o ≡ true → (x : T) × (o ≡ Some x)
option_some None e = absurd (cc)
option_some (Some x) e = (x, refl)

pub both : (a b : Bool) → (a && b) ≡ true → (a ≡ true) × (b ≡ true)
both true b e = (refl, e)
both false b e = absurd (cc)

pub not_is : (a : Bool) → not a ≡ true → a ≡ false
not_is true e = absurd (cc)
not_is false e = refl

pub value_some : (value : Option Shared) → is_some value ≡ true → (log : List ℕ) × (value_bytes value ≡ Some log)
value_some None e = absurd (cc)
value_some (Some bytes) e = (kept (arc_value bytes), refl)

open_put : (image : Image) (open_now : Name → Bool) (name : Name) (value : Option Shared) → IsOpenLog image open_now → (other : Name) (t : Bool) → same_name other name ≡ t
    → cond t (is_some value && not (is_file name)) (open_now other) ≡ true → ((log : List ℕ) × (cond t (value_bytes value) (image other) ≡ Some log)) × (is_file other ≡ false)
open_put image open_now name value before other true same now =
    let parts = both _ _ now in
    (value_some value parts.0, ap is_file (same_is other name same) ∙ not_is _ parts.1)
open_put image open_now name value before other false same now = before other now

open_may : (image : Image) (open_now : Name → Bool) (name : Name) (value : Option Shared) (shown : Bool) → IsOpenLog image open_now → (other : Name) (t : Bool) → cond t false (open_now other) ≡ true
    → ((log : List ℕ) × (cond (shown && t) (value_bytes value) (image other) ≡ Some log)) × (is_file other ≡ false)
open_may image open_now name value shown before other true now = absurd (cc)
open_may image open_now name value true before other false now = before other now
open_may image open_now name value false before other false now = before other now

still_some : (o : Option (List ℕ)) (t : Bool) (more log : List ℕ) → o ≡ Some log → (l : List ℕ) × (cond t (extended o more) o ≡ Some l)
still_some o true more log there = (log ++ more, ap (λ (p : Option (List ℕ)). extended p more) there)
still_some o false more log there = (log, there)

pub open_step : (image : Image) (open_now : Name → Bool) (e : Event) → IsOpenLog image open_now → IsOpenLog (held image e) (opens open_now e)
open_step image open_now (Put name value) before other now = open_put image open_now name value before other (same_name other name) refl now
open_step image open_now (MayPut name value shown) before other now = open_may image open_now name value shown before other (same_name other name) now
open_step image open_now (Append name bytes) before other now =
    let was = before other now in
    (still_some (image other) (same_name other name && not (is_file name)) (kept bytes) was.0.0 was.0.1, was.1)
open_step image open_now (Sync name) before other now = before other now

-- a log in writing is there, and its name is not that of a file
pub open_log : (image : Image) (open_now : Name → Bool) (es : List Event) → IsOpenLog image open_now → IsOpenLog (fold held image es) (fold opens open_now es)
open_log image open_now [] before = before
open_log image open_now (e ∷ es) before = open_log (held image e) (opens open_now e) es (open_step image open_now e before)

pub none_open : (image : Image) → IsOpenLog image (λ name. false)
none_open image name now = absurd (cc)
