-- What holds of every view of a volume in memory.
use Rattle.std.proofs.Common.{◌≡◌, ◌≤◌, ◌<◌, ◌^◌, ◌⊎◌, ◌&&◌, inl, inr, ℕ, Bool, true, false, not, List, [], ◌∷◌, ◌++◌, length, take, subst, sym, ◌∙◌, ap, refl, cond, arith}
use Rattle.std.proofs.lemmas.List.{take_all}
use Rattle.std.proofs.lemmas.List.Elements.{All-append}
use Rattle.std.specs.Prelude.{Option, Some, None}
use Rattle.std.specs.Arc.{arc_value}
use Rattle.std.specs.List.{fold}
use Rattle.std.specs.declared.sync.Arc.{Arc}
use Rattle.std.specs.declared.alloc.Global.{Global}
use Rattle.mg_types.specs.Bytes.{AreBytes}
use Rattle.mg_types.specs.declared.names.Name.{Name}
use Rattle.mg_disk.specs.Files.{extended}
use Rattle.mg_disk.specs.Images.{Image, HoldsBytes, Sets, Grows, bytes_of}
use Rattle.mg_memdisk.specs.declared.bytes.Bytes.{Bytes}
use Rattle.mg_memdisk.specs.declared.events.Event.{Event}
use Rattle.mg_memdisk.specs.declared.events.Event.TheVariants.{Put, MayPut, Append, Sync}
use Rattle.mg_memdisk.specs.declared.volumes.MemVolume.{MemVolume}
use Rattle.mg_memdisk.specs.Crashes.{is_open_for, are_open}
use Rattle.mg_memdisk.specs.Holding.{IsOpenLog, both, open_step, none_open, put_sets, may_sets, append_sets}
use Rattle.mg_memdisk.specs.Events.{same_name, is_file, nothing, kept, value_bytes, held, opens, may_after, leaves, is_image}
use Rattle.mg_memdisk.specs.SameNames.{same_is, differs}
use Rattle.mg_memdisk.specs.Volumes.{mem_found, mem_recent, mem_view}

-- this moment is one of those since an earlier one
pub view_counts_now : (volume : MemVolume) (t : ℕ) (c : Image) → t ≤ (mem_view volume).moment → (mem_view volume).may_leave c → (mem_view volume).left_since t c
view_counts_now volume t c before now =
    let es = mem_recent volume in
    (length es, before, omega arith, subst (λ (l : List Event). leaves (is_image (mem_found volume)) (mem_found volume) l c) (sym (take_all (length es) es (omega arith))) now)

-- since this moment there is no other
pub view_only_now : (volume : MemVolume) (c : Image) → (mem_view volume).left_since (mem_view volume).moment c → (mem_view volume).may_leave c
view_only_now volume c left =
    let es = mem_recent volume in
    subst (λ (l : List Event). leaves (is_image (mem_found volume)) (mem_found volume) l c) (take_all left.0 es left.1) left.3

-- what a name stands for are bytes
abbrev pub HasBytes : Option (List ℕ) → Type 0
HasBytes value = (bytes : List ℕ) → value ≡ Some bytes → AreBytes bytes

none_bytes : HasBytes None
none_bytes bytes is = absurd (cc)

some_bytes : (list : List ℕ) → AreBytes list → HasBytes (Some list)
some_bytes list all bytes is = let same : list ≡ bytes = cc in subst AreBytes same all

value_are_bytes : (value : Option (Arc Bytes Global)) → HasBytes (value_bytes value)
value_are_bytes None = none_bytes
value_are_bytes (Some bytes) = some_bytes _ (arc_value bytes).are_bytes

extended_bytes : (o : Option (List ℕ)) (more : List ℕ) → HasBytes o → AreBytes more → HasBytes (extended o more)
extended_bytes None more old new = none_bytes
extended_bytes (Some list) more old new = some_bytes _ (All-append (λ byte. byte < 2 ^ 8) list more (old list refl) new)

either_bytes : (t : Bool) (a b : Option (List ℕ)) → HasBytes a → HasBytes b → HasBytes (cond t a b)
either_bytes true a b one other = one
either_bytes false a b one other = other

held_bytes : (image : Image) (e : Event) → HoldsBytes image → HoldsBytes (held image e)
held_bytes image (Put name value) old other = either_bytes (same_name other name) (value_bytes value) (image other) (value_are_bytes value) (old other)
held_bytes image (MayPut name value shown) old other = either_bytes (shown && same_name other name) (value_bytes value) (image other) (value_are_bytes value) (old other)
held_bytes image (Append name bytes) old other = either_bytes (same_name other name && not (is_file name)) (extended (image other) (kept bytes)) (image other) (extended_bytes (image other) (kept bytes) (old other) bytes.are_bytes) (old other)
held_bytes image (Sync name) old other = old other

all_held_bytes : (image : Image) (es : List Event) → HoldsBytes image → HoldsBytes (fold held image es)
all_held_bytes image [] old = old
all_held_bytes image (e ∷ es) old = all_held_bytes (held image e) es (held_bytes image e old)

sets_bytes : (name : Name) (value : Option (List ℕ)) (d c : Image) → Sets name value d c → HasBytes value → HoldsBytes d → HoldsBytes c
sets_bytes name value d c set at old other = by_case (same_name other name) refl
  where
    by_case : (t : Bool) → same_name other name ≡ t → HasBytes (c other)
    by_case true same = subst HasBytes (sym set.at ∙ ap c (sym (same_is other name same))) at
    by_case false same = subst HasBytes (sym (set.elsewhere other (differs other name same))) (old other)

after_bytes : (before : Image → Type 0) (contents : Image) (e : Event) → ((d : Image) → before d → HoldsBytes d) → HoldsBytes contents → (c : Image) → may_after before contents e c → HoldsBytes c
after_bytes before contents (Put name value) old now c (d, was, set) = sets_bytes name (value_bytes value) d c set (value_are_bytes value) (old d was)
after_bytes before contents (MayPut name value shown) old now c (inl was) = old c was
after_bytes before contents (MayPut name value shown) old now c (inr (d, was, set)) = sets_bytes name (value_bytes value) d c set (value_are_bytes value) (old d was)
after_bytes before contents (Append name bytes) old now c (d, was, grown) =
    sets_bytes name _ d c grown.after (some_bytes _ (All-append (λ byte. byte < 2 ^ 8) grown.front grown.behind (old d was name grown.front grown.before) grown.are_bytes)) (old d was)
after_bytes before contents (Sync name) old now c (d, was, set) = sets_bytes name (contents name) d c set (now name) (old d was)

leaves_bytes : (before : Image → Type 0) (contents : Image) (es : List Event) → ((d : Image) → before d → HoldsBytes d) → HoldsBytes contents → (c : Image) → leaves before contents es c → HoldsBytes c
leaves_bytes before contents [] old now c left = old c left
leaves_bytes before contents (e ∷ es) old now c left = leaves_bytes (may_after before contents e) (held contents e) es (after_bytes before contents e old now) (held_bytes contents e now) c left

found_bytes : (volume : MemVolume) → HoldsBytes (mem_found volume)
found_bytes volume = all_held_bytes nothing (take volume.settled volume.events.items) (λ name. none_bytes)

-- what reads give are bytes
pub contents_hold_bytes : (volume : MemVolume) → HoldsBytes (mem_view volume).contents
contents_hold_bytes volume = all_held_bytes (mem_found volume) (mem_recent volume) (found_bytes volume)

-- so is what a crash might have left
pub images_hold_bytes : (volume : MemVolume) (t : ℕ) (c : Image) → (mem_view volume).left_since t c → HoldsBytes c
images_hold_bytes volume t c left =
    leaves_bytes (is_image (mem_found volume)) (mem_found volume) (take left.0 (mem_recent volume)) (λ d is. subst HoldsBytes (sym is) (found_bytes volume)) (found_bytes volume) c left.3

append_grows : (contents : Image) (name : Name) (bytes : Bytes) (log : List ℕ) → contents name ≡ Some log → is_file name ≡ false
    → Grows name (length (bytes_of (contents name) ++ kept bytes)) contents (held contents (Append name bytes))
append_grows contents name bytes log there kind = record {
  front = log;
  behind = kept bytes;
  before = there;
  after = append_sets contents name bytes log there kind;
  bound = subst (λ (o : Option (List ℕ)). length (log ++ kept bytes) ≤ length (bytes_of o ++ kept bytes)) (sym there) (omega arith);
  are_bytes = bytes.are_bytes;
}

-- an event leaves what reads give after it, where before it a crash could leave what reads gave
held_left : (before : Image → Type 0) (contents : Image) (open_now : Name → Bool) (e : Event) → before contents → IsOpenLog contents open_now → is_open_for open_now e ≡ true → may_after before contents e (held contents e)
held_left before contents open_now (Put name value) was logs opened = (contents, was, put_sets contents name value)
held_left before contents open_now (MayPut name value shown) was logs opened = either (may_sets contents name value shown)
  where
    either : (held contents (MayPut name value shown) ≡ contents) ⊎ Sets name (value_bytes value) contents (held contents (MayPut name value shown)) → may_after before contents (MayPut name value shown) (held contents (MayPut name value shown))
    either (inl same) = inl (subst before (sym same) was)
    either (inr set) = inr (contents, was, set)
held_left before contents open_now (Append name bytes) was logs opened = let there = logs name opened in (contents, was, append_grows contents name bytes there.0.0 there.0.1 there.1)
held_left before contents open_now (Sync name) was logs opened = (contents, was, record { at = refl; elsewhere = λ other ne. refl })

leaves_held : (before : Image → Type 0) (contents : Image) (open_now : Name → Bool) (es : List Event) → before contents → IsOpenLog contents open_now → are_open open_now es ≡ true → leaves before contents es (fold held contents es)
leaves_held before contents open_now [] was logs all = was
leaves_held before contents open_now (e ∷ es) was logs all =
    let parts = both (is_open_for open_now e) (are_open (opens open_now e) es) all in
    leaves_held (may_after before contents e) (held contents e) (opens open_now e) es (held_left before contents open_now e was logs parts.0) (open_step contents open_now e logs) parts.1

-- a crash may leave what reads give
pub view_leaves_contents : (volume : MemVolume) → (mem_view volume).may_leave (mem_view volume).contents
view_leaves_contents volume = leaves_held (is_image (mem_found volume)) (mem_found volume) (λ name. false) (mem_recent volume) refl (none_open (mem_found volume)) volume.logs_open
