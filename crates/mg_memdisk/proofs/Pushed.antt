-- What one event more means.
use Rattle.std.proofs.Common.{◌≡◌, ◌⊎◌, ◌≤◌, ◌<◌, ◌+◌, inl, inr, ⊎_elim, ℕ, zero, suc, Bool, false, List, [], ◌∷◌, ◌++◌, length, take, refl, sym, ◌∙◌, ap, subst, arith, cond, length-append}
use Rattle.std.specs.Prelude.{Option, Some}
use Rattle.std.specs.List.{fold}
use Rattle.std.proofs.lemmas.List.Sums.{fold-append}
use Rattle.std.proofs.lemmas.List.{take_all}
use Rattle.std.proofs.lemmas.Bool.{cases_lt}
use Rattle.mg_types.specs.declared.names.Name.{Name}
use Rattle.mg_disk.specs.Images.{Image, Elapses, Sets, Grows, Stays, NameSet, NameInDoubt, Appended, Synced, bytes_of}
use Rattle.mg_memdisk.specs.declared.bytes.Bytes.{Bytes}
use Rattle.mg_memdisk.specs.declared.events.Event.{Event}
use Rattle.mg_memdisk.specs.declared.events.Event.TheVariants.{Put, MayPut, Append, Sync}
use Rattle.mg_memdisk.specs.Events.{is_file, kept, value_bytes, held, writes, may_after, leaves, is_image, view_of}
use Rattle.mg_memdisk.specs.Holding.{Shared, put_sets, may_sets, append_sets}
use Rattle.mg_memdisk.specs.SameNames.{same_self, other_name}

pub leaves_push : (before : Image → Type 0) (contents : Image) (es : List Event) (e : Event) → leaves before contents (es ++ e ∷ []) ≡ may_after (leaves before contents es) (fold held contents es) e
leaves_push before contents [] e = refl
leaves_push before contents (x ∷ es) e = leaves_push (may_after before contents x) (held contents x) es e

take_front : {X : Type 0} (k : ℕ) (xs : List X) (x : X) → k ≤ length xs → take k (xs ++ x ∷ []) ≡ take k xs
take_front zero xs x le = refl
take_front (suc k) [] x le = absurd (omega arith)
take_front (suc k) (y ∷ xs) x le = ap (λ l. y ∷ l) (take_front k xs x (omega arith))

module _ (found : Image) (es : List Event) (e : Event) where
  abbrev at : List Event → Image → Type 0
  at l = leaves (is_image found) found l

  split : (t k : ℕ) (c : Image) → t ≤ k → k ≤ length (es ++ e ∷ []) → at (take k (es ++ e ∷ [])) c → (k ≤ length es) ⊎ (length es + 1 ≤ k) → (view_of found es).left_since t c ⊎ (view_of found (es ++ e ∷ [])).may_leave c
  split t k c from to left (inl early) = inl (k, from, early, subst (λ (l : List Event). at l c) (take_front k es e early) left)
  split t k c from to left (inr late) = inr (subst (λ (l : List Event). at l c) (take_all k (es ++ e ∷ []) (omega (arith, late, length-append es (e ∷ [])))) left)

  either : (k : ℕ) → (k ≤ length es) ⊎ (length es + 1 ≤ k)
  either k = ⊎_elim (λ (late : length es < k). inr (omega (arith, late))) (λ (early : k ≤ length es). inl early) (cases_lt (length es) k)

  pub elapses_push : Elapses (view_of found es) (view_of found (es ++ e ∷ []))
  elapses_push = record {
    later = omega (arith, length-append es (e ∷ []));
    nothing_else = λ t c le left. split t left.0 c left.1 left.2 left.3 (either left.0);
    keeps = λ t c le left. (left.0, left.1, omega (arith, left.2, length-append es (e ∷ [])), subst (λ (l : List Event). at l c) (sym (take_front left.0 es e left.2)) left.3);
  }

  pub contents_push : (view_of found (es ++ e ∷ [])).contents ≡ held (view_of found es).contents e
  contents_push = fold-append held found es (e ∷ [])

  pub written_push : (view_of found (es ++ e ∷ [])).written ≡ writes (view_of found es).written e
  written_push = fold-append writes (λ name. bytes_of (found name)) es (e ∷ [])

  pub images_push : (c : Image) → (view_of found (es ++ e ∷ [])).may_leave c → may_after (view_of found es).may_leave (view_of found es).contents e c
  images_push c left = subst (λ (P : Image → Type 0). P c) (leaves_push (is_image found) found es e) left

pub stays_self : (found : Image) (es : List Event) → Stays (view_of found es) (view_of found es)
stays_self found es = record {
  time = record { later = omega arith; nothing_else = λ t c le left. inl left; keeps = λ t c le left. left };
  contents = refl;
  written = refl;
  images = λ c left. left;
}

pub pushed_put : (found : Image) (es : List Event) (name : Name) (value : Option Shared) → NameSet name (value_bytes value) (view_of found es) (view_of found (es ++ Put name value ∷ []))
pushed_put found es name value = record {
  time = elapses_push found es (Put name value);
  contents = subst (λ (i : Image). Sets name (value_bytes value) (fold held found es) i) (sym (contents_push found es (Put name value))) (put_sets (fold held found es) name value);
  written = written_push found es (Put name value);
  images = images_push found es (Put name value);
}

pub pushed_may : (found : Image) (es : List Event) (name : Name) (value : Option Shared) (shown : Bool) → NameInDoubt name (value_bytes value) (view_of found es) (view_of found (es ++ MayPut name value shown ∷ []))
pushed_may found es name value shown = record {
  time = elapses_push found es (MayPut name value shown);
  contents = ⊎_elim (λ same. inl (contents_push found es (MayPut name value shown) ∙ same)) (λ set. inr (subst (λ (i : Image). Sets name (value_bytes value) (fold held found es) i) (sym (contents_push found es (MayPut name value shown))) set)) (may_sets (fold held found es) name value shown);
  written = written_push found es (MayPut name value shown);
  images = images_push found es (MayPut name value shown);
}

pub pushed_sync : (found : Image) (es : List Event) (name : Name) → Synced name (view_of found es) (view_of found (es ++ Sync name ∷ []))
pushed_sync found es name = record {
  time = elapses_push found es (Sync name);
  contents = contents_push found es (Sync name);
  written = written_push found es (Sync name);
  images = images_push found es (Sync name);
}

pub pushed_append : (found : Image) (es : List Event) (name : Name) (bytes : Bytes) (log : List ℕ) → (view_of found es).contents name ≡ Some log → is_file name ≡ false → Appended name (kept bytes) (view_of found es) (view_of found (es ++ Append name bytes ∷ []))
pushed_append found es name bytes log there kind =
    let e = Append name bytes in
    let was = fold held found es in
    let wrote = fold writes (λ name. bytes_of (found name)) es in
    record {
      time = elapses_push found es e;
      log = log;
      found = there;
      contents = subst (λ (i : Image). Sets name (Some (log ++ kept bytes)) was i) (sym (contents_push found es e)) (append_sets was name bytes log there kind);
      at = ap (λ (w : Name → List ℕ). w name) (written_push found es e) ∙ ap (λ (t : Bool). cond t (wrote name ++ kept bytes) (wrote name)) (same_self name);
      elsewhere = λ other ne. ap (λ (w : Name → List ℕ). w other) (written_push found es e) ∙ ap (λ (t : Bool). cond t (wrote other ++ kept bytes) (wrote other)) (other_name other name ne);
      images = λ c left. let from = images_push found es e c left in (from.0, from.1, subst (λ (o : Option (List ℕ)). Grows name (length (bytes_of o ++ kept bytes)) from.0 c) there from.2);
    }
