-- What the map of standings has after one event more.
use Rattle.std.proofs.Common.{◌≡◌, ◌≢◌, ◌&&◌, ◌<◌, ◌≤◌, ◌+◌, length, take, get_or, ℕ, Bool, true, false, not, List, [], ◌∷◌, ◌++◌, refl, sym, ◌∙◌, ap, subst, cond, arith}
use Rattle.std.proofs.lemmas.Bool.Decides.{nat_tests}
use Rattle.std.proofs.lemmas.List.{take_all, take_more}
use Rattle.std.proofs.lemmas.List.Sums.{fold-append}
use Rattle.std.specs.BTreeMap.{BTreeMap, get}
use Rattle.std.specs.List.{fold}
use Rattle.std.specs.Map.{lookup}
use Rattle.std.specs.Ordering.{is_eq, nat_cmp, ordering_then}
use Rattle.std.specs.Prelude.{Option, Some, Result, Ok, Err, OnOk}
use Rattle.std.specs.declared.cmp.Ordering.{Ordering}
use Rattle.std.specs.declared.cmp.Ordering.TheVariants.{Less, Equal, Greater}
use Rattle.mg_types.specs.Names.{kind_code}
use Rattle.mg_types.specs.declared.names.Name.{Name}
use Rattle.mg_disk.proofs.NameLaws.{name_cmp, name_cmp_parts, name_exact}
use Rattle.mg_disk.specs.Files.{extended}
use Rattle.mg_disk.specs.Images.{Image}
use Rattle.mg_memdisk.specs.declared.events.Event.{Event}
use Rattle.mg_memdisk.specs.declared.events.Event.TheVariants.{Put, MayPut, Append, Sync}
use Rattle.mg_memdisk.specs.declared.standings.Standing.{Standing}
use Rattle.mg_memdisk.specs.Crashes.{name_of, left_at, choice_at, put_at, Picked, picks_at, picks, picked}
use Rattle.mg_memdisk.specs.Events.{same_name, is_file, nothing, kept, value_bytes, held}
use Rattle.mg_memdisk.specs.SameNames.{same_is, same_self, other_name, differs}
use Rattle.mg_memdisk.specs.Standings.{now_of, left_of, now_at, now_in, left_in, Represents, HasPicked}

-- Keys

equal_is : (o : Ordering) → is_eq o ≡ true → o ≡ Equal
equal_is Less e = absurd (cc)
equal_is Equal e = refl
equal_is Greater e = absurd (cc)

nat_self : (n : ℕ) → nat_cmp n n ≡ Equal
nat_self n = grind (arith, nat_tests)

pub key_self : (name : Name) → is_eq (name_cmp name name) ≡ true
key_self name =
    ap is_eq (name_cmp_parts name name) ∙ ap (λ (o : Ordering). is_eq (ordering_then o (nat_cmp name.number name.number))) (nat_self (kind_code name.kind)) ∙ ap is_eq (nat_self name.number)

pub key_other : (name other : Name) → other ≢ name → is_eq (name_cmp name other) ≡ false
key_other name other ne = by_case (is_eq (name_cmp name other)) refl
  where
    by_case : (t : Bool) → is_eq (name_cmp name other) ≡ t → is_eq (name_cmp name other) ≡ false
    by_case true e = absurd (ne (sym (name_exact name other (equal_is _ e))))
    by_case false e = e

-- One event more

held_at : (contents : Image) (e : Event) → held contents e (name_of e) ≡ now_at e (contents (name_of e))
held_at contents (Put name value) = ap (λ (t : Bool). cond t (value_bytes value) (contents name)) (same_self name)
held_at contents (MayPut name value shown) = by_shown shown
  where
    by_shown : (t : Bool) → cond (t && same_name name name) (value_bytes value) (contents name) ≡ cond t (value_bytes value) (contents name)
    by_shown true = ap (λ (t : Bool). cond t (value_bytes value) (contents name)) (same_self name)
    by_shown false = refl
held_at contents (Append name bytes) = ap (λ (t : Bool). cond (t && not (is_file name)) (extended (contents name) (kept bytes)) (contents name)) (same_self name) ∙ by_kind (is_file name)
  where
    by_kind : (t : Bool) → cond (not t) (extended (contents name) (kept bytes)) (contents name) ≡ cond t (contents name) (extended (contents name) (kept bytes))
    by_kind true = refl
    by_kind false = refl
held_at contents (Sync name) = refl

held_else : (contents : Image) (e : Event) (other : Name) → other ≢ name_of e → held contents e other ≡ contents other
held_else contents (Put name value) other ne = ap (λ (t : Bool). cond t (value_bytes value) (contents other)) (other_name other name ne)
held_else contents (MayPut name value shown) other ne = by_shown shown
  where
    by_shown : (t : Bool) → cond (t && same_name other name) (value_bytes value) (contents other) ≡ contents other
    by_shown true = ap (λ (t : Bool). cond t (value_bytes value) (contents other)) (other_name other name ne)
    by_shown false = refl
held_else contents (Append name bytes) other ne = ap (λ (t : Bool). cond (t && not (is_file name)) (extended (contents other) (kept bytes)) (contents other)) (other_name other name ne)
held_else contents (Sync name) other ne = refl

put_there : (name : Name) (value : Option (List ℕ)) (image : Image) → put_at name value image name ≡ value
put_there name value image = ap (λ (t : Bool). cond t value (image name)) (same_self name)

put_else : (name : Name) (value : Option (List ℕ)) (image : Image) (other : Name) → other ≢ name → put_at name value image other ≡ image other
put_else name value image other ne = ap (λ (t : Bool). cond t value (image other)) (other_name other name ne)

abbrev Map : Type 0
Map = BTreeMap Name Standing

-- the map with that standing under the name
abbrev Gets : Map → Name → Standing → Map → Type 0
Gets mid name after new = (other : Name) → get name_cmp new other ≡ cond (is_eq (name_cmp name other)) (Some after) (get name_cmp mid other)

abbrev Keeps : Map → Name → Map → Type 0
Keeps map name mid = (other : Name) → is_eq (name_cmp name other) ≡ false → get name_cmp mid other ≡ get name_cmp map other

module _ (map mid new : Map) (name : Name) (after : Standing) (keeps : Keeps map name mid) (gets : Gets mid name after new) where
  gets_there : get name_cmp new name ≡ Some after
  gets_there = gets name ∙ ap (λ (t : Bool). cond t (Some after) (get name_cmp mid name)) (key_self name)

  gets_else : (other : Name) → other ≢ name → get name_cmp new other ≡ get name_cmp map other
  gets_else other ne = gets other ∙ ap (λ (t : Bool). cond t (Some after) (get name_cmp mid other)) (key_other name other ne) ∙ keeps other (key_other name other ne)

  represents_put : (contents image contents_after image_after : Image) → Represents name_cmp map contents image → now_of after ≡ contents_after name → left_of after ≡ image_after name
      → ((other : Name) → other ≢ name → contents_after other ≡ contents other) → ((other : Name) → other ≢ name → image_after other ≡ image other) → Represents name_cmp new contents_after image_after
  represents_put contents image contents_after image_after old now left else_now else_left = record {
    now = λ other. by_name other (same_name other name) refl;
    left = λ other. by_name_left other (same_name other name) refl;
  }
    where
      by_name : (other : Name) (t : Bool) → same_name other name ≡ t → now_in (get name_cmp new other) ≡ contents_after other
      by_name other true same = subst (λ (n : Name). now_in (get name_cmp new n) ≡ contents_after n) (sym (same_is other name same)) (ap now_in gets_there ∙ now)
      by_name other false same = let ne = differs other name same in ap now_in (gets_else other ne) ∙ old.now other ∙ sym (else_now other ne)

      by_name_left : (other : Name) (t : Bool) → same_name other name ≡ t → left_in (get name_cmp new other) ≡ image_after other
      by_name_left other true same = subst (λ (n : Name). left_in (get name_cmp new n) ≡ image_after n) (sym (same_is other name same)) (ap left_in gets_there ∙ left)
      by_name_left other false same = let ne = differs other name same in ap left_in (gets_else other ne) ∙ old.left other ∙ sym (else_left other ne)

-- what stood under the name was taken out, and something else was put in
pub record Changes {T E : Type 0} (r : Result T E) (map mid new : Map) (name : Name) (standing after : Standing) : Type 0 where
  pub was : now_of standing ≡ now_in (get name_cmp map name)
  pub was_left : left_of standing ≡ left_in (get name_cmp map name)
  pub keeps : Keeps map name mid
  pub gets : OnOk r (Gets mid name after new)

pub at_name : {T E : Type 0} (r : Result T E) (map mid new : Map) (name : Name) (e : Event) (standing after : Standing) → name ≡ name_of e → Changes r map mid new name standing after → Changes r map mid new (name_of e) standing after
at_name r map mid new name e standing after is change = subst (λ (n : Name). Changes r map mid new n standing after) is change

-- an event since all that was found
pub on_happen : {T E : Type 0} (r : Result T E) (map mid new : Map) (e : Event) (standing after : Standing) (choice rest : List ℕ) → Changes r map mid new (name_of e) standing after → now_of after ≡ now_at e (now_of standing) → left_of after ≡ left_at e (now_of standing) (left_of standing) choice → rest ≡ choice_at e (now_of standing) (left_of standing) choice
    → OnOk r ((contents : Image) (p : Picked) → Represents name_cmp map contents p.image → p.choice ≡ choice → HasPicked name_cmp new (held contents e) rest (picks_at contents p e))
on_happen (Err x) map mid new e standing after choice rest change now left after_choice = tt
on_happen (Ok x) map mid new e standing after choice rest change now left after_choice = λ contents p old chosen.
    let name = name_of e in
    let read : now_of standing ≡ contents name = change.was ∙ old.now name in
    let had : left_of standing ≡ p.image name = change.was_left ∙ old.left name in
    let left_is : left_of after ≡ left_at e (contents name) (p.image name) p.choice = left ∙ ap (λ (o : Option (List ℕ)). left_at e o (left_of standing) choice) read ∙ ap (λ (o : Option (List ℕ)). left_at e (contents name) o choice) had ∙ ap (λ (l : List ℕ). left_at e (contents name) (p.image name) l) (sym chosen) in
    record {
      represents = represents_put map mid new name after change.keeps change.gets contents p.image (held contents e) (picks_at contents p e).image old
          (now ∙ ap (λ (o : Option (List ℕ)). now_at e o) read ∙ sym (held_at contents e)) (left_is ∙ sym (put_there name (left_at e (contents name) (p.image name) p.choice) p.image))
          (held_else contents e) (put_else name (left_at e (contents name) (p.image name) p.choice) p.image);
      choice = after_choice ∙ ap (λ (o : Option (List ℕ)). choice_at e o (left_of standing) choice) read ∙ ap (λ (o : Option (List ℕ)). choice_at e (contents name) o choice) had ∙ ap (λ (l : List ℕ). choice_at e (contents name) (p.image name) l) (sym chosen);
    }

-- an event that was found
pub on_find : {T E : Type 0} (r : Result T E) (map mid new : Map) (e : Event) (standing after synced : Standing) → Changes r map mid new (name_of e) standing synced → now_of after ≡ now_at e (now_of standing) → now_of synced ≡ now_of after → left_of synced ≡ now_of after
    → OnOk r ((contents : Image) → Represents name_cmp map contents contents → Represents name_cmp new (held contents e) (held contents e))
on_find (Err x) map mid new e standing after synced change now is_now is_left = tt
on_find (Ok x) map mid new e standing after synced change now is_now is_left = λ contents old.
    let name = name_of e in
    let there : now_of after ≡ held contents e name = now ∙ ap (λ (o : Option (List ℕ)). now_at e o) (change.was ∙ old.now name) ∙ sym (held_at contents e) in
    represents_put map mid new name synced change.keeps change.gets contents contents (held contents e) (held contents e) old (is_now ∙ there) (is_left ∙ there) (held_else contents e) (held_else contents e)

-- one event more, after others
pub picks_push : (contents : Image) (p : Picked) (es : List Event) (e : Event) → picks contents p (es ++ e ∷ []) ≡ picks_at (fold held contents es) (picks contents p es) e
picks_push contents p [] e = refl
picks_push contents p (x ∷ es) e = picks_push (held contents x) (picks_at contents p x) es e

-- a map that names what is there
pub represents_none : (map : Map) → map.entries ≡ [] → Represents name_cmp map nothing nothing
represents_none map none = record {
  now = λ name. ap (λ (es : List (Name × Standing)). now_in (lookup (λ k. is_eq (name_cmp name k)) es)) none;
  left = λ name. ap (λ (es : List (Name × Standing)). left_in (lookup (λ k. is_eq (name_cmp name k)) es)) none;
}

-- what these events make of a map that had only what was found
abbrev pub Happened : Map → Map → List ℕ → List ℕ → List Event → Type 0
Happened start map choice rest es = (found : Image) → Represents name_cmp start found found → HasPicked name_cmp map (fold held found es) rest (picks found (record { image = found; choice = choice }) es)

pub happened_more : (start map new : Map) (choice rest after : List ℕ) (es : List Event) (k : ℕ) (e : Event) → k < length es → e ≡ get_or es k e → Happened start map choice rest (take k es)
    → ((contents : Image) (p : Picked) → Represents name_cmp map contents p.image → p.choice ≡ rest → HasPicked name_cmp new (held contents e) after (picks_at contents p e)) → Happened start new choice after (take (k + 1) es)
happened_more start map new choice rest after es k e lt is so_far step found old =
    let p : Picked = record { image = found; choice = choice } in
    let before = so_far found old in
    let one = step (fold held found (take k es)) (picks found p (take k es)) before.represents (sym before.choice) in
    let contents : HasPicked name_cmp new (fold held found (take k es ++ e ∷ [])) after (picks_at (fold held found (take k es)) (picks found p (take k es)) e) =
    subst (λ (i : Image). HasPicked name_cmp new i after (picks_at (fold held found (take k es)) (picks found p (take k es)) e)) (sym (fold-append held found (take k es) (e ∷ []))) one in
    let image : HasPicked name_cmp new (fold held found (take k es ++ e ∷ [])) after (picks found p (take k es ++ e ∷ [])) =
    subst (λ (q : Picked). HasPicked name_cmp new (fold held found (take k es ++ e ∷ [])) after q) (sym (picks_push found p (take k es) e)) contents in
    subst (λ (l : List Event). HasPicked name_cmp new (fold held found l) after (picks found p l)) (sym (take_more es k e lt ∙ ap (λ (x : Event). take k es ++ x ∷ []) (sym is))) image

pub happened_all : (start map : Map) (choice rest : List ℕ) (es : List Event) (k : ℕ) → length es ≤ k → Happened start map choice rest (take k es)
    → (found : Image) → Represents name_cmp start found found → Represents name_cmp map (fold held found es) (picked found es choice)
happened_all start map choice rest es k le all found old =
    subst (λ (l : List Event). Represents name_cmp map (fold held found l) (picked found l choice)) (take_all k es le) (all found old).represents
