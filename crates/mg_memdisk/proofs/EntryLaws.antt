-- The image that comes of a map's entries, put one by one.
use Rattle.std.proofs.Common.{◌≡◌, ◌<◌, ◌≤◌, ◌+◌, ℕ, Bool, true, false, List, [], ◌∷◌, ◌++◌, length, take, get_or, refl, sym, ◌∙◌, ap, subst, cond}
use Rattle.std.proofs.lemmas.List.{take_all, take_more}
use Rattle.std.proofs.lemmas.List.Sums.{fold-append}
use Rattle.std.specs.BTreeMap.{BTreeMap}
use Rattle.std.specs.List.{fold, AllByRecursion}
use Rattle.std.specs.List.Sorted.{IsStrictlySortedBy}
use Rattle.std.specs.Map.{lookup, keys_of}
use Rattle.std.specs.Ordering.{is_eq}
use Rattle.std.specs.Prelude.{Option, Some, None}
use Rattle.std.specs.declared.cmp.Ordering.{Ordering}
use Rattle.std.specs.declared.cmp.Ordering.TheVariants.{Less}
use Rattle.mg_types.specs.declared.names.Name.{Name}
use Rattle.mg_disk.proofs.NameLaws.{name_cmp}
use Rattle.mg_disk.specs.Images.{Image}
use Rattle.mg_memdisk.specs.declared.standings.Standing.{Standing}
use Rattle.mg_memdisk.specs.Crashes.{put_at}
use Rattle.mg_memdisk.specs.Events.{same_name, nothing}
use Rattle.mg_memdisk.specs.SameNames.{same_is, differs}
use Rattle.mg_memdisk.specs.Standings.{left_of, left_in, Represents}
use Rattle.mg_memdisk.proofs.StandingLaws.{key_self, key_other}

-- one entry more
abbrev pub puts : Image → Name × Standing → Image
puts image entry = put_at entry.0 (left_of entry.1) image

-- what was found, or else what was there
abbrev found_or : Option (List ℕ) → Option Standing → Option (List ℕ)
found_or old None = old
found_or old (Some standing) = left_of standing

-- a name that is below all keys is not found
not_above : (name : Name) (es : List (Name × Standing)) → AllByRecursion (λ y. name_cmp name y ≡ Less) (keys_of es) → lookup (λ k. is_eq (name_cmp name k)) es ≡ None
not_above name [] all = refl
not_above name (e ∷ es) all = ap (λ (o : Ordering). cond (is_eq o) (Some e.1) (lookup (λ k. is_eq (name_cmp name k)) es)) all.0 ∙ not_above name es all.1

pub puts_all : (old : Image) (es : List (Name × Standing)) → IsStrictlySortedBy name_cmp (keys_of es) → (name : Name) → fold puts old es name ≡ found_or (old name) (lookup (λ k. is_eq (name_cmp name k)) es)
unfolding IsStrictlySortedBy
puts_all old [] sorted name = refl
puts_all old (e ∷ es) sorted name = by_name (same_name name e.0) refl (puts_all (puts old e) es sorted.1 name)
  where
    rest : Option Standing
    rest = lookup (λ k. is_eq (name_cmp name k)) es

    by_name : (t : Bool) → same_name name e.0 ≡ t → fold puts (puts old e) es name ≡ found_or (puts old e name) rest → fold puts (puts old e) es name ≡ found_or (old name) (cond (is_eq (name_cmp name e.0)) (Some e.1) rest)
    by_name true same later =
        let is = same_is name e.0 same in
        let none : rest ≡ None = subst (λ (n : Name). lookup (λ k. is_eq (name_cmp n k)) es ≡ None) (sym is) (not_above e.0 es sorted.0) in
        let key : is_eq (name_cmp name e.0) ≡ true = subst (λ (n : Name). is_eq (name_cmp n e.0) ≡ true) (sym is) (key_self e.0) in
        later ∙ ap (found_or (puts old e name)) none ∙ ap (λ (t : Bool). cond t (left_of e.1) (old name)) same ∙ sym (ap (λ (t : Bool). found_or (old name) (cond t (Some e.1) rest)) key)
    by_name false same later =
        let ne = differs name e.0 same in
        let key : is_eq (name_cmp name e.0) ≡ false = key_other name e.0 (λ is. ne (sym is)) in
        later ∙ ap (λ (t : Bool). found_or (cond t (left_of e.1) (old name)) rest) same ∙ sym (ap (λ (t : Bool). found_or (old name) (cond t (Some e.1) rest)) key)

left_found : (o : Option Standing) → found_or None o ≡ left_in o
left_found None = refl
left_found (Some standing) = refl

-- one entry more of a list
pub entry_more : (list : List (Name × Standing)) (k : ℕ) (entry : Name × Standing) → k < length list → entry ≡ get_or list k entry → fold puts nothing (take (k + 1) list) ≡ puts (fold puts nothing (take k list)) entry
entry_more list k entry lt is =
    ap (λ (l : List (Name × Standing)). fold puts nothing l) (take_more list k entry lt ∙ ap (λ (x : Name × Standing). take k list ++ x ∷ []) (sym is)) ∙ fold-append puts nothing (take k list) (entry ∷ [])

-- the image of which a map has the standings
pub image_of : (map : BTreeMap Name Standing) (list : List (Name × Standing)) (k : ℕ) (made : Image) → made ≡ fold puts nothing (take k list) → length list ≤ k → list ≡ map.entries → IsStrictlySortedBy name_cmp (keys_of list)
    → (contents image : Image) → Represents name_cmp map contents image → made ≡ image
image_of map list k made is le entries sorted contents image old i name = each name i
  where
    each : (name : Name) → made name ≡ image name
    each name =
        ap (λ (m : Image). m name) is ∙ ap (λ (l : List (Name × Standing)). fold puts nothing l name) (take_all k list le) ∙ puts_all nothing list sorted name ∙ left_found (lookup (λ key. is_eq (name_cmp name key)) list)
        ∙ ap (λ (l : List (Name × Standing)). left_in (lookup (λ key. is_eq (name_cmp name key)) l)) entries ∙ old.left name
