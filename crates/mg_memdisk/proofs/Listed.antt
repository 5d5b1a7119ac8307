-- The keys of a set that lists an image's names.
use Rattle.std.proofs.Common.{◌≡◌, ◌↔◌, List, Bool, sym, subst}
use Rattle.std.proofs.lemmas.Map.Views.{btree_set_contains_iff}
use Rattle.std.specs.BTreeSet.{BTreeSet, contains}
use Rattle.std.specs.List.{Contains}
use Rattle.std.specs.Prelude.{IsTrue, IsSome, Option, Some, None, is_some, Result, Ok, Err, IfOk, Vec}
use Rattle.std.specs.declared.alloc.Global.{Global}
use Rattle.mg_types.specs.declared.names.Name.{Name}
use Rattle.mg_disk.specs.Images.{Image}
use Rattle.mg_memdisk.specs.Events.{Lists}
use Rattle.mg_disk.proofs.NameLaws.{name_cmp, name_total, name_exact}

some_true : {T : Type 0} (b : Bool) (o : Option T) → b ≡ is_some o → IsTrue b ↔ IsSome o
some_true {T} b None e = subst (λ (t : Bool). IsTrue t ↔ IsSome {T = T} None) (sym e) ((λ h. h), λ h. h)
some_true {T} b (Some x) e = subst (λ (t : Bool). IsTrue t ↔ IsSome (Some x)) (sym e) ((λ h. h), λ h. h)

pub lists_iff : (names : BTreeSet Name) (image : Image) (list : List Name) → Lists name_cmp names image → list ≡ names.keys → (name : Name) → Contains list name ↔ IsSome (image name)
lists_iff names image list lists same name =
    let there = btree_set_contains_iff name_total name_exact names name in
    let some = some_true (contains name_cmp names name) (image name) (lists name) in
    let at : (l : List Name) → l ≡ names.keys → Contains l name ↔ IsSome (image name) = λ l e. subst (λ (k : List Name). Contains k name ↔ IsSome (image name)) (sym e) ((λ h. some.0 (there.1 h)), λ h. there.0 (some.1 h)) in
    at list same

pub listed : {E : Type 0} (names : BTreeSet Name) (image : Image) (r : Result (Vec Name Global) E) → Lists name_cmp names image → IfOk r (λ list. list.items ≡ names.keys) → IfOk r (λ list. (name : Name) → Contains list.items name ↔ IsSome (image name))
listed names image (Ok list) lists same = lists_iff names image list.items lists same
listed names image (Err e) lists same = tt
