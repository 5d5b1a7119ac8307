-- What a crash leaves of each name at each moment of a sync.
use Rattle.std.proofs.Common.{◌≡◌, inl, inr, ⊎_elim, ℕ, List, [], ◌++◌, sym, ◌∙◌, ap, subst, arith}
use Rattle.std.proofs.lemmas.Bool.{cases_eq}
use Rattle.std.specs.Prelude.{◌≢◌, ◌⊎◌, Option, None, Some, Result, Ok, Err, OnOk, OnErr}
use Rattle.mg_disk.specs.Images.{Image, View, Elapses, Grows, Appended, AppendFailed, NameInDoubt, NameSet, Sets, Stays, Synced}
use Rattle.mg_disk.specs.Moments.{Begins, EachImage, LeavesOnly}
use Rattle.mg_disk.proofs.Moments.{goes_on, grows_begins, started}
use Rattle.mg_types.specs.Names.{kind_code}
use Rattle.mg_types.specs.declared.names.Kind.{Kind}
use Rattle.mg_types.specs.declared.names.Name.{Name}
use Rattle.mg_types.proofs.KindLaws.{kind_of_code}

-- the name of this kind and number
abbrev named : Kind → ℕ → Name
named kind number = record { kind = kind; number = number }

by_parts : (a b : Name) → (kind_code a.kind ≡ kind_code b.kind) ⊎ (kind_code a.kind ≡ kind_code b.kind → ⊥) → (a.number ≡ b.number) ⊎ (a.number ≡ b.number → ⊥) → (a ≡ b) ⊎ (a ≢ b)
by_parts a b (inl kind) (inl number) = inl (ap (λ (k : Kind). named k a.number) (kind_of_code a.kind b.kind kind) ∙ ap (λ (n : ℕ). named b.kind n) number)
by_parts a b (inl kind) (inr number) = inr (λ same. number (ap (λ (name : Name). name.number) same))
by_parts a b (inr kind) number = inr (λ same. kind (ap (λ (name : Name). kind_code name.kind) same))

-- two names are the same or are not
pub same_or_other_name : (a b : Name) → (a ≡ b) ⊎ (a ≢ b)
same_or_other_name a b = by_parts a b (cases_eq (kind_code a.kind) (kind_code b.kind)) (cases_eq a.number b.number)

-- where one name was set, a name that began with these bytes does so still
set_by : (own name : Name) (value : Option (List ℕ)) (kept : List ℕ) (old new : Image) → (name ≡ own) ⊎ (name ≢ own) → Begins name kept old → (name ≡ own → (behind : List ℕ) × (value ≡ Some (kept ++ behind))) → Sets own value old new → Begins name kept new
set_by own name value kept old new (inl same) was here sets = ((here same).0, ap new same ∙ sets.at ∙ (here same).1)
set_by own name value kept old new (inr other) was here sets = (was.0, sets.elsewhere name other ∙ was.1)

-- and where a log has grown
grown_by : (own name : Name) (most : ℕ) (kept : List ℕ) (old new : Image) → (name ≡ own) ⊎ (name ≢ own) → Begins name kept old → Grows own most old new → Begins name kept new
grown_by own name most kept old new (inl same) was grown = subst (λ (n : Name). Begins n kept new) (sym same) (grows_begins own most kept old new (subst (λ (n : Name). Begins n kept old) same was) grown)
grown_by own name most kept old new (inr other) was grown = (was.0, grown.after.elsewhere name other ∙ was.1)

-- after an append, whatever it answers, time went on, and each image begins with what each began with
pub append_begins : {T E : Type 0} (r : Result T E) (own name : Name) (bytes kept : List ℕ) (old new : View) → OnOk r (Appended own bytes old new) → OnErr r (AppendFailed own bytes old new) → EachImage old (Begins name kept)
    → Elapses old new × EachImage new (Begins name kept)
append_begins (Ok x) own name bytes kept old new done failed all =
    (done.time, λ c left. let from = done.images c left in grown_by own name _ kept from.0 c (same_or_other_name name own) (all from.0 from.1) from.2)
append_begins (Err e) own name bytes kept old new done (inl stays) all = (stays.time, λ c left. all c (stays.images c left))
append_begins (Err e) own name bytes kept old new done (inr part) all =
    (part.appended.time, λ c left. let from = part.appended.images c left in grown_by own name _ kept from.0 c (same_or_other_name name own) (all from.0 from.1) from.2)

-- the same of a log's sync
pub sync_begins : {T E : Type 0} (r : Result T E) (own name : Name) (kept : List ℕ) (old new : View) → old.may_leave old.contents → OnOk r (Synced own old new) → OnErr r (Stays old new) → EachImage old (Begins name kept)
    → Elapses old new × EachImage new (Begins name kept)
sync_begins (Ok x) own name kept old new now done failed all =
    let found = all old.contents now in (
      done.time,
      λ c left. let from = done.images c left in
          set_by own name (old.contents own) kept from.0 c (same_or_other_name name own) (all from.0 from.1) (λ same. (found.0, ap old.contents (sym same) ∙ found.1)) from.2,
    )
sync_begins (Err e) own name kept old new now done stays all = (stays.time, λ c left. all c (stays.images c left))

none_begins : (own name : Name) (kept : List ℕ) (image : Image) → image own ≡ None → Begins name kept image → name ≡ own → ⊥
none_begins own name kept image absent (behind, was) same =
    let both : None ≡ Some (kept ++ behind) = sym absent ∙ ap image (sym same) ∙ was in
    cc

made_by : (own name : Name) (kept : List ℕ) (old : View) (c d : Image) → old.may_leave old.contents → old.contents own ≡ None → EachImage old (Begins name kept) → old.may_leave d → Sets own (Some []) d c → Begins name kept c
made_by own name kept old c d now absent all left sets =
    set_by own name (Some []) kept d c (same_or_other_name name own) (all d left) (λ same. absurd (none_begins own name kept old.contents absent (all old.contents now) same)) sets

-- the same of a log that is made where there was none
pub made_begins : {T E : Type 0} (r : Result T E) (own name : Name) (kept : List ℕ) (old new : View) → old.may_leave old.contents → old.contents own ≡ None
    → OnOk r (NameSet own (Some []) old new) → OnErr r (NameInDoubt own (Some []) old new) → EachImage old (Begins name kept) → Elapses old new × EachImage new (Begins name kept)
made_begins (Ok x) own name kept old new now absent done failed all =
    (done.time, λ c left. let from = done.images c left in made_by own name kept old c from.0 now absent all from.1 from.2)
made_begins (Err e) own name kept old new now absent done doubt all =
    (doubt.time, λ c left. ⊎_elim (λ here. all c here) (λ from. made_by own name kept old c from.0 now absent all from.1 from.2) (doubt.images c left))

-- one call, before and after which each image has P
pub one_call : (old new : View) (P : Image → Type 0) → ((c : Image) → old.left_since old.moment c → old.may_leave c) → EachImage old P → Elapses old new × EachImage new P → LeavesOnly old new P
one_call old new P only_now all call = goes_on old old new P (started old P only_now all) call.0 call.1

-- calls, and others after them
pub then_calls : (old mid new : View) (P : Image → Type 0) → LeavesOnly old mid P → LeavesOnly mid new P → LeavesOnly old new P
then_calls old mid new P first second =
    record {
      later = omega (arith, first.later, second.later);
      each = λ c left. ⊎_elim (first.each c) (λ here. here) (second.before old.moment c first.later left);
      before = λ t c le left. ⊎_elim (first.before t c le) (λ here. inr here) (second.before t c (omega (arith, le, first.later)) left);
    }
