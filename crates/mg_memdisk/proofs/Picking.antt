-- What is picked is left by a crash, and all that a crash may leave is picked by some choice.
use Rattle.std.proofs.Common.{◌≡◌, ◌⊎◌, ◌==◌, ◌≤◌, ◌<◌, ◌^◌, inl, inr, ℕ, zero, suc, Bool, true, false, List, [], ◌∷◌, ◌++◌, length, drop, refl, sym, ◌∙◌, ap, subst, cond, arith, length-append, append_assoc}
use Rattle.std.proofs.lemmas.List.Elements.{All-append, All-cons, All-drop}
use Rattle.std.specs.Prelude.{Option}
use Rattle.mg_types.specs.Bytes.{AreBytes}
use Rattle.mg_types.specs.declared.names.Name.{Name}
use Rattle.mg_disk.specs.Files.{extended}
use Rattle.mg_disk.specs.Images.{Image, Sets, bytes_of}
use Rattle.mg_memdisk.specs.declared.events.Event.{Event}
use Rattle.mg_memdisk.specs.declared.events.Event.TheVariants.{Put, MayPut, Append, Sync}
use Rattle.mg_memdisk.specs.Crashes.{first, tail_of, after_tail, room, put_at, Picked, picks_at, picks, picked, are_open}
use Rattle.mg_memdisk.specs.Events.{same_name, kept, value_bytes, held, opens, may_after, leaves, is_image}
use Rattle.mg_memdisk.specs.SameNames.{same_is, same_self, other_name, differs}
use Rattle.mg_memdisk.specs.Holding.{both}
use Rattle.mg_memdisk.proofs.Leaving.{LeftAfter, HasItsLog, Behind, comes_from, goes_to, behind_step, has_its_log, none_behind}

put_at_sets : (name : Name) (value : Option (List ℕ)) (d : Image) → Sets name value d (put_at name value d)
put_at_sets name value d = record {
  at = ap (λ (t : Bool). cond t value (d name)) (same_self name);
  elsewhere = λ other ne. ap (λ (t : Bool). cond t value (d other)) (other_name other name ne);
}

-- an image in which a name is set is the one that is made so
set_is : (name : Name) (value : Option (List ℕ)) (d c : Image) → Sets name value d c → put_at name value d ≡ c
set_is name value d c set i other = each other (same_name other name) refl i
  where
    each : (other : Name) (t : Bool) → same_name other name ≡ t → cond (same_name other name) value (d other) ≡ c other
    each other true same = ap (λ (t : Bool). cond t value (d other)) same ∙ sym set.at ∙ ap c (sym (same_is other name same))
    each other false same = ap (λ (t : Bool). cond t value (d other)) same ∙ sym (set.elsewhere other (differs other name same))

put_same : (name : Name) (d : Image) → put_at name (d name) d ≡ d
put_same name d = set_is name (d name) d d record { at = refl; elsewhere = λ other ne. refl }

-- The bytes behind a log

length_tail : (most : ℕ) (choice : List ℕ) → length (tail_of most choice) ≤ most
length_tail zero choice = omega arith
length_tail (suc most) choice = by_first (first choice == 1) (length_tail most (drop 2 choice))
  where
    by_first : (t : Bool) → length (tail_of most (drop 2 choice)) ≤ most → length (cond t (first (drop 1 choice) ∷ tail_of most (drop 2 choice)) []) ≤ suc most
    by_first true le = omega (arith, le)
    by_first false le = omega arith

none_small : AreBytes []
none_small k d lt = absurd (omega (arith, lt))

first_small : (choice : List ℕ) → AreBytes choice → first choice < 2 ^ 8
first_small [] small = omega arith
first_small (b ∷ choice) small = small 0 0 (omega arith)

tail_small : (most : ℕ) (choice : List ℕ) → AreBytes choice → AreBytes (tail_of most choice)
tail_small zero choice small = none_small
tail_small (suc most) choice small = by_first (first choice == 1) (tail_small most (drop 2 choice) (All-drop (λ byte. byte < 2 ^ 8) 2 choice small))
  where
    by_first : (t : Bool) → AreBytes (tail_of most (drop 2 choice)) → AreBytes (cond t (first (drop 1 choice) ∷ tail_of most (drop 2 choice)) [])
    by_first true rest = All-cons (λ byte. byte < 2 ^ 8) _ _ (first_small (drop 1 choice) (All-drop (λ byte. byte < 2 ^ 8) 1 choice small)) rest
    by_first false rest = none_small

after_small : (most : ℕ) (choice : List ℕ) → AreBytes choice → AreBytes (after_tail most choice)
after_small zero choice small = small
after_small (suc most) choice small = by_first (first choice == 1) (after_small most (drop 2 choice) (All-drop (λ byte. byte < 2 ^ 8) 2 choice small))
  where
    by_first : (t : Bool) → AreBytes (after_tail most (drop 2 choice)) → AreBytes (cond t (after_tail most (drop 2 choice)) (drop 1 choice))
    by_first true rest = rest
    by_first false rest = All-drop (λ byte. byte < 2 ^ 8) 1 choice small

-- a choice for these bytes
abbrev spell : ℕ → List ℕ → List ℕ
spell zero tail = []
spell (suc most) [] = 0 ∷ []
spell (suc most) (b ∷ tail) = 1 ∷ b ∷ spell most tail

spell_tail : (most : ℕ) (tail rest : List ℕ) → length tail ≤ most → tail_of most (spell most tail ++ rest) ≡ tail
spell_tail zero [] rest le = refl
spell_tail zero (b ∷ tail) rest le = absurd (omega (arith, le))
spell_tail (suc most) [] rest le = refl
spell_tail (suc most) (b ∷ tail) rest le = ap (λ (l : List ℕ). b ∷ l) (spell_tail most tail rest (omega (arith, le)))

spell_after : (most : ℕ) (tail rest : List ℕ) → length tail ≤ most → after_tail most (spell most tail ++ rest) ≡ rest
spell_after zero [] rest le = refl
spell_after zero (b ∷ tail) rest le = absurd (omega (arith, le))
spell_after (suc most) [] rest le = refl
spell_after (suc most) (b ∷ tail) rest le = spell_after most tail rest (omega (arith, le))

spell_small : (most : ℕ) (tail : List ℕ) → AreBytes tail → AreBytes (spell most tail)
spell_small zero tail small = none_small
spell_small (suc most) [] small = All-cons (λ byte. byte < 2 ^ 8) 0 [] (omega arith) none_small
spell_small (suc most) (b ∷ tail) small =
    All-cons (λ byte. byte < 2 ^ 8) 1 (b ∷ spell most tail) (omega arith) (All-cons (λ byte. byte < 2 ^ 8) b (spell most tail) (small 0 0 (omega arith)) (spell_small most tail (All-drop (λ byte. byte < 2 ^ 8) 1 (b ∷ tail) small)))

-- What is picked is left

may_left : (name : Name) (value left : Option (List ℕ)) (d : Image) (t : Bool) → left ≡ d name → (put_at name (cond t value left) d ≡ d) ⊎ Sets name value d (put_at name (cond t value left) d)
may_left name value left d true is = inr (put_at_sets name value d)
may_left name value left d false is = inl (ap (λ (o : Option (List ℕ)). put_at name o d) is ∙ put_same name d)

left_after : (contents : Image) (p : Picked) (e : Event) → HasItsLog contents p.image e → AreBytes p.choice → LeftAfter contents e p.image (picks_at contents p e).image
left_after contents p (Put name value) has small = put_at_sets name (value_bytes value) p.image
left_after contents p (MayPut name value shown) has small = may_left name (value_bytes value) (p.image name) p.image (first p.choice == 1) refl
left_after contents p (Append name bytes) has small =
    let most = room (contents name) (p.image name) (kept bytes) in
    let tail = tail_of most p.choice in
    let log : length (bytes_of (contents name)) ≡ length has.log = ap (λ (o : Option (List ℕ)). length (bytes_of o)) has.in_contents in
    let front : length (bytes_of (p.image name)) ≡ length has.front = ap (λ (o : Option (List ℕ)). length (bytes_of o)) has.in_image in
    record {
      front = has.front;
      behind = tail;
      before = has.in_image;
      after = subst (λ (o : Option (List ℕ)). Sets name (extended o tail) p.image (put_at name (extended (p.image name) tail) p.image)) has.in_image (put_at_sets name (extended (p.image name) tail) p.image);
      bound = omega (arith, length_tail most p.choice, log, front, has.bound, length-append has.front tail, length-append (bytes_of (contents name)) (kept bytes));
      are_bytes = tail_small most p.choice small;
    }
left_after contents p (Sync name) has small = put_at_sets name (contents name) p.image

choice_small : (contents : Image) (p : Picked) (e : Event) → AreBytes p.choice → AreBytes (picks_at contents p e).choice
choice_small contents p (Put name value) small = small
choice_small contents p (MayPut name value shown) small = All-drop (λ byte. byte < 2 ^ 8) 1 p.choice small
choice_small contents p (Append name bytes) small = after_small (room (contents name) (p.image name) (kept bytes)) p.choice small
choice_small contents p (Sync name) small = small

picks_leave : (before : Image → Type 0) (contents : Image) (open_now : Name → Bool) (p : Picked) (es : List Event) → ((d : Image) → before d → Behind contents d open_now) → are_open open_now es ≡ true
    → before p.image → AreBytes p.choice → leaves before contents es (picks contents p es).image
picks_leave before contents open_now p [] behind all was small = was
picks_leave before contents open_now p (e ∷ es) behind all was small =
    let now = both _ _ all in
    let has = has_its_log contents p.image open_now e (behind p.image was) now.0 in
    let left = goes_to before contents e p.image _ was (left_after contents p e has small) in
    picks_leave (may_after before contents e) (held contents e) (opens open_now e) (picks_at contents p e) es (λ d may. step d (comes_from before contents e d may)) now.1 left (choice_small contents p e small)
  where
    step : (d : Image) → (b : Image) × before b × LeftAfter contents e b d → Behind (held contents e) d (opens open_now e)
    step d (b, was, after) = behind_step contents b d open_now (behind b was) e after

-- a crash may leave what is picked
pub picked_is_left : (found : Image) (es : List Event) (choice : List ℕ) → are_open (λ name. false) es ≡ true → AreBytes choice → leaves (is_image found) found es (picked found es choice)
picked_is_left found es choice all small =
    picks_leave (is_image found) found (λ name. false) (record { image = found; choice = choice }) es (λ d is. none_behind found d) all refl small

-- All that may be left is picked by some choice

abbrev on_way : Image → List ℕ → Picked
on_way image choice = record { image = image; choice = choice }

-- a choice by which one event more leaves this image
record Chooses (contents : Image) (e : Event) (d c : Image) : Type 0 where
  pub choice : List ℕ
  pub small : AreBytes choice
  pub run : (rest : List ℕ) → picks_at contents (on_way d (choice ++ rest)) e ≡ on_way c rest

pair : (a b : Image) (x y : List ℕ) → a ≡ b → x ≡ y → on_way a x ≡ on_way b y
pair a b x y same rest i = record { image = same i; choice = rest i }

chooses : (contents : Image) (e : Event) (d c : Image) → LeftAfter contents e d c → Chooses contents e d c
chooses contents (Put name value) d c set = record { choice = []; small = none_small; run = λ rest. pair _ _ _ _ (set_is name (value_bytes value) d c set) refl }
chooses contents (MayPut name value shown) d c (inl is) = record {
  choice = 0 ∷ [];
  small = All-cons (λ byte. byte < 2 ^ 8) 0 [] (omega arith) none_small;
  run = λ rest. pair _ _ _ _ (put_same name d ∙ sym is) refl;
}
chooses contents (MayPut name value shown) d c (inr set) = record {
  choice = 1 ∷ [];
  small = All-cons (λ byte. byte < 2 ^ 8) 1 [] (omega arith) none_small;
  run = λ rest. pair _ _ _ _ (set_is name (value_bytes value) d c set) refl;
}
chooses contents (Append name bytes) d c grown =
    let most = room (contents name) (d name) (kept bytes) in
    let front : length (bytes_of (d name)) ≡ length grown.front = ap (λ (o : Option (List ℕ)). length (bytes_of o)) grown.before in
    let le : length grown.behind ≤ most = omega (arith, grown.bound, front, length-append grown.front grown.behind, length-append (bytes_of (contents name)) (kept bytes)) in
    record {
      choice = spell most grown.behind;
      small = spell_small most grown.behind grown.are_bytes;
      run = λ rest. pair _ _ _ _
          (ap (λ (l : List ℕ). put_at name (extended (d name) l) d) (spell_tail most grown.behind rest le) ∙ ap (λ (o : Option (List ℕ)). put_at name (extended o grown.behind) d) grown.before ∙ set_is name _ d c grown.after)
          (spell_after most grown.behind rest le);
    }
chooses contents (Sync name) d c set = record { choice = []; small = none_small; run = λ rest. pair _ _ _ _ (set_is name (contents name) d c set) refl }

-- a choice by which these events leave this image, and where they begin
record ChoosesAll (before : Image → Type 0) (contents : Image) (es : List Event) (c : Image) : Type 0 where
  pub start : Image
  pub was : before start
  pub choice : List ℕ
  pub small : AreBytes choice
  pub run : (rest : List ℕ) → picks contents (on_way start (choice ++ rest)) es ≡ on_way c rest

chooses_all : (before : Image → Type 0) (contents : Image) (es : List Event) (c : Image) → leaves before contents es c → ChoosesAll before contents es c
chooses_all before contents [] c left = record { start = c; was = left; choice = []; small = none_small; run = λ rest. refl }
chooses_all before contents (e ∷ es) c left =
    let later = chooses_all (may_after before contents e) (held contents e) es c left in
    let from = comes_from before contents e later.start later.was in
    let now = chooses contents e from.0 later.start from.2 in
    record {
      start = from.0;
      was = from.1;
      choice = now.choice ++ later.choice;
      small = All-append (λ byte. byte < 2 ^ 8) now.choice later.choice now.small later.small;
      run = λ rest.
          ap (λ (l : List ℕ). picks (held contents e) (picks_at contents (record { image = from.0; choice = l }) e) es) (append_assoc now.choice later.choice rest)
          ∙ ap (λ (p : Picked). picks (held contents e) p es) (now.run (later.choice ++ rest))
          ∙ later.run rest;
    }

-- each image that a crash may leave is picked by some choice
pub each_has_choice : (found : Image) (es : List Event) (c : Image) → leaves (is_image found) found es c → (choice : List ℕ) × AreBytes choice × (picked found es choice ≡ c)
each_has_choice found es c left =
    let all = chooses_all (is_image found) found es c left in
    let small = All-append (λ byte. byte < 2 ^ 8) all.choice [] all.small none_small in
    (all.choice ++ [], small, ap (λ (i : Image). (picks found (record { image = i; choice = all.choice ++ [] }) es).image) (sym all.was) ∙ ap (λ (p : Picked). p.image) (all.run []))
