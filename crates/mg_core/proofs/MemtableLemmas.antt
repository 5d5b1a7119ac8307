-- What memtables have, and what the list has of them and of what is below them.
use Rattle.std.proofs.Common.{◌≡◌, ◌⊎◌, inl, inr, ℕ, ◌+◌, ◌<◌, ◌≤◌, List, [], ◌∷◌, ◌++◌, length, take, Bool, true, false, not, nat_lt, Option, None, Some, refl, ap, subst, ◌∙◌, sym, arith}
use Rattle.std.specs.List.{filter}
use Rattle.std.specs.Option.{option_map}
use Rattle.std.specs.Str.{bytes_eq}
use Rattle.std.proofs.lemmas.Bool.{both_ways, cases_lt, not-true}
use Rattle.std.proofs.lemmas.List.{length-take, length_push, take-append-le, take-take, take_all}
use Rattle.mg_types.specs.declared.items.Item.{Item}
use Rattle.mg_model.specs.declared.mutations.Mutation.{Mutation}
use Rattle.mg_model.specs.Mutations.{Mutations, feed, feed_of, item_at, item_of, items_of, live, newest}
use Rattle.mg_core.specs.Lists.{Has, RisesBy, Within}
use Rattle.mg_core.specs.Layouts.{Layout, Stands, entry_of}
use Rattle.mg_core.specs.Memtables.{all_laid_over, has_key, item_of_key, laid_over, looked_up, memtables_of}
use Rattle.mg_core.specs.Reads.{first_of_two, found, led_records}
use Rattle.mg_core.specs.Results.{fresh}
use Rattle.mg_core.proofs.ListLemmas.{above_first, any_has, bytes_same, find_none, find_one, from_any, from_append, from_filter, has_filter, has_left, has_right, newest_least, no_members, rises_filter, rises_join, same_bytes, same_rising}
use Rattle.mg_core.proofs.ItemLemmas.{at_most_newest, from_front, is_late, is_live, item_within, late_of, late_rise, live_in_front, live_rises, newest_item, newest_of, one_item}
use Rattle.mg_core.proofs.ReadLemmas.{found_is_newest, item_none, item_there, led_are_live}
use Rattle.mg_core.proofs.NeedLemmas.{live_pushed}

-- the newest mutations above a place
abbrev late : ℕ → Mutations → List Item
late lo m = filter (λ (i : Item). nat_lt lo i.seq) (live m)

-- no item has this one's key
abbrev NoneHas : List Item → Item → Type 0
NoneHas items i = (j : Item) → Has items j → j.key ≡ i.key → ⊥

-- lists with newer items over older ones

from_older : (older newer : List Item) (i : Item) → Has (filter (λ (i : Item). not (has_key newer i.key)) older) i → Has older i × NoneHas newer i
from_older older newer i h =
    let q = from_filter (λ (i : Item). not (has_key newer i.key)) older i h in
    (q.0, λ j k e. both_ways (has_key newer i.key) (not-true (has_key newer i.key) q.1) (any_has (λ (z : Item). bytes_eq z.key i.key) newer j k (bytes_same j.key i.key e)))

is_older : (older newer : List Item) (i : Item) → Has older i → NoneHas newer i → Has (filter (λ (i : Item). not (has_key newer i.key)) older) i
is_older older newer i h none = has_filter (λ (i : Item). not (has_key newer i.key)) older i h (ap not (by_test (has_key newer i.key) refl))
  where
    by_test : (b : Bool) → has_key newer i.key ≡ b → has_key newer i.key ≡ false
    by_test true t = let q = from_any (λ (z : Item). bytes_eq z.key i.key) newer t in absurd (none q.0 q.1 (same_bytes q.0.key i.key q.2))
    by_test false t = t

same_laid : (xs older newer : List Item) → RisesBy (λ (i : Item). i.seq) xs → RisesBy (λ (i : Item). i.seq) older → RisesBy (λ (i : Item). i.seq) newer
    → ((i j : Item) → Has older i → Has newer j → i.seq < j.seq) → ((i : Item) → Has xs i → Has newer i ⊎ (Has older i × NoneHas newer i))
    → Within newer xs → ((i : Item) → Has older i → NoneHas newer i → Has xs i) → xs ≡ laid_over older newer
same_laid xs older newer a b c below there new old = same_rising (λ (i : Item). i.seq) xs (laid_over older newer) a
    (rises_join (λ (i : Item). i.seq) others newer (rises_filter (λ (i : Item). i.seq) (λ (i : Item). not (has_key newer i.key)) older b) c (λ i j h k. below i j (from_older older newer i h).0 k))
    (λ i h. elim (there i h) [ inl k ↦ has_right others newer i k | inr k ↦ has_left others newer i (is_older older newer i k.0 k.1) ])
    (λ i h. elim (from_append others newer i h) [ inl k ↦ let q = from_older older newer i k in old i q.0 q.1 | inr k ↦ new i k ])
  where
    others : List Item
    others = filter (λ (i : Item). not (has_key newer i.key)) older

-- the newest mutations of a list are those above a place, and those of its front whose keys have none above

split_live : (m : Mutations) (mid : ℕ) (i : Item) → Has (live m) i → Has (late mid m) i ⊎ (Has (live (take mid m)) i × NoneHas (late mid m) i)
split_live m mid i h = elim (cases_lt mid i.seq) [
  | inl l ↦ inl (is_late mid m i h l)
  | inr l ↦ inr (
    live_in_front mid m i h l,
    λ j k e.
        let q = late_of mid m j k in omega (arith, l, q.1, (newest_of m j q.0).1, ap (newest m) e, (newest_of m i h).1),
  )
]

stays_live : (m : Mutations) (mid : ℕ) (i : Item) → Has (live (take mid m)) i → NoneHas (late mid m) i → Has (live m) i
stays_live m mid i h none =
    let first = newest_of (take mid m) i h in
    let held = from_front mid m i first.0 in
    let above = at_most_newest m i held in
    let j = newest_item m i.key (omega (arith, above, (item_within m i held).0)) in
    elim (cases_lt mid j.0.seq) [
      | inl l ↦ absurd (none j.0 (is_late mid m j.0 j.1 l) j.2)
      | inr l ↦ let k = newest_of (take mid m) j.0 (live_in_front mid m j.0 j.1 l) in
          is_live m i held (omega (arith, j.3, k.1, ap (newest (take mid m)) j.2, first.1))
    ]

in_first : (m : Mutations) (mid : ℕ) (i : Item) → Has (live (take mid m)) i → i.seq ≤ mid
in_first m mid i h = omega (arith, (item_within (take mid m) i (newest_of (take mid m) i h).0).1, length-take mid m)

late_joined : (m : Mutations) (lo mid : ℕ) → lo ≤ mid → late lo m ≡ laid_over (late lo (take mid m)) (late mid m)
late_joined m lo mid l = same_laid (late lo m) (late lo (take mid m)) (late mid m) (late_rise lo m) (late_rise lo (take mid m)) (late_rise mid m)
    (λ i j h k. omega (arith, in_first m mid i (late_of lo (take mid m) i h).0, (late_of mid m j k).1))
    (λ i h. let q = late_of lo m i h in elim (split_live m mid i q.0) [ inl k ↦ inl k | inr k ↦ inr (is_late lo (take mid m) i k.0 q.1, k.1) ])
    (λ i h. let q = late_of mid m i h in is_late lo m i q.0 (omega (arith, l, q.1)))
    (λ i h none. let q = late_of lo (take mid m) i h in is_late lo m i (stays_live m mid i q.0 none) q.1)

live_laid : (m : Mutations) (mid : ℕ) → live m ≡ laid_over (live (take mid m)) (late mid m)
live_laid m mid = same_laid (live m) (live (take mid m)) (late mid m) (live_rises m) (live_rises (take mid m)) (late_rise mid m)
    (λ i j h k. omega (arith, in_first m mid i h, (late_of mid m j k).1)) (λ i h. split_live m mid i h) (λ i h. (late_of mid m i h).0) (λ i h none. stays_live m mid i h none)

pub memtable_over : (m : Mutations) (lo hi : ℕ) → lo ≤ hi → live (take hi m) ≡ laid_over (live (take lo m)) (fresh m lo hi)
memtable_over m lo hi l = live_laid (take hi m) lo ∙ ap (λ (k : Mutations). laid_over (live k) (fresh m lo hi)) (take-take lo hi m l)

pub memtables_joined : (m : Mutations) (lo mid hi : ℕ) → lo ≤ mid → mid ≤ hi → fresh m lo hi ≡ laid_over (fresh m lo mid) (fresh m mid hi)
memtables_joined m lo mid hi l k = late_joined (take hi m) lo mid l ∙ ap (λ (n : Mutations). laid_over (late lo n) (fresh m mid hi)) (take-take mid hi m k)

pub snapshot_live : (l : Layout) (m : Mutations) (lo : ℕ) → Stands l (take lo m) → live m ≡ laid_over (led_records l) (fresh m lo (length m))
snapshot_live l m lo s =
    live_laid m lo ∙ (ap (λ (is : List Item). laid_over is (late lo m)) (sym (led_are_live l (take lo m) s)) ∙ ap (λ (n : Mutations). laid_over (led_records l) (late lo n)) (sym (take_all (length m) m (omega arith))))

pub snapshot_feed : (l : Layout) (m : Mutations) (lo after limit : ℕ) → Stands l (take lo m) → feed m after limit ≡ feed_of (laid_over (led_records l) (fresh m lo (length m))) after limit
snapshot_feed l m lo after limit s = ap (λ (is : List Item). feed_of is after limit) (snapshot_live l m lo s)

-- a memtable's content

pub same_front : (m n : Mutations) (lo hi : ℕ) → take hi m ≡ take hi n → fresh m lo hi ≡ fresh n lo hi
same_front m n lo hi e = ap (λ (k : Mutations). late lo k) e

pub empty_memtable : (m : Mutations) (n : ℕ) → fresh m n n ≡ []
empty_memtable m n = no_members (fresh m n n) (λ i h. let q = late_of n (take n m) i h in omega (arith, q.1, in_first m n i q.0))

-- above the last place there is the new mutation alone
one_pushed : (m : Mutations) (x : Mutation) → fresh (m ++ Some x ∷ []) (length m) (length m + 1) ≡ item_of (length m + 1) x ∷ []
one_pushed m x = same_rising (λ (i : Item). i.seq) (fresh whole (length m) (length m + 1)) (new ∷ []) (late_rise (length m) (take (length m + 1) whole)) (tt, tt) there back
  where
    whole : Mutations
    whole = m ++ Some x ∷ []

    new : Item
    new = item_of (length m + 1) x

    others : List Item
    others = filter (λ (i : Item). not (bytes_eq i.key x.key)) (live m)

    all : take (length m + 1) whole ≡ whole
    all = take_all (length m + 1) whole (omega (arith, length_push m (Some x)))

    pushed : live whole ≡ others ++ new ∷ []
    pushed = let e : 1 + length m ≡ length m + 1 = omega arith in live_pushed m x ∙ ap (λ (n : ℕ). others ++ item_of n x ∷ []) e

    there : Within (fresh whole (length m) (length m + 1)) (new ∷ [])
    there i h =
        let q = late_of (length m) whole i (subst (λ (n : Mutations). Has (late (length m) n) i) all h) in
        elim (from_append others (new ∷ []) i (subst (λ (is : List Item). Has is i) pushed q.0)) [
          | inl k ↦ let b = (from_filter (λ (i : Item). not (bytes_eq i.key x.key)) (live m) i k).0 in absurd (omega (arith, q.1, (item_within m i (newest_of m i b).0).1))
          | inr k ↦ k
        ]

    here : Has (late (length m) whole) new
    here = is_late (length m) whole new (subst (λ (is : List Item). Has is new) (sym pushed) (has_right others (new ∷ []) new (inl refl))) (omega arith)

    back : Within (new ∷ []) (fresh whole (length m) (length m + 1))
    back i (inl e) = subst (Has (fresh whole (length m) (length m + 1))) e (subst (λ (n : Mutations). Has (late (length m) n) new) (sym all) here)
    back i (inr k) = absurd k

pub memtable_write : (m : Mutations) (lo : ℕ) (x : Mutation) → lo ≤ length m → fresh (m ++ Some x ∷ []) lo (length m + 1) ≡ laid_over (fresh m lo (length m)) (item_of (length m + 1) x ∷ [])
memtable_write m lo x l =
    memtables_joined (m ++ Some x ∷ []) lo (length m) (length m + 1) l (omega arith)
    ∙ (ap (λ (is : List Item). laid_over is (fresh (m ++ Some x ∷ []) (length m) (length m + 1))) (same_front (m ++ Some x ∷ []) m lo (length m) front)
    ∙ ap (λ (is : List Item). laid_over (fresh m lo (length m)) is) (one_pushed m x))
  where
    front : take (length m) (m ++ Some x ∷ []) ≡ take (length m) m
    front = take-append-le (length m) m (Some x ∷ []) (omega arith)

-- looking for a key

-- where a key's newest mutation lies within a front, it is that of the front
newest_below : (m : Mutations) (lo : ℕ) (key : List ℕ) → newest m key ≤ lo → item_at m (newest m key) ≡ item_at (take lo m) (newest (take lo m) key)
newest_below m lo key l = elim (cases_lt 0 (newest m key)) [
  | inl some ↦
      let i = newest_item m key some in
      let q = newest_of (take lo m) i.0 (live_in_front lo m i.0 i.1 (omega (arith, i.3, l))) in
      item_there m i.0 (newest m key) (newest_of m i.0 i.1).0 i.3 ∙ sym (item_there (take lo m) i.0 (newest (take lo m) key) q.0 (sym q.1 ∙ ap (newest (take lo m)) i.2))
  | inr none ↦
      let least = newest_least (λ (j : Item). j.key) (λ (j : Item). j.seq) (items_of (take lo m)) key 0
      (λ j k e. omega (arith, at_most_newest m j (from_front lo m j k), ap (newest m) e, none)) in
      item_none m (newest m key) (omega (arith, none)) ∙ sym (item_none (take lo m) (newest (take lo m) key) (omega (arith, least)))
]

look_list : (m : Mutations) (lo : ℕ) (key : List ℕ) → item_at m (newest m key) ≡ first_of_two (item_of_key (late lo m) key) (item_at (take lo m) (newest (take lo m) key))
look_list m lo key = elim (cases_lt lo (newest m key)) [
  | inl l ↦
      let i = newest_item m key (omega (arith, l)) in
      item_there m i.0 (newest m key) (newest_of m i.0 i.1).0 i.3
      ∙ sym (ap (λ o. first_of_two o (item_at (take lo m) (newest (take lo m) key)))
      (find_one (λ (j : Item). bytes_eq j.key key) (late lo m) i.0 (is_late lo m i.0 i.1 (omega (arith, l, i.3))) (bytes_same i.0.key key i.2)
      (λ j h t. let q = newest_of m j (late_of lo m j h).0 in one_item m j i.0 q.0 (newest_of m i.0 i.1).0 (sym q.1 ∙ (ap (newest m) (same_bytes j.key key t) ∙ sym i.3)))))
  | inr l ↦
      newest_below m lo key l
      ∙ sym (ap (λ o. first_of_two o (item_at (take lo m) (newest (take lo m) key))) (find_none (λ (j : Item). bytes_eq j.key key) (late lo m) (λ j h. other j h l (bytes_eq j.key key) refl)))
]
  where
    other : (j : Item) → Has (late lo m) j → newest m key ≤ lo → (b : Bool) → bytes_eq j.key key ≡ b → bytes_eq j.key key ≡ false
    other j h l true t = let q = late_of lo m j h in absurd (omega (arith, l, q.1, (newest_of m j q.0).1, ap (newest m) (same_bytes j.key key t)))
    other j h l false t = t

pub memtable_look : (m : Mutations) (lo hi : ℕ) (key : List ℕ) → lo ≤ hi
    → item_at (take hi m) (newest (take hi m) key) ≡ first_of_two (item_of_key (fresh m lo hi) key) (item_at (take lo m) (newest (take lo m) key))
memtable_look m lo hi key l =
    look_list (take hi m) lo key ∙ ap (λ (n : Mutations). first_of_two (item_of_key (fresh m lo hi) key) (item_at n (newest n key))) (take-take lo hi m l)

-- several memtables

pub memtables_live : (m : Mutations) (lo : ℕ) (ends : List ℕ) → lo ≤ length m → RisesBy (λ (n : ℕ). n) (lo ∷ ends) → ((hi : ℕ) → Has ends hi → hi ≤ length m)
    → live m ≡ all_laid_over (live (take lo m)) (memtables_of m lo ends)
memtables_live m lo [] l r within = ap live (sym (take_all (length m) m (omega arith))) ∙ memtable_over m lo (length m) l
memtables_live m lo (hi ∷ ends) l r within =
    memtables_live m hi ends (within hi (inl refl)) r.1 (λ k h. within k (inr h))
    ∙ ap (λ (is : List Item). all_laid_over is (memtables_of m hi ends)) (memtable_over m lo hi (omega (arith, above_first (λ (n : ℕ). n) lo (hi ∷ ends) hi r (inl refl))))

pub memtables_look : (m : Mutations) (lo : ℕ) (ends : List ℕ) (key : List ℕ) → lo ≤ length m → RisesBy (λ (n : ℕ). n) (lo ∷ ends) → ((hi : ℕ) → Has ends hi → hi ≤ length m)
    → item_at m (newest m key) ≡ looked_up key (item_at (take lo m) (newest (take lo m) key)) (memtables_of m lo ends)
memtables_look m lo [] key l r within = ap (λ (n : Mutations). item_at n (newest n key)) (sym (take_all (length m) m (omega arith))) ∙ memtable_look m lo (length m) key l
memtables_look m lo (hi ∷ ends) key l r within =
    memtables_look m hi ends key (within hi (inl refl)) r.1 (λ k h. within k (inr h))
    ∙ ap (λ (o : Option Item). looked_up key o (memtables_of m hi ends)) (memtable_look m lo hi key (omega (arith, above_first (λ (n : ℕ). n) lo (hi ∷ ends) hi r (inl refl))))

map_first : (a b : Option Item) → option_map entry_of (first_of_two a b) ≡ first_of_two (option_map entry_of a) (option_map entry_of b)
map_first None b = refl
map_first (Some i) b = refl

pub snapshot_look : (l : Layout) (m : Mutations) (lo : ℕ) (key : List ℕ) → Stands l (take lo m)
    → option_map entry_of (item_at m (newest m key)) ≡ first_of_two (option_map entry_of (item_of_key (fresh m lo (length m)) key)) (found l.runs key)
snapshot_look l m lo key s =
    ap (option_map entry_of) (look_list m lo key)
    ∙ (map_first (item_of_key (late lo m) key) (item_at (take lo m) (newest (take lo m) key))
    ∙ (ap (first_of_two (option_map entry_of (item_of_key (late lo m) key))) (sym (found_is_newest l (take lo m) key s))
    ∙ ap (λ (n : Mutations). first_of_two (option_map entry_of (item_of_key (late lo n) key)) (found l.runs key)) (sym (take_all (length m) m (omega arith)))))
