-- The mutation list with one more at its end.
use Rattle.std.proofs.Common.{◌≡◌, ℕ, ◌+◌, ◌-◌, ◌<◌, ◌≤◌, suc, max, min, List, [], ◌∷◌, ◌++◌, length, take, map, Bool, true, false, cond, nat_lt, ◌&&◌, ◌==◌, ◌≢◌, get_or, Option, None, Some, unwrap_or, refl, ap, add-zero, ◌∙◌, sym, arith}
use Rattle.std.specs.Option.{is_some, option_map_or, option_map, option_and_then}
use Rattle.std.specs.Bool.{if◌then◌else◌}
use Rattle.std.specs.List.{filter, find}
use Rattle.std.specs.Str.{bytes_eq}
use Rattle.std.proofs.lemmas.List.{append-nil, map-append, take_more, length-take, length-take-le, length_push, take_all, take-append-le, take-map}
use Rattle.std.proofs.lemmas.Bool.{ltb-true, ltb-false, eqb-true, eqb-false}
use Rattle.std.proofs.lemmas.Bool.Decides.{nat_tests}
use Rattle.std.proofs.lemmas.List.Elements.{filter-append}
use Rattle.mg_model.specs.declared.mutations.Mutation.{Mutation}
use Rattle.mg_types.specs.declared.items.Item.{Item}
use Rattle.mg_types.specs.Items.{is_set}
use Rattle.mg_model.specs.Mutations.{item_of, items_from, items_of, greatest, numbers_of, newest, item_at, read, held}
use Rattle.mg_model.specs.declared.replies.Reply.TheVariants.{Absent, Found}
use Rattle.mg_model.specs.State.{least, get_reply}

items_from-push : (n : ℕ) (ms : List Mutation) (x : Mutation) → items_from n (held (ms ++ x ∷ [])) ≡ items_from n (held ms) ++ item_of (n + length ms) x ∷ []
items_from-push n [] x = rw add-zero refl
items_from-push n (y ∷ ms) x =
    let e : n + 1 + length ms ≡ n + length (y ∷ ms) = omega arith in
    ap (λ r. item_of n y ∷ r) (items_from-push (n + 1) ms x ∙ ap (λ k. items_from (n + 1) (held ms) ++ item_of k x ∷ []) e)

-- one more mutation is one more item
pub items_of-push : (ms : List Mutation) (x : Mutation) → items_of (held (ms ++ x ∷ [])) ≡ items_of (held ms) ++ item_of (length ms + 1) x ∷ []
items_of-push ms x =
    let e : 1 + length ms ≡ length ms + 1 = omega arith in
    items_from-push 1 ms x ∙ ap (λ k. items_of (held ms) ++ item_of k x ∷ []) e

-- one more number
pub greatest-push : (ns : List ℕ) (n : ℕ) → greatest (ns ++ n ∷ []) ≡ Some (option_map_or (λ k. max k n) (greatest ns) n)
greatest-push [] n = refl
greatest-push (m ∷ ns) n =
    ap (λ o. Some (option_map_or (λ k. max m k) o m)) (greatest-push ns n) ∙ ap Some (reordered (greatest ns))
  where
    reordered : (o : Option ℕ) → max m (option_map_or (λ k. max k n) o n) ≡ max (option_map_or (λ k. max m k) o m) n
    reordered None = refl
    reordered (Some k) = omega arith

pub least-push : (ns : List ℕ) (n : ℕ) → least (ns ++ n ∷ []) ≡ Some (option_map_or (λ k. min k n) (least ns) n)
least-push [] n = refl
least-push (m ∷ ns) n =
    ap (λ o. Some (option_map_or (λ k. min m k) o m)) (least-push ns n) ∙ ap Some (reordered (least ns))
  where
    reordered : (o : Option ℕ) → min m (option_map_or (λ k. min k n) o n) ≡ min (option_map_or (λ k. min m k) o m) n
    reordered None = refl
    reordered (Some k) = omega arith

-- the greatest number of a key is below the number that comes next
newest_below : (n b : ℕ) (ms : List Mutation) (key : List ℕ) → n + length ms ≤ b + 1 → unwrap_or (greatest (numbers_of (items_from n (held ms)) key)) 0 ≤ b
newest_below n b [] key h = omega arith
newest_below n b (x ∷ ms) key h = by_key (bytes_eq x.key key) (newest_below (n + 1) b ms key (omega arith))
  where
    later : List Item
    later = filter (λ (i : Item). bytes_eq i.key key) (items_from (n + 1) (held ms))

    with_this : (o : Option ℕ) → unwrap_or o 0 ≤ b → option_map_or (λ k. max n k) o n ≤ b
    with_this None l = omega arith
    with_this (Some k) l = omega arith

    by_key : (c : Bool) → unwrap_or (greatest (map (λ (i : Item). i.seq) later)) 0 ≤ b → unwrap_or (greatest (map (λ (i : Item). i.seq) (cond c (item_of n x ∷ later) later))) 0 ≤ b
    by_key true l = with_this (greatest (map (λ (i : Item). i.seq) later)) l
    by_key false l = l

pub newest-le : (ms : List Mutation) (key : List ℕ) → newest (held ms) key ≤ length ms
newest-le ms key = newest_below 1 (length ms) ms key (omega arith)

-- one more mutation is the newest of its key, and of no other
pub newest-push : (ms : List Mutation) (x : Mutation) (key : List ℕ) → newest (held (ms ++ x ∷ [])) key ≡ if bytes_eq x.key key then length ms + 1 else newest (held ms) key
newest-push ms x key =
    ap (λ items. unwrap_or (greatest (numbers_of items key)) 0) (items_of-push ms x)
    ∙ ap (λ items. unwrap_or (greatest (map (λ (i : Item). i.seq) items)) 0) (filter-append (λ (i : Item). bytes_eq i.key key) (items_of (held ms)) (item_of (length ms + 1) x ∷ []))
    ∙ by_key (bytes_eq x.key key)
  where
    front : List Item
    front = filter (λ (i : Item). bytes_eq i.key key) (items_of (held ms))

    numbers : List ℕ
    numbers = map (λ (i : Item). i.seq) front

    above : (o : Option ℕ) → unwrap_or o 0 ≤ length ms → option_map_or (λ k. max k (length ms + 1)) o (length ms + 1) ≡ length ms + 1
    above None l = refl
    above (Some k) l = omega arith

    by_key : (c : Bool) → unwrap_or (greatest (map (λ (i : Item). i.seq) (front ++ cond c (item_of (length ms + 1) x ∷ []) []))) 0 ≡ if c then length ms + 1 else newest (held ms) key
    by_key true =
        ap (λ ns. unwrap_or (greatest ns) 0) (map-append (λ (i : Item). i.seq) front (item_of (length ms + 1) x ∷ []))
        ∙ ap (λ o. unwrap_or o 0) (greatest-push numbers (length ms + 1))
        ∙ above (greatest numbers) (newest-le ms key)
    by_key false = ap (λ ns. unwrap_or (greatest ns) 0) (map-append (λ (i : Item). i.seq) front []) ∙ ap (λ ns. unwrap_or (greatest ns) 0) (append-nil numbers)

-- a pass over a list, one mutation on
take_read : (ms : List Mutation) (i : ℕ) (x : Mutation) → i < length ms → x ≡ get_or ms i x → take (i + 1) ms ≡ take i ms ++ x ∷ []
take_read ms i x h e = take_more ms i x h ∙ ap (λ (y : Mutation). take i ms ++ y ∷ []) (sym e)

pub newest_more : (ms : List Mutation) (i : ℕ) (x : Mutation) (key : List ℕ) → i < length ms → x ≡ get_or ms i x → newest (held (take (i + 1) ms)) key ≡ if bytes_eq x.key key then i + 1 else newest (held (take i ms)) key
newest_more ms i x key h e =
    ap (λ (l : List Mutation). newest (held l) key) (take_read ms i x h e)
    ∙ newest-push (take i ms) x key
    ∙ ap (λ (n : ℕ). if bytes_eq x.key key then n + 1 else newest (held (take i ms)) key) (length-take-le i ms (omega arith))

pub items_of_more : (ms : List Mutation) (i : ℕ) (x : Mutation) → i < length ms → x ≡ get_or ms i x → items_of (held (take (i + 1) ms)) ≡ items_of (held (take i ms)) ++ item_of (i + 1) x ∷ []
items_of_more ms i x h e =
    ap (λ (l : List Mutation). items_of (held l)) (take_read ms i x h e)
    ∙ items_of-push (take i ms) x
    ∙ ap (λ (n : ℕ). items_of (held (take i ms)) ++ item_of (n + 1) x ∷ []) (length-take-le i ms (omega arith))

-- at most n of a list with one more
pub take-push : {X : Type 0} (n : ℕ) (xs : List X) (x : X) → take n (xs ++ x ∷ []) ≡ if nat_lt (length (take n xs)) n then take n xs ++ x ∷ [] else take n xs
take-push n xs x = by_test (nat_lt (length (take n xs)) n) refl
  where
    by_test : (b : Bool) → nat_lt (length (take n xs)) n ≡ b → take n (xs ++ x ∷ []) ≡ if b then take n xs ++ x ∷ [] else take n xs
    by_test true e =
        let l : length (take n xs) < n = omega (arith, ltb-true, e) in
        let short : length xs < n = omega (arith, length-take n xs) in
        let whole : length (xs ++ x ∷ []) ≤ n = omega (arith, length_push xs x) in
        take_all n (xs ++ x ∷ []) whole ∙ ap (λ ys. ys ++ x ∷ []) (sym (take_all n xs (omega arith)))
    by_test false e =
        let l : n ≤ length (take n xs) = omega (arith, ltb-false, e) in
        take-append-le n xs (x ∷ []) (omega (arith, length-take n xs))

-- two filters of a list with one more
pub filter-filter-push : {X : Type 0} (p q : X → Bool) (xs : List X) (x : X) → filter p (filter q (xs ++ x ∷ [])) ≡ if q x && p x then filter p (filter q xs) ++ x ∷ [] else filter p (filter q xs)
filter-filter-push p q xs x =
    ap (filter p) (filter-append q xs (x ∷ []))
    ∙ filter-append p (filter q xs) (filter q (x ∷ []))
    ∙ by_tests (q x) (p x) refl
  where
    by_tests : (b c : Bool) → p x ≡ c → filter p (filter q xs) ++ filter p (cond b (x ∷ []) []) ≡ if b && c then filter p (filter q xs) ++ x ∷ [] else filter p (filter q xs)
    by_tests true true e = ap (λ d. filter p (filter q xs) ++ cond d (x ∷ []) []) e
    by_tests true false e = ap (λ d. filter p (filter q xs) ++ cond d (x ∷ []) []) e ∙ append-nil (filter p (filter q xs))
    by_tests false c e = append-nil (filter p (filter q xs))

-- the feed of all newest mutations, as far as the first i places
abbrev pub feed_so_far : List Mutation → ℕ → ℕ → ℕ → List Item
feed_so_far ms after limit i =
    take limit (filter (λ (n : Item). nat_lt after n.seq) (filter (λ (n : Item). newest (held ms) n.key == n.seq) (items_of (held (take i ms)))))

-- a feed takes the next mutation where there is room, and it comes after, and it is the newest of its key
pub feed_more : (ms : List Mutation) (after limit i : ℕ) (x : Mutation) → i < length ms → x ≡ get_or ms i x
    → feed_so_far ms after limit (i + 1) ≡ if (newest (held ms) x.key == i + 1) && nat_lt after (i + 1) && nat_lt (length (feed_so_far ms after limit i)) limit
    then feed_so_far ms after limit i ++ item_of (i + 1) x ∷ [] else feed_so_far ms after limit i
feed_more ms after limit i x h e =
    ap (λ items. take limit (filter (λ (n : Item). nat_lt after n.seq) (filter (λ (n : Item). newest (held ms) n.key == n.seq) items))) (items_of_more ms i x h e)
    ∙ ap (take limit) (filter-filter-push (λ (n : Item). nat_lt after n.seq) (λ (n : Item). newest (held ms) n.key == n.seq) (items_of (held (take i ms))) (item_of (i + 1) x))
    ∙ by_tests ((newest (held ms) x.key == i + 1) && nat_lt after (i + 1))
  where
    front : List Item
    front = filter (λ (n : Item). nat_lt after n.seq) (filter (λ (n : Item). newest (held ms) n.key == n.seq) (items_of (held (take i ms))))

    by_tests : (b : Bool) → take limit (if b then front ++ item_of (i + 1) x ∷ [] else front)
        ≡ if b && nat_lt (length (take limit front)) limit then take limit front ++ item_of (i + 1) x ∷ [] else take limit front
    by_tests true = take-push limit front (item_of (i + 1) x)
    by_tests false = refl

-- the choice of a feed, by its three tests
abbrev pub fed : List Mutation → ℕ → ℕ → ℕ → Mutation → Bool
fed ms after limit i x = (newest (held ms) x.key == i + 1) && nat_lt after (i + 1) && nat_lt (length (feed_so_far ms after limit i)) limit

-- the choice of a feed, where its first two tests are made in one
pub fed_due : (ms : List Mutation) (after limit i : ℕ) (x : Mutation) → (nat_lt after (i + 1) && (newest (held ms) x.key == i + 1)) ≡ true → length (feed_so_far ms after limit i) < limit → fed ms after limit i x ≡ true
fed_due ms after limit i x d r = passed (newest (held ms) x.key == i + 1) (nat_lt after (i + 1)) (length (feed_so_far ms after limit i)) limit d r
  where
    passed : (b c : Bool) (k l : ℕ) → (c && b) ≡ true → k < l → (b && c && nat_lt k l) ≡ true
    passed true true k l d r = grind (arith, nat_tests)
    passed true false k l d r = d
    passed false true k l d r = d
    passed false false k l d r = d

pub fed_not_due : (ms : List Mutation) (after limit i : ℕ) (x : Mutation) → (nat_lt after (i + 1) && (newest (held ms) x.key == i + 1)) ≡ false → fed ms after limit i x ≡ false
fed_not_due ms after limit i x d = failed (newest (held ms) x.key == i + 1) (nat_lt after (i + 1)) (nat_lt (length (feed_so_far ms after limit i)) limit) d
  where
    failed : (b c e : Bool) → (c && b) ≡ false → (b && c && e) ≡ false
    failed true true e d = absurd cc
    failed true false e d = refl
    failed false c e d = refl

pub fed_full : (ms : List Mutation) (after limit i : ℕ) (x : Mutation) → limit ≤ length (feed_so_far ms after limit i) → fed ms after limit i x ≡ false
fed_full ms after limit i x l = failed (newest (held ms) x.key == i + 1) (nat_lt after (i + 1)) (length (feed_so_far ms after limit i)) limit l
  where
    failed : (b c : Bool) (k l : ℕ) → l ≤ k → (b && c && nat_lt k l) ≡ false
    failed b c k l h = grind (arith, nat_tests)

-- the newest mutations of the list, as far as the first i places
abbrev pub live_so_far : List Mutation → ℕ → List Item
live_so_far ms i = filter (λ (n : Item). newest (held ms) n.key == n.seq) (items_of (held (take i ms)))

-- the next mutation is one more where it is the newest of its key
pub live_more : (ms : List Mutation) (i : ℕ) (x : Mutation) → i < length ms → x ≡ get_or ms i x
    → live_so_far ms (i + 1) ≡ if newest (held ms) x.key == i + 1 then live_so_far ms i ++ item_of (i + 1) x ∷ [] else live_so_far ms i
live_more ms i x h e =
    ap (filter (λ (n : Item). newest (held ms) n.key == n.seq)) (items_of_more ms i x h e)
    ∙ filter-append (λ (n : Item). newest (held ms) n.key == n.seq) (items_of (held (take i ms))) (item_of (i + 1) x ∷ [])
    ∙ by_test (newest (held ms) x.key == i + 1)
  where
    by_test : (b : Bool) → live_so_far ms i ++ cond b (item_of (i + 1) x ∷ []) [] ≡ if b then live_so_far ms i ++ item_of (i + 1) x ∷ [] else live_so_far ms i
    by_test true = refl
    by_test false = append-nil (live_so_far ms i)

pub live_grows : (ms : List Mutation) (i : ℕ) (x : Mutation) → i < length ms → x ≡ get_or ms i x → newest (held ms) x.key ≡ i + 1
    → live_so_far ms (i + 1) ≡ live_so_far ms i ++ item_of (i + 1) x ∷ []
live_grows ms i x h e n = live_more ms i x h e ∙ chosen (newest (held ms) x.key) (i + 1) n
  where
    chosen : (u v : ℕ) → u ≡ v → (if u == v then live_so_far ms i ++ item_of (i + 1) x ∷ [] else live_so_far ms i) ≡ live_so_far ms i ++ item_of (i + 1) x ∷ []
    chosen u v e = grind (arith, nat_tests)

pub live_stays : (ms : List Mutation) (i : ℕ) (x : Mutation) → i < length ms → x ≡ get_or ms i x → newest (held ms) x.key ≢ i + 1
    → live_so_far ms (i + 1) ≡ live_so_far ms i
live_stays ms i x h e n = live_more ms i x h e ∙ chosen (newest (held ms) x.key) (i + 1) n
  where
    chosen : (u v : ℕ) → u ≢ v → (if u == v then live_so_far ms i ++ item_of (i + 1) x ∷ [] else live_so_far ms i) ≡ live_so_far ms i
    chosen u v e = grind (arith, nat_tests)

-- a filter of a list with one more
filter_keeps : {X : Type 0} (p : X → Bool) (xs : List X) (x : X) → p x ≡ true → filter p (xs ++ x ∷ []) ≡ filter p xs ++ x ∷ []
filter_keeps p xs x e = filter-append p xs (x ∷ []) ∙ ap (λ b. filter p xs ++ cond b (x ∷ []) []) e

filter_drops : {X : Type 0} (p : X → Bool) (xs : List X) (x : X) → p x ≡ false → filter p (xs ++ x ∷ []) ≡ filter p xs
filter_drops p xs x e = filter-append p xs (x ∷ []) ∙ ap (λ b. filter p xs ++ cond b (x ∷ []) []) e ∙ append-nil (filter p xs)

-- the sets among the newest mutations, as far as the first i places
abbrev pub live_sets : List Mutation → ℕ → List Item
live_sets ms i = filter is_set (live_so_far ms i)

pub live_sets_grow : (ms : List Mutation) (i : ℕ) (x : Mutation) → i < length ms → x ≡ get_or ms i x → (is_some x.doc && (newest (held ms) x.key == i + 1)) ≡ true
    → live_sets ms (i + 1) ≡ live_sets ms i ++ item_of (i + 1) x ∷ []
live_sets_grow ms i x h e t =
    let both = and_parts (is_some x.doc) (newest (held ms) x.key == i + 1) t in
    ap (filter is_set) (live_grows ms i x h e (eqb-true (newest (held ms) x.key) (i + 1) both.1)) ∙ filter_keeps is_set (live_so_far ms i) (item_of (i + 1) x) both.0
  where
    and_parts : (a b : Bool) → (a && b) ≡ true → (a ≡ true) × (b ≡ true)
    and_parts true b t = (refl, t)
    and_parts false b t = absurd cc

pub live_sets_stay : (ms : List Mutation) (i : ℕ) (x : Mutation) → i < length ms → x ≡ get_or ms i x → (is_some x.doc && (newest (held ms) x.key == i + 1)) ≡ false
    → live_sets ms (i + 1) ≡ live_sets ms i
live_sets_stay ms i x h e t = ap (filter is_set) (live_more ms i x h e) ∙ by_tests (is_some x.doc) (newest (held ms) x.key == i + 1) refl t
  where
    by_tests : (a b : Bool) → is_set (item_of (i + 1) x) ≡ a → (a && b) ≡ false → filter is_set (if b then live_so_far ms i ++ item_of (i + 1) x ∷ [] else live_so_far ms i) ≡ live_sets ms i
    by_tests true true s t = absurd cc
    by_tests false true s t = filter_drops is_set (live_so_far ms i) (item_of (i + 1) x) s
    by_tests a false s t = refl

-- the first places hold the first mutations
pub held_take : (n : ℕ) (ms : List Mutation) → take n (held ms) ≡ held (take n ms)
held_take n ms = take-map (λ (x : Mutation). Some x) n ms

-- the mutation at a place of the list
item_found : (ms : List Mutation) (k n : ℕ) (d : Mutation) → k ≤ n → n < k + length ms → find (λ (i : Item). i.seq == n) (items_from k (held ms)) ≡ Some (item_of n (get_or ms (n - k) d))
item_found [] k n d l h = absurd (omega arith)
item_found (x ∷ ms) k n d l h = by_test (k == n) refl (λ m. item_found ms (k + 1) n d m (omega arith))
  where
    later : Option Item
    later = find (λ (i : Item). i.seq == n) (items_from (k + 1) (held ms))

    by_test : (b : Bool) → (k == n) ≡ b → (k + 1 ≤ n → later ≡ Some (item_of n (get_or ms (n - (k + 1)) d))) → cond b (Some (item_of k x)) later ≡ Some (item_of n (get_or (x ∷ ms) (n - k) d))
    by_test true e _ =
        let same : k ≡ n = eqb-true k n e in
        let none : n - k ≡ 0 = omega arith in
        rw (none, same) refl
    by_test false e found =
        let other : k ≢ n = eqb-false k n e in
        let next : n - k ≡ suc (n - (k + 1)) = omega arith in
        found (omega arith) ∙ rw next refl

item_missing : (ms : List Mutation) (k : ℕ) → 0 < k → find (λ (i : Item). i.seq == 0) (items_from k (held ms)) ≡ None
item_missing [] k l = refl
item_missing (x ∷ ms) k l = ap (λ b. cond b (Some (item_of k x)) (find (λ (i : Item). i.seq == 0) (items_from (k + 1) (held ms)))) (not_zero k l) ∙ item_missing ms (k + 1) (omega arith)
  where
    not_zero : (k : ℕ) → 0 < k → (k == 0) ≡ false
    not_zero k l = grind (arith, nat_tests)

-- what a key reads as: nothing where it has no mutation
read_absent : (ms : List Mutation) (key : List ℕ) → newest (held ms) key ≡ 0 → read (held ms) key ≡ None
read_absent ms key e = ap (λ n. option_and_then (λ (i : Item). option_map (λ (doc : List ℕ). (i.seq, doc)) i.doc) (item_at (held ms) n)) e ∙ ap (option_and_then (λ (i : Item). option_map (λ (doc : List ℕ). (i.seq, doc)) i.doc)) (item_missing ms 1 (omega arith))

-- what a key reads as: the document of its newest mutation
read_newest : (ms : List Mutation) (key : List ℕ) (place : ℕ) (x : Mutation) → newest (held ms) key ≡ place → place ≢ 0 → x ≡ get_or ms (place - 1) x → read (held ms) key ≡ option_map (λ (doc : List ℕ). (place, doc)) x.doc
read_newest ms key place x e n at =
    let within : place ≤ length ms = omega (arith, newest-le ms key) in
    ap (λ k. option_and_then (λ (i : Item). option_map (λ (doc : List ℕ). (i.seq, doc)) i.doc) (item_at (held ms) k)) e
    ∙ ap (option_and_then (λ (i : Item). option_map (λ (doc : List ℕ). (i.seq, doc)) i.doc)) (item_found ms 1 place x (omega arith) (omega arith))
    ∙ ap (λ (y : Mutation). option_map (λ (doc : List ℕ). (place, doc)) y.doc) (sym at)

pub newest_within : (ms : List Mutation) (key : List ℕ) (place : ℕ) → place ≡ newest (held ms) key → place ≤ length ms
newest_within ms key place e = omega (arith, newest-le ms key)

-- what a get of a key replies, by its newest mutation
pub get_absent : (ms : List Mutation) (key : List ℕ) → newest (held ms) key ≡ 0 → get_reply (read (held ms) key) ≡ Absent
get_absent ms key e = ap get_reply (read_absent ms key e)

pub get_found : (ms : List Mutation) (key : List ℕ) (place : ℕ) (x : Mutation) (doc : List ℕ) → newest (held ms) key ≡ place → place ≢ 0 → x ≡ get_or ms (place - 1) x → x.doc ≡ Some doc → get_reply (read (held ms) key) ≡ Found place doc
get_found ms key place x doc e n at d = ap get_reply (read_newest ms key place x e n at) ∙ ap (λ (o : Option (List ℕ)). get_reply (option_map (λ (doc : List ℕ). (place, doc)) o)) d

pub get_deleted : (ms : List Mutation) (key : List ℕ) (place : ℕ) (x : Mutation) → newest (held ms) key ≡ place → place ≢ 0 → x ≡ get_or ms (place - 1) x → x.doc ≡ None → get_reply (read (held ms) key) ≡ Absent
get_deleted ms key place x e n at d = ap get_reply (read_newest ms key place x e n at) ∙ ap (λ (o : Option (List ℕ)). get_reply (option_map (λ (doc : List ℕ). (place, doc)) o)) d
