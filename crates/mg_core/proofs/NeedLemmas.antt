-- States of which the same is needed.
use Rattle.std.proofs.Common.{◌≡◌, ◌⊎◌, inl, inr, ℕ, suc, ◌+◌, ◌<◌, ◌≤◌, max, List, [], ◌∷◌, ◌++◌, length, take, Bool, true, false, not, ◌||◌, ◌==◌, nat_le, nat_lt, Option, None, Some, refl, ap, subst, ◌∙◌, sym, arith}
use Rattle.std.specs.Bool.{if◌then◌else◌, IsTrue}
use Rattle.std.specs.List.{filter, find, list_any, sum_by}
use Rattle.std.specs.Option.{option_and_then, option_map, option_map_or}
use Rattle.std.specs.Str.{bytes_eq}
use Rattle.std.proofs.lemmas.Bool.{both_ways, cases_lt, leb-true, not-true}
use Rattle.std.proofs.lemmas.List.{length-take-le, length_push, take-append-le, take-take, take_all}
use Rattle.mg_types.specs.declared.items.Item.{Item}
use Rattle.mg_types.specs.Items.{doc_size, is_set, size_of}
use Rattle.mg_model.specs.declared.calls.Call.{Call}
use Rattle.mg_model.specs.declared.calls.Call.TheVariants.{Set, Del, Get, Feed, Mark, Forget, Rollback, Clear, Sync, Compact, Stats}
use Rattle.mg_model.specs.declared.calls.Change.{Change}
use Rattle.mg_model.specs.declared.calls.Change.TheVariants as change
use Rattle.mg_model.specs.declared.mutations.Mutation.{Mutation}
use Rattle.mg_model.specs.declared.replies.Reply.{Reply}
use Rattle.mg_model.specs.declared.replies.Reply.TheVariants as reply
use Rattle.mg_model.specs.Mutations.{Mutations, end_of, feed_of, greatest, item_at, item_of, items_from, items_of, live, newest, read}
use Rattle.mg_model.specs.State.{State, after_back, after_clear, after_forget, after_mark, after_write, get_reply, has_mark_room, is_mark, least, length_of, mark_at_most, mark_limit, marks_of, replies, rollback, step}
use Rattle.mg_model.specs.History.{AllAllowed, after_change, after_changes, allows}
use Rattle.mg_core.specs.Lists.{Has, Within}
use Rattle.mg_core.specs.Need.{NeedSame, RestsOnNeed}
use Rattle.mg_core.proofs.ListLemmas.{all_has, all_join, find_none, find_one, same_rising, bytes_same, from_append, from_filter, from_occurs, has_all, has_filter, has_left, has_right, newest_least, rises_filter, rises_join, same_bytes}
use Rattle.mg_core.proofs.ItemLemmas.{at_most_newest, is_live, item_within, live_rises, newest_item, newest_of, one_item}
use Rattle.mg_core.proofs.ReadLemmas.{item_none, item_there}

-- one more mutation

items_pushed : (n : ℕ) (m : Mutations) (x : Mutation) → items_from n (m ++ Some x ∷ []) ≡ items_from n m ++ item_of (n + length m) x ∷ []
items_pushed n [] x = let e : n ≡ n + 0 = omega arith in ap (λ (k : ℕ). item_of k x ∷ []) e
items_pushed n (None ∷ m) x =
    let e : n + 1 + length m ≡ n + suc (length m) = omega arith in
    items_pushed (n + 1) m x ∙ ap (λ (k : ℕ). items_from (n + 1) m ++ item_of k x ∷ []) e
items_pushed n (Some y ∷ m) x =
    let e : n + 1 + length m ≡ n + length (Some y ∷ m) = omega arith in
    ap (λ (is : List Item). item_of n y ∷ is) (items_pushed (n + 1) m x ∙ ap (λ (k : ℕ). items_from (n + 1) m ++ item_of k x ∷ []) e)

-- the newest mutations are the new one and those of other keys
pub live_pushed : (m : Mutations) (x : Mutation) → live (m ++ Some x ∷ []) ≡ filter (λ (i : Item). not (bytes_eq i.key x.key)) (live m) ++ item_of (1 + length m) x ∷ []
live_pushed m x = same_rising (λ (i : Item). i.seq) (live whole) (others ++ new ∷ []) (live_rises whole)
    (rises_join (λ (i : Item). i.seq) others (new ∷ []) (rises_filter (λ (i : Item). i.seq) (λ (i : Item). not (bytes_eq i.key x.key)) (live m) (live_rises m)) (tt, tt) (λ i j h k. below i j (other_of i h).0 k))
    there back
  where
    whole : Mutations
    whole = m ++ Some x ∷ []

    new : Item
    new = item_of (1 + length m) x

    others : List Item
    others = filter (λ (i : Item). not (bytes_eq i.key x.key)) (live m)

    other_of : (i : Item) → Has others i → Has (live m) i × (bytes_eq i.key x.key ≡ false)
    other_of i h = let q = from_filter (λ (i : Item). not (bytes_eq i.key x.key)) (live m) i h in (q.0, not-true (bytes_eq i.key x.key) q.1)

    below : (i j : Item) → Has (live m) i → Has (new ∷ []) j → i.seq < j.seq
    below i j h (inl e) = omega (arith, (item_within m i (newest_of m i h).0).1, ap (λ (i : Item). i.seq) e)
    below i j h (inr k) = absurd k

    of_whole : (i : Item) → Has (items_of whole) i → Has (items_of m) i ⊎ Has (new ∷ []) i
    of_whole i h = from_append (items_of m) (new ∷ []) i (subst (λ (is : List Item). Has is i) (items_pushed 1 m x) h)

    in_whole : (i : Item) → Has (items_of m) i → Has (items_of whole) i
    in_whole i h = subst (λ (is : List Item). Has is i) (sym (items_pushed 1 m x)) (has_left (items_of m) (new ∷ []) i h)

    new_there : Has (items_of whole) new
    new_there = subst (λ (is : List Item). Has is new) (sym (items_pushed 1 m x)) (has_right (items_of m) (new ∷ []) new (inl refl))

    not_same : (i : Item) → Has (items_of m) i → newest whole i.key ≡ i.seq → (b : Bool) → bytes_eq i.key x.key ≡ b → not (bytes_eq i.key x.key) ≡ true
    not_same i h e true t = absurd (omega (arith, (item_within m i h).1, e, ap (newest whole) (same_bytes i.key x.key t), at_most_newest whole new new_there))
    not_same i h e false t = ap not t

    stays : (i : Item) → Has (items_of m) i → newest whole i.key ≡ i.seq → Has (live m) i
    stays i h e =
        let least = newest_least (λ (j : Item). j.key) (λ (j : Item). j.seq) (items_of m) i.key i.seq (λ j k s. omega (arith, at_most_newest whole j (in_whole j k), ap (newest whole) s, e)) in
        is_live m i h (omega (arith, least, at_most_newest m i h))

    there : Within (live whole) (others ++ new ∷ [])
    there i h = let q = newest_of whole i h in
        elim (of_whole i q.0) [
          | inl b ↦ has_left others (new ∷ []) i (has_filter (λ (i : Item). not (bytes_eq i.key x.key)) (live m) i (stays i b q.1) (not_same i b q.1 (bytes_eq i.key x.key) refl))
          | inr b ↦ has_right others (new ∷ []) i b
        ]

    at_most : (i : Item) → Has (live m) i → bytes_eq i.key x.key ≡ false → (j : Item) → j.key ≡ i.key → Has (items_of m) j ⊎ Has (new ∷ []) j → j.seq ≤ i.seq
    at_most i h f j s (inl k) = omega (arith, at_most_newest m j k, ap (newest m) s, (newest_of m i h).1)
    at_most i h f j s (inr (inl e)) = absurd (both_ways (bytes_eq i.key x.key) f (bytes_same i.key x.key (sym s ∙ sym (ap (λ (i : Item). i.key) e))))
    at_most i h f j s (inr (inr k)) = absurd k

    new_most : (j : Item) → Has (items_of m) j ⊎ Has (new ∷ []) j → j.seq ≤ 1 + length m
    new_most j (inl k) = omega (arith, (item_within m j k).1)
    new_most j (inr (inl e)) = omega (arith, ap (λ (i : Item). i.seq) e)
    new_most j (inr (inr k)) = absurd k

    new_live : Has (live whole) new
    new_live =
        let least = newest_least (λ (j : Item). j.key) (λ (j : Item). j.seq) (items_of whole) x.key (1 + length m) (λ j k s. new_most j (of_whole j k)) in
        is_live whole new new_there (omega (arith, least, at_most_newest whole new new_there))

    back : Within (others ++ new ∷ []) (live whole)
    back i h = elim (from_append others (new ∷ []) i h) [
      | inl b ↦ let q = other_of i b in
          let there = in_whole i (newest_of m i q.0).0 in
          let least = newest_least (λ (j : Item). j.key) (λ (j : Item). j.seq) (items_of whole) i.key i.seq (λ j k s. at_most i q.0 q.1 j s (of_whole j k)) in
          is_live whole i there (omega (arith, least, at_most_newest whole i there))
      | inr b ↦ elim b [ inl e ↦ subst (Has (live whole)) e new_live | inr k ↦ absurd k ]
    ]

-- what the newest mutations give of a key

item_by_live : (m : Mutations) (key : List ℕ) → item_at m (newest m key) ≡ find (λ (i : Item). bytes_eq i.key key) (live m)
item_by_live m key = elim (cases_lt 0 (newest m key)) [
  | inl l ↦ let i = newest_item m key l in
      item_there m i.0 (newest m key) (newest_of m i.0 i.1).0 i.3
      ∙ sym (find_one (λ (i : Item). bytes_eq i.key key) (live m) i.0 i.1 (bytes_same i.0.key key i.2)
      (λ j h t. let q = newest_of m j h in one_item m j i.0 q.0 (newest_of m i.0 i.1).0 (sym q.1 ∙ ap (newest m) (same_bytes j.key key t) ∙ sym i.3)))
  | inr l ↦ let none : newest m key ≡ 0 = omega (arith, l) in
      item_none m (newest m key) none
      ∙ sym (find_none (λ (i : Item). bytes_eq i.key key) (live m) (λ i h. other i h none (bytes_eq i.key key) refl))
]
  where
    other : (i : Item) → Has (live m) i → newest m key ≡ 0 → (b : Bool) → bytes_eq i.key key ≡ b → bytes_eq i.key key ≡ false
    other i h none true t = let q = newest_of m i h in absurd (omega (arith, (item_within m i q.0).0, q.1, ap (newest m) (same_bytes i.key key t), none))
    other i h none false t = t

pub reads_by_live : (m n : Mutations) (key : List ℕ) → live m ≡ live n → read m key ≡ read n key
reads_by_live m n key e = ap (option_and_then (λ (i : Item). option_map (λ (doc : List ℕ). (i.seq, doc)) i.doc)) (item_by_live m key ∙ (ap (find (λ (i : Item). bytes_eq i.key key)) e ∙ sym (item_by_live n key)))

-- replies

rollback_reply : (s t : State) (o : Option ℕ) → marks_of s ≡ marks_of t → s.epoch ≡ t.epoch → (rollback s o).reply ≡ (rollback t o).reply
rollback_reply s t None m e = ap (λ (ms : List ℕ). reply.Reset (least ms)) m
rollback_reply s t (Some mark) m e = ap (λ (n : ℕ). reply.Back mark (n + 1)) e

mark_reply : (b : Bool) (s : State) → (if b then record { state = after_mark s; reply = reply.Marked (length_of s) } else replies s (reply.Full mark_limit)).reply ≡ (if b then reply.Marked (length_of s) else reply.Full mark_limit)
mark_reply true s = refl
mark_reply false s = refl

forget_reply : (b : Bool) (s : State) (mark : ℕ) → (if b then record { state = after_forget s mark; reply = reply.Forgot mark } else replies s (reply.NoMark mark)).reply ≡ (if b then reply.Forgot mark else reply.NoMark mark)
forget_reply true s mark = refl
forget_reply false s mark = refl

same_mark_room : (s t : State) → NeedSame s t → (is_mark s (length_of s) || has_mark_room s) ≡ (is_mark t (length_of t) || has_mark_room t)
same_mark_room s t h =
    ap (λ (n : ℕ). list_any (λ mark. mark == n) (marks_of s) || nat_lt (length (marks_of s)) mark_limit) h.lengths
    ∙ ap (λ (ms : List ℕ). list_any (λ mark. mark == length_of t) ms || nat_lt (length ms) mark_limit) h.same_marks

pub need_replies : (s t : State) (call : Call) → NeedSame s t → RestsOnNeed s call → (step s call).reply ≡ (step t call).reply
need_replies s t (Set key doc) h r = ap (λ (n : ℕ). reply.Seq (n + 1)) h.lengths
need_replies s t (Del key) h r = ap (λ (n : ℕ). reply.Seq (n + 1)) h.lengths
need_replies s t (Get key) h r = ap get_reply (reads_by_live s.mutations t.mutations key h.newest)
need_replies s t (Feed epoch after limit) h r =
    ap (λ (e : ℕ). feed_by e (length_of s) (live s.mutations)) h.epochs
    ∙ (ap (λ (n : ℕ). feed_by t.epoch n (live s.mutations)) h.lengths ∙ ap (λ (is : List Item). feed_by t.epoch (length_of t) is) h.newest)
  where
    feed_by : ℕ → ℕ → List Item → Reply
    feed_by e n is =
        if not (epoch == e) then reply.Epoch e
        else (if nat_lt n after then reply.Ahead n
        else reply.Feed e (end_of (feed_of is after limit) n after limit) (feed_of is after limit))
need_replies s t Mark h r =
    mark_reply (is_mark s (length_of s) || has_mark_room s) s
    ∙ (ap (λ (b : Bool). if b then reply.Marked (length_of s) else reply.Full mark_limit) (same_mark_room s t h)
    ∙ (ap (λ (n : ℕ). if is_mark t (length_of t) || has_mark_room t then reply.Marked n else reply.Full mark_limit) h.lengths
    ∙ sym (mark_reply (is_mark t (length_of t) || has_mark_room t) t)))
need_replies s t (Forget mark) h r =
    forget_reply (is_mark s mark) s mark
    ∙ (ap (λ (ms : List ℕ). if list_any (λ m. m == mark) ms then reply.Forgot mark else reply.NoMark mark) h.same_marks
    ∙ sym (forget_reply (is_mark t mark) t mark))
need_replies s t (Rollback to) h r =
    rollback_reply s t (mark_at_most s to) h.same_marks h.epochs ∙ ap (λ (ms : List ℕ). (rollback t (greatest (filter (λ mark. nat_le mark to) ms))).reply) h.same_marks
need_replies s t Clear h r = ap (λ (n : ℕ). reply.Cleared (n + 1)) h.epochs
need_replies s t Sync h r = refl
need_replies s t (Compact through) h r =
    ap (λ (is : List Item). reply.Compacted through (length is) (sum_by size_of is))
    (ap live (take_all through s.mutations (omega (arith, r))) ∙ (h.newest ∙ ap live (sym (take_all through t.mutations (omega (arith, r, h.lengths))))))
need_replies s t Stats h r =
    ap (λ (n : ℕ). stats_by n (live s.mutations) (marks_of s) s.epoch) h.lengths
    ∙ (ap (λ (is : List Item). stats_by (length_of t) is (marks_of s) s.epoch) h.newest
    ∙ (ap (λ (ms : List ℕ). stats_by (length_of t) (live t.mutations) ms s.epoch) h.same_marks
    ∙ ap (λ (e : ℕ). stats_by (length_of t) (live t.mutations) (marks_of t) e) h.epochs))
  where
    stats_by : ℕ → List Item → List ℕ → ℕ → Reply
    stats_by n is ms e = reply.Stats n (length (filter is_set is)) (sum_by doc_size (filter is_set is)) (length ms) e

-- new states

need_write : (s t : State) (x : Mutation) → NeedSame s t → NeedSame (after_write s x) (after_write t x)
need_write s t x h = record {
  lengths = longer s ∙ (ap (λ (n : ℕ). n + 1) h.lengths ∙ sym (longer t));
  same_marks = h.same_marks;
  epochs = h.epochs;
  within = has_all (λ (mark : ℕ). mark ≤ length (s.mutations ++ Some x ∷ [])) (marks_of s) (λ mark k. omega (arith, longer s, inside mark k));
  newest = live_pushed s.mutations x
      ∙ (ap (λ (is : List Item). filter (λ (i : Item). not (bytes_eq i.key x.key)) is ++ item_of (1 + length s.mutations) x ∷ []) h.newest
      ∙ (ap (λ (n : ℕ). filter (λ (i : Item). not (bytes_eq i.key x.key)) (live t.mutations) ++ item_of (1 + n) x ∷ []) h.lengths ∙ sym (live_pushed t.mutations x)));
  marked = has_all (λ (mark : ℕ). live (take mark (s.mutations ++ Some x ∷ [])) ≡ live (take mark (t.mutations ++ Some x ∷ []))) (marks_of s)
      (λ mark k. ap live (take-append-le mark s.mutations (Some x ∷ []) (inside mark k))
      ∙ (all_has (λ (mark : ℕ). live (take mark s.mutations) ≡ live (take mark t.mutations)) (marks_of s) h.marked mark k
      ∙ ap live (sym (take-append-le mark t.mutations (Some x ∷ []) (omega (arith, inside mark k, h.lengths))))));
}
  where
    longer : (s : State) → length (s.mutations ++ Some x ∷ []) ≡ length s.mutations + 1
    longer s = length_push s.mutations (Some x)

    inside : (mark : ℕ) → Has (marks_of s) mark → mark ≤ length s.mutations
    inside mark k = all_has (λ (mark : ℕ). mark ≤ length s.mutations) (marks_of s) h.within mark k

need_mark : (s t : State) → NeedSame s t → NeedSame (after_mark s) (after_mark t)
need_mark s t h = subst (λ (b : Bool). NeedSame (after_mark s) (marked_if b t)) same (by_test (is_mark s (length_of s)))
  where
    marked_if : Bool → State → State
    marked_if b s = if b then s else record s { marks = marks_of s ++ length_of s ∷ [] }

    same : is_mark s (length_of s) ≡ is_mark t (length_of t)
    same = ap (λ (n : ℕ). list_any (λ mark. mark == n) (marks_of s)) h.lengths ∙ ap (λ (ms : List ℕ). list_any (λ mark. mark == length_of t) ms) h.same_marks

    by_test : (b : Bool) → NeedSame (marked_if b s) (marked_if b t)
    by_test true = h
    by_test false = record {
      lengths = h.lengths;
      same_marks = ap (λ (ms : List ℕ). ms ++ length_of s ∷ []) h.same_marks ∙ ap (λ (n : ℕ). marks_of t ++ n ∷ []) h.lengths;
      epochs = h.epochs;
      within = all_join (λ (mark : ℕ). mark ≤ length_of s) (marks_of s) (length_of s ∷ []) h.within (omega arith, tt);
      newest = h.newest;
      marked = all_join (λ (mark : ℕ). live (take mark s.mutations) ≡ live (take mark t.mutations)) (marks_of s) (length_of s ∷ []) h.marked
          (ap live (take_all (length_of s) s.mutations (omega arith)) ∙ (h.newest ∙ ap live (sym (take_all (length_of s) t.mutations (omega (arith, h.lengths))))), tt);
    }

need_forget : (s t : State) (place : ℕ) → NeedSame s t → NeedSame (after_forget s place) (after_forget t place)
need_forget s t place h = record {
  lengths = h.lengths;
  same_marks = ap (filter (λ mark. not (mark == place))) h.same_marks;
  epochs = h.epochs;
  within = has_all (λ (mark : ℕ). mark ≤ length_of s) (filter (λ mark. not (mark == place)) (marks_of s))
      (λ mark k. all_has (λ (mark : ℕ). mark ≤ length_of s) (marks_of s) h.within mark (from_filter (λ mark. not (mark == place)) (marks_of s) mark k).0);
  newest = h.newest;
  marked = has_all (λ (mark : ℕ). live (take mark s.mutations) ≡ live (take mark t.mutations)) (filter (λ mark. not (mark == place)) (marks_of s))
      (λ mark k. all_has (λ (mark : ℕ). live (take mark s.mutations) ≡ live (take mark t.mutations)) (marks_of s) h.marked mark (from_filter (λ mark. not (mark == place)) (marks_of s) mark k).0);
}

need_back : (s t : State) (place : ℕ) → NeedSame s t → Has (marks_of s) place → NeedSame (after_back s place) (after_back t place)
need_back s t place h here = record {
  lengths = short s (inside place here) ∙ sym (short t (omega (arith, inside place here, h.lengths)));
  same_marks = ap (filter (λ mark. nat_le mark place)) h.same_marks;
  epochs = ap (λ (n : ℕ). n + 1) h.epochs;
  within = has_all (λ (mark : ℕ). mark ≤ length (take place s.mutations)) (filter (λ mark. nat_le mark place) (marks_of s))
      (λ mark k. omega (arith, short s (inside place here), low mark k));
  newest = at_mark place here;
  marked = has_all (λ (mark : ℕ). live (take mark (take place s.mutations)) ≡ live (take mark (take place t.mutations))) (filter (λ mark. nat_le mark place) (marks_of s))
      (λ mark k. ap live (take-take mark place s.mutations (low mark k)) ∙ (at_mark mark (from_filter (λ mark. nat_le mark place) (marks_of s) mark k).0 ∙ ap live (sym (take-take mark place t.mutations (low mark k)))));
}
  where
    short : (s : State) → place ≤ length s.mutations → length (take place s.mutations) ≡ place
    short s l = length-take-le place s.mutations l

    inside : (mark : ℕ) → Has (marks_of s) mark → mark ≤ length s.mutations
    inside mark k = all_has (λ (mark : ℕ). mark ≤ length s.mutations) (marks_of s) h.within mark k

    low : (mark : ℕ) → Has (filter (λ mark. nat_le mark place) (marks_of s)) mark → mark ≤ place
    low mark k = leb-true mark place (from_filter (λ mark. nat_le mark place) (marks_of s) mark k).1

    at_mark : (mark : ℕ) → Has (marks_of s) mark → live (take mark s.mutations) ≡ live (take mark t.mutations)
    at_mark mark k = all_has (λ (mark : ℕ). live (take mark s.mutations) ≡ live (take mark t.mutations)) (marks_of s) h.marked mark k

need_clear : (s t : State) → NeedSame s t → NeedSame (after_clear s) (after_clear t)
need_clear s t h = record { lengths = refl; same_marks = refl; epochs = ap (λ (n : ℕ). n + 1) h.epochs; within = tt; newest = refl; marked = tt }

greatest_some : (ns : List ℕ) (n : ℕ) → greatest ns ≡ Some n → Has ns n
greatest_some [] n e = absurd (cc)
greatest_some (m ∷ ns) n e = by_option (greatest ns) (λ k f. greatest_some ns k f) refl (ap (λ o. option_map_or (λ (k : ℕ). k) o n) e)
  where
    by_option : (o : Option ℕ) → ((k : ℕ) → greatest ns ≡ Some k → Has ns k) → greatest ns ≡ o → option_map_or (λ k. max m k) o m ≡ n → (m ≡ n) ⊎ Has ns n
    by_option None rest f e = inl e
    by_option (Some k) rest f e = elim (cases_lt m k) [
      | inl l ↦ let same : k ≡ n = omega (arith, l, e) in inr (subst (Has ns) same (rest k f))
      | inr l ↦ inl (omega (arith, l, e))
    ]

-- a mark that is found is one
mark_there : (s : State) (mark : ℕ) → is_mark s mark ≡ true → Has (marks_of s) mark
mark_there s mark t = let q = from_occurs (λ (m : ℕ). m) (marks_of s) mark t in subst (Has (marks_of s)) q.2 q.1

pub need_change : (s t : State) (c : Change) → NeedSame s t → IsTrue (allows s c) → NeedSame (after_change s c) (after_change t c)
need_change s t (change.Set key doc) h a = need_write s t (record { key = key; doc = Some doc }) h
need_change s t (change.Del key) h a = need_write s t (record { key = key; doc = None }) h
need_change s t change.Mark h a = need_mark s t h
need_change s t (change.Forget mark) h a = need_forget s t mark h
need_change s t (change.Back mark) h a = need_back s t mark h (mark_there s mark a)
need_change s t change.Clear h a = need_clear s t h

pub need_changes : (s t : State) (cs : List Change) → NeedSame s t → AllAllowed s cs → NeedSame (after_changes s cs) (after_changes t cs)
need_changes s t [] h a = h
need_changes s t (c ∷ cs) h a = need_changes (after_change s c) (after_change t c) cs (need_change s t c h a.0) a.1

pub same_allowed : (s t : State) (c : Change) → NeedSame s t → allows s c ≡ allows t c
same_allowed s t (change.Set key doc) h = refl
same_allowed s t (change.Del key) h = refl
same_allowed s t change.Mark h = same_mark_room s t h
same_allowed s t (change.Forget mark) h = ap (list_any (λ m. m == mark)) h.same_marks
same_allowed s t (change.Back mark) h = ap (list_any (λ m. m == mark)) h.same_marks
same_allowed s t change.Clear h = refl

pub all_allowed : (s t : State) (cs : List Change) → NeedSame s t → AllAllowed s cs → AllAllowed t cs
all_allowed s t [] h a = tt
all_allowed s t (c ∷ cs) h a = (subst (λ (b : Bool). IsTrue b) (same_allowed s t c h) a.0, all_allowed (after_change s c) (after_change t c) cs (need_change s t c h a.0) a.1)

-- each call leads on

mark_state : (b : Bool) (s t : State) → NeedSame s t → NeedSame (if b then record { state = after_mark s; reply = reply.Marked (length_of s) } else replies s (reply.Full mark_limit)).state
    (if b then record { state = after_mark t; reply = reply.Marked (length_of t) } else replies t (reply.Full mark_limit)).state
mark_state true s t h = need_mark s t h
mark_state false s t h = h

forget_state : (b : Bool) (s t : State) (mark : ℕ) → NeedSame s t → NeedSame (if b then record { state = after_forget s mark; reply = reply.Forgot mark } else replies s (reply.NoMark mark)).state
    (if b then record { state = after_forget t mark; reply = reply.Forgot mark } else replies t (reply.NoMark mark)).state
forget_state true s t mark h = need_forget s t mark h
forget_state false s t mark h = h

rollback_state : (s t : State) (to : ℕ) (o : Option ℕ) → mark_at_most s to ≡ o → NeedSame s t → NeedSame (rollback s o).state (rollback t o).state
rollback_state s t to None e h = h
rollback_state s t to (Some mark) e h = need_back s t mark h (from_filter (λ m. nat_le m to) (marks_of s) mark (greatest_some (filter (λ m. nat_le m to) (marks_of s)) mark e)).0

pub need_step : (s t : State) (call : Call) → NeedSame s t → NeedSame (step s call).state (step t call).state
need_step s t (Set key doc) h = need_write s t (record { key = key; doc = Some doc }) h
need_step s t (Del key) h = need_write s t (record { key = key; doc = None }) h
need_step s t (Get key) h = h
need_step s t (Feed epoch after limit) h = h
need_step s t Mark h = subst (λ (b : Bool). NeedSame (step s Mark).state (if b then record { state = after_mark t; reply = reply.Marked (length_of t) } else replies t (reply.Full mark_limit)).state) (same_mark_room s t h) (mark_state (is_mark s (length_of s) || has_mark_room s) s t h)
need_step s t (Forget mark) h = subst (λ (ms : List ℕ). NeedSame (step s (Forget mark)).state (if list_any (λ m. m == mark) ms then record { state = after_forget t mark; reply = reply.Forgot mark } else replies t (reply.NoMark mark)).state) h.same_marks (forget_state (is_mark s mark) s t mark h)
need_step s t (Rollback to) h = subst (λ (ms : List ℕ). NeedSame (step s (Rollback to)).state (rollback t (greatest (filter (λ m. nat_le m to) ms))).state) h.same_marks (rollback_state s t to (mark_at_most s to) refl h)
need_step s t Clear h = need_clear s t h
need_step s t Sync h = h
need_step s t (Compact through) h = h
need_step s t Stats h = h
