-- Each step on a turn's table keeps the rule.
use Rattle.std.proofs.Common.{◌≡◌, ◌≢◌, ◌⊎◌, ℕ, zero, suc, ◌+◌, ◌≤◌, ◌<◌, List, [], ◌∷◌, ◌++◌, Bool, true, false, cond, eqb, length, set, get_or, refl, ap, sym, subst, ◌∙◌, arith, inl, inr, ⊎_elim, length-append, ne_eqb}
use mathlib.Core.Option.{Option, some, none, some-injective}
use mathlib.Core.Logic.{dite}
use native.Mathlib.Decide.{ℕ_discrete}
use borrow.Author.Tests.{eq-eqb}
use lib.ListN.{get_elem?}
use prog.Atomic.{either}
use Rattle.std.specs.declared.snapshot.Snapshot.{Snapshot}
use Rattle.atomic_table.specs.Table.{State, Me, Step, step, Act, keeps, takes, gives, Valid, stepped, carried_after, Allows, Splits, Joins, Seen, Final, opening}
use Rattle.atomic_table.proofs.Lists.{set_again, set_else, at_longer}
use Rattle.mg_turn.specs.declared.state.Counts.{Counts}
use Rattle.mg_turn.specs.declared.rule.Hold.{Hold}
use Rattle.mg_turn.specs.declared.rule.Hold.TheVariants.{Free, Out, Home}
use Rattle.mg_turn.specs.declared.rule.View.{View}
use Rattle.mg_turn.specs.declared.rule.Slot.{Slot}
use Rattle.mg_turn.specs.declared.rule.Slot.TheVariants.{Empty, Full, Note}
use Rattle.mg_turn.specs.declared.rule.Opening.{Opening}
use Rattle.mg_turn.specs.History.{IsPrefix, calls_by, total, times_among, AreApart, AreCalls, NoOthers, calls_in}
use Rattle.mg_turn.specs.Rule.{NotAbove, whole, if_live, own, times_in, EachLive, Fits, IsQuiet, opening_view, nobody, splitter, new_caller, keepsake, joined, entered, taken, IsKept, IsFree, SlotOf, IsHeld, Holds, took, put_back, took_back, learned, counted, gave, HasClosed}
use Rattle.mg_turn.proofs.Lists.{prefix_self, prefix_shorter, set_at, total_two, total_only, all_counted}
use Rattle.mg_turn.proofs.Views.{live_count, none_if, not_above_self, not_above_trans, greater_not_above, own_apart, each_set, each_snoc, kept_set, kept_entered, kept_split, kept_kept, kept_joined}

module _ {T E : Type 0} (stands : ℕ → List (ℕ × E) → T → Type 0) (counts : T → Counts) (o : Opening T) where
  abbrev St : Type 0
  St = State (Slot T E) (View E)

  abbrev M : Type 0
  M = Me (Slot T E) (View E)

  abbrev Rule : St → Type 0
  Rule = Holds stands counts o

  abbrev Goes : ℕ → M → ℕ → (ℕ → ℕ) → (ℕ → M → Type 0) → St → Type 0
  Goes id m i f then t = (w : View E) × (a : Act (Slot T E)) × Valid t.homes m.1 a × Rule (stepped t i (f (get_or t.words i 0)) id m.1 w a) × then (get_or t.words i 0) (w, carried_after m.1 a)

  abbrev at : List ℕ → List (Option (Slot T E)) → List (View E) → St
  at ws hs vs = record { words = ws; homes = hs; views = vs }

  -- nobody but the view id can hold the turn where that view does
  pub holder : (log : List (ℕ × E)) (s : St) (id : ℕ) (v : View E) → get_elem? s.views id ≡ some v → 0 < v.parts → v.hold ≢ Free
      → (IsFree stands counts o.first log s ⊎ ((j : ℕ) × ((u : View E) × IsHeld log s j u))) → IsHeld log s id v
  holder log s id v here live held turn = ⊎_elim
      (λ (r : IsFree stands counts o.first log s). absurd (held (r.quiet id v here live).0))
      (λ (q : (j : ℕ) × ((u : View E) × IsHeld log s j u)). let r : IsHeld log s q.0 q.1.0 = q.1.1 in dite (ℕ_discrete id q.0)
      (λ (e : id ≡ q.0). let same : q.1.0 ≡ v = some-injective q.1.0 v (sym r.view ∙ (ap (get_elem? s.views) (sym e) ∙ here)) in
      subst (λ (x : ℕ × View E). IsHeld log s x.0 x.1) (λ i. (sym e i, same i)) r)
      (λ (n : id ≢ q.0). absurd (held (r.others id v here live n).0)))
      turn

  abbrev Turns : List (ℕ × E) → St → Type 0
  Turns log s = IsFree stands counts o.first log s ⊎ ((j : ℕ) × ((u : View E) × IsHeld log s j u))

  -- a view that does not hold the turn changes
  pub waiter_set : (log : List (ℕ × E)) (s : St) (id : ℕ) (v w : View E) → get_elem? s.views id ≡ some v → 0 < v.parts → v.hold ≡ Free → (0 < w.parts → w.hold ≡ Free) → ((top : Counts) → NotAbove v.counts top → NotAbove w.counts top)
      → Turns log s → Turns log (at s.words s.homes (set s.views id w))
  waiter_set log s id v w here live free waits below turn = ⊎_elim
      (λ (r : IsFree stands counts o.first log s). inl record {
        state = r.state;
        words = r.words;
        home = r.home;
        stands_for = r.stands_for;
        quiet = each_set (λ j u. IsQuiet (counts r.state) u) s.views id w (λ l. (waits l, below (counts r.state) (r.quiet id v here live).1)) (λ j u at_j u_live _. r.quiet j u at_j u_live);
      })
      (λ (q : (j : ℕ) × ((u : View E) × IsHeld log s j u)). let r : IsHeld log s q.0 q.1.0 = q.1.1 in dite (ℕ_discrete id q.0)
      (λ (e : id ≡ q.0). let same : q.1.0 ≡ v = some-injective q.1.0 v (sym r.view ∙ (ap (get_elem? s.views) (sym e) ∙ here)) in
      absurd (subst (λ (h : Hold). SlotOf {T = T} {E = E} h s.homes) (ap (λ (x : View E). x.hold) same ∙ free) r.slot))
      (λ (n : id ≢ q.0). inr (
        q.0,
        (
          q.1.0,
          record {
            waited = r.waited;
            words = r.words;
            view = set_else s.views id q.0 w (λ z. n (sym z)) ∙ r.view;
            live = r.live;
            seen = r.seen;
            slot = r.slot;
            others = each_set (λ j u. j ≢ q.0 → IsQuiet q.1.0.counts u) s.views id w (λ l m. (waits l, below q.1.0.counts (r.others id v here live n).1)) (λ j u at_j u_live _ m. r.others j u at_j u_live m);
          },
        ),
      )))
      turn

  -- a view that does not hold the turn comes
  pub waiter_snoc : (log : List (ℕ × E)) (s : St) (id : ℕ) (v w : View E) → get_elem? s.views id ≡ some v → 0 < v.parts → v.hold ≡ Free → w.hold ≡ Free → w.counts ≡ v.counts
      → Turns log s → Turns log (at s.words s.homes (s.views ++ w ∷ []))
  waiter_snoc log s id v w here live free waits same_counts turn = ⊎_elim
      (λ (r : IsFree stands counts o.first log s). inl record {
        state = r.state;
        words = r.words;
        home = r.home;
        stands_for = r.stands_for;
        quiet = each_snoc (λ j u. IsQuiet (counts r.state) u) s.views w (λ j l. (waits, subst (λ (x : Counts). NotAbove x (counts r.state)) (sym same_counts) (r.quiet id v here live).1)) r.quiet;
      })
      (λ (q : (j : ℕ) × ((u : View E) × IsHeld log s j u)). let r : IsHeld log s q.0 q.1.0 = q.1.1 in dite (ℕ_discrete id q.0)
      (λ (e : id ≡ q.0). let same : q.1.0 ≡ v = some-injective q.1.0 v (sym r.view ∙ (ap (get_elem? s.views) (sym e) ∙ here)) in
      absurd (subst (λ (h : Hold). SlotOf {T = T} {E = E} h s.homes) (ap (λ (x : View E). x.hold) same ∙ free) r.slot))
      (λ (n : id ≢ q.0). inr (
        q.0,
        (
          q.1.0,
          record {
            waited = r.waited;
            words = r.words;
            view = at_longer s.views (w ∷ []) q.0 q.1.0 r.view;
            live = r.live;
            seen = r.seen;
            slot = r.slot;
            others = each_snoc (λ j u. j ≢ q.0 → IsQuiet q.1.0.counts u) s.views w (λ j l m. (waits, subst (λ (x : Counts). NotAbove x q.1.0.counts) (sym same_counts) (r.others id v here live n).1)) r.others;
          },
        ),
      )))
      turn

  -- the same words, homes and views
  unmoved : (ws : List ℕ) (hs : List (Option (Slot T E))) (vs : List (View E)) (id : ℕ) (v : View E) → get_elem? vs id ≡ some v → Rule (at ws hs vs) → Rule (at ws hs (set vs id v))
  unmoved ws hs vs id v here r = subst (λ (xs : List (View E)). Rule (at ws hs xs)) (sym (set_again vs id v here)) r

  -- the turn is taken by any step that leaves another number than 0 in the word
  take_free : (log : List (ℕ × E)) (vs : List (View E)) (id : ℕ) (v : View E) (st : T) (x : Step (Slot T E)) (f : ℕ → ℕ) (b : ℕ) → f 0 ≡ suc b → get_elem? vs id ≡ some v → 0 < v.parts → IsKept o.first log vs → stands o.first log st → EachLive vs (λ j u. IsQuiet (counts st) u)
      → Goes id (v, []) 0 f (took stands counts x (v, [])) (at (0 ∷ length log ∷ []) (some (Full st) ∷ []) vs)
  take_free log vs id v st x f b leaves here live k good quiet =
      let w : View E = taken v log (counts st) in
      let fit = k.fits id v here live in (
        w,
        takes 0 (Full st),
        refl,
        (
          log,
          (
            kept_set o.first log log vs id v w k here live refl refl (λ c. refl) record { first_is = fit.first_is; seen = prefix_self log; told = fit.told; calls = fit.calls } (λ j u at_j u_live _. k.fits j u at_j u_live) k.known refl,
            inr (
              id,
              (
                w,
                record {
                  waited = b;
                  words = ap (λ (n : ℕ). n ∷ length log ∷ []) leaves;
                  view = set_at vs id v w here;
                  live = live;
                  seen = refl;
                  slot = refl;
                  others = each_set (λ j u. j ≢ id → IsQuiet (counts st) u) vs id w (λ _ n. absurd (n refl)) (λ j u at_j u_live _ _. quiet j u at_j u_live);
                },
              ),
            ),
          ),
        ),
        ((λ n. absurd (n refl)), (λ _. (log, (st, refl, subst (λ (n : ℕ). stands n log st) (sym fit.first_is) good, fit.seen, (quiet id v here live).1, fit.calls, own_apart o.first log vs id v k here live)))),
      )

  -- where the turn is taken already, only the word may change
  take_held : (log : List (ℕ × E)) (hs : List (Option (Slot T E))) (vs : List (View E)) (id j : ℕ) (v u : View E) (x : Step (Slot T E)) (f : ℕ → ℕ) (a b : ℕ) → f (suc a) ≡ suc b → get_elem? vs id ≡ some v → IsKept o.first log vs → IsHeld log (at (suc a ∷ length log ∷ []) hs vs) j u
      → Goes id (v, []) 0 f (took stands counts x (v, [])) (at (suc a ∷ length log ∷ []) hs vs)
  take_held log hs vs id j v u x f a b leaves here k r = (
    v,
    keeps,
    tt,
    subst (λ (xs : List (View E)). Rule (at (f (suc a) ∷ length log ∷ []) hs xs)) (sym (set_again vs id v here)) (
      log,
      (k, inr (j, (u, record { waited = b; words = ap (λ (n : ℕ). n ∷ length log ∷ []) leaves; view = r.view; live = r.live; seen = r.seen; slot = r.slot; others = r.others }))),
    ),
    ((λ _. refl), (λ e. absurd (omega arith))),
  )

  pub takes_turn : (id : ℕ) (v : View E) (x : Step (Slot T E)) (f : ℕ → ℕ) → ((n : ℕ) → (b : ℕ) × (f n ≡ suc b)) → 0 < v.parts → Allows Rule 1 id (v, []) 0 f (took stands counts x (v, []))
  takes_turn id v x f sets live s h len here small = ⊎_elim
      (λ (r : IsFree stands counts o.first h.0 s). let is : s ≡ at (0 ∷ length h.0 ∷ []) (some (Full r.state) ∷ []) s.views = (λ i. record { words = r.words i; homes = r.home i; views = s.views }) in
      subst (Goes id (v, []) 0 f (took stands counts x (v, []))) (sym is) (take_free h.0 s.views id v r.state x f (sets 0).0 (sets 0).1 here live h.1.0 r.stands_for r.quiet))
      (λ (q : (j : ℕ) × ((u : View E) × IsHeld h.0 s j u)). let r : IsHeld h.0 s q.0 q.1.0 = q.1.1 in let is : s ≡ at (suc r.waited ∷ length h.0 ∷ []) s.homes s.views = (λ i. record { words = r.words i; homes = s.homes; views = s.views }) in
      let set_to = sets (suc r.waited) in
      subst (Goes id (v, []) 0 f (took stands counts x (v, []))) (sym is) (take_held h.0 s.homes s.views id q.0 v q.1.0 x f r.waited set_to.0 set_to.1 here h.1.0 (subst (λ (t : St). IsHeld h.0 t q.0 q.1.0) is r)))
      h.1.1

  -- the holder's view changes in how it holds the turn
  held_again : (log : List (ℕ × E)) (ws : List ℕ) (hs new : List (Option (Slot T E))) (vs : List (View E)) (id : ℕ) (v w : View E) → IsKept o.first log vs → IsHeld log (at ws hs vs) id v
      → w.parts ≡ v.parts → w.next ≡ v.next → ((c : ℕ) → times_in c w ≡ times_in c v) → w.first ≡ v.first → w.seen ≡ v.seen → w.told ≡ v.told → own w ≡ own v → w.counts ≡ v.counts → SlotOf {T = T} {E = E} w.hold new
      → Rule (at ws new (set vs id w))
  held_again log ws hs new vs id v w k r parts next times first_is seen told same_own same_counts slot =
      let fit = k.fits id v r.view r.live in (
        log,
        (
          kept_set o.first log log vs id v w k r.view r.live parts next times
              record { first_is = first_is ∙ fit.first_is; seen = subst (λ (xs : List (ℕ × E)). IsPrefix xs log) (sym seen) fit.seen; told = subst (λ (xs : List (ℕ × E)). IsPrefix xs log) (sym told) fit.told; calls = subst (AreCalls log) (sym same_own) fit.calls }
              (λ j u at_j u_live _. k.fits j u at_j u_live) k.known (seen ∙ r.seen),
          inr (
            id,
            (
              w,
              record {
                waited = r.waited;
                words = r.words;
                view = set_at vs id v w r.view;
                live = subst (λ (n : ℕ). 0 < n) (sym parts) r.live;
                seen = seen ∙ r.seen;
                slot = slot;
                others = each_set (λ j u. j ≢ id → IsQuiet w.counts u) vs id w (λ _ n. absurd (n refl)) (λ j u at_j u_live _ n. subst (λ (x : Counts). IsQuiet x u) (sym same_counts) (r.others j u at_j u_live n));
              },
            ),
          ),
        ),
      )

  abbrev Steps : ℕ → M → ℕ → (ℕ → ℕ) → (ℕ → M → Type 0) → Type 0
  Steps id m i f then = Allows Rule 1 id m i f then

  pub puts_back : (id : ℕ) (v : View E) → 0 < v.parts → v.hold ≡ Out → Steps id (v, (0, Empty) ∷ []) 0 (λ n. n) (put_back (step 1 0 0 0 none) (v, (0, Empty) ∷ []))
  puts_back id v live out s h len here small =
      let r = holder h.0 s id v here live (λ e. absurd (cc (e, out))) h.1.1 in
      let gone : s.homes ≡ none ∷ [] = subst (λ (x : Hold). SlotOf {T = T} {E = E} x s.homes) out r.slot in
      let is : s ≡ at (suc r.waited ∷ length h.0 ∷ []) (none ∷ []) s.views = (λ i. record { words = r.words i; homes = gone i; views = s.views }) in
      let w : View E = record v { hold = Home } in
      subst (Goes id (v, (0, Empty) ∷ []) 0 (λ n. n) (put_back (step 1 0 0 0 none) (v, (0, Empty) ∷ []))) (sym is) (
        w,
        gives,
        tt,
        held_again h.0 (suc r.waited ∷ length h.0 ∷ []) (none ∷ []) (some Empty ∷ []) s.views id v w h.1.0 (subst (λ (t : St). IsHeld h.0 t id v) is r) refl refl (λ c. refl) refl refl refl refl refl refl,
        refl,
      )

  pub takes_back : (id : ℕ) (v : View E) → 0 < v.parts → v.hold ≡ Home → Steps id (v, []) 0 (λ n. n) (took_back (step 1 0 0 0 none) (v, []))
  takes_back id v live home s h len here small =
      let r = holder h.0 s id v here live (λ e. absurd (cc (e, home))) h.1.1 in
      let there : s.homes ≡ some Empty ∷ [] = subst (λ (x : Hold). SlotOf {T = T} {E = E} x s.homes) home r.slot in
      let is : s ≡ at (suc r.waited ∷ length h.0 ∷ []) (some Empty ∷ []) s.views = (λ i. record { words = r.words i; homes = there i; views = s.views }) in
      let w : View E = record v { hold = Out } in
      subst (Goes id (v, []) 0 (λ n. n) (took_back (step 1 0 0 0 none) (v, []))) (sym is) (
        w,
        takes 0 Empty,
        refl,
        held_again h.0 (suc r.waited ∷ length h.0 ∷ []) (some Empty ∷ []) (none ∷ []) s.views id v w h.1.0 (subst (λ (t : St). IsHeld h.0 t id v) is r) refl refl (λ c. refl) refl refl refl refl refl refl,
        refl,
      )

  -- the number found is the length of the history, whoever has the turn
  found_length : (log : List (ℕ × E)) (s : St) → Turns log s → get_or s.words 1 0 ≡ length log
  found_length log s turn = ⊎_elim (λ (r : IsFree stands counts o.first log s). ap (λ (ws : List ℕ). get_or ws 1 0) r.words)
      (λ (q : (j : ℕ) × ((u : View E) × IsHeld log s j u)). let r : IsHeld log s q.0 q.1.0 = q.1.1 in ap (λ (ws : List ℕ). get_or ws 1 0) r.words) turn

  words_again : (log : List (ℕ × E)) (s : St) → Turns log s → set s.words 1 (get_or s.words 1 0) ≡ s.words
  words_again log s turn = ⊎_elim (λ (r : IsFree stands counts o.first log s). let F : List ℕ → Type 0 = λ ws. set ws 1 (get_or ws 1 0) ≡ ws in subst F (sym r.words) refl)
      (λ (q : (j : ℕ) × ((u : View E) × IsHeld log s j u)). let r : IsHeld log s q.0 q.1.0 = q.1.1 in let F : List ℕ → Type 0 = λ ws. set ws 1 (get_or ws 1 0) ≡ ws in subst F (sym r.words) refl) turn

  pub learns : (id : ℕ) (v : View E) → 0 < v.parts → Steps id (v, []) 1 (λ n. n) (learned (step 1 1 0 0 none) (v, []))
  learns id v live s h len here small =
      let log : List (ℕ × E) = h.0 in
      let fit = h.1.0.fits id v here live in (
        v,
        keeps,
        tt,
        subst Rule (λ i. record { words = sym (words_again log s h.1.1) i; homes = s.homes; views = sym (set_again s.views id v here) i }) h,
        (
          refl,
          (λ held. found_length log s h.1.1 ∙ ap length (sym (holder log s id v here live held h.1.1).seen)),
          (λ le. prefix_shorter v.told v.seen log fit.told fit.seen le),
          own_apart o.first log s.views id v h.1.0 here live,
        ),
      )

  counted_words : (k n : ℕ) (log : List (ℕ × E)) (c : ℕ) (e : E) → length log ≡ n → k ∷ either (eqb (length log) n) (n + 1) (length log) ∷ [] ≡ k ∷ length (log ++ (c, e) ∷ []) ∷ []
  counted_words k n log c e is = let same : eqb (length log) n ≡ true = eq-eqb (length log) n is in
      let grown : n + 1 ≡ length (log ++ (c, e) ∷ []) = omega (arith, length-append log ((c, e) ∷ [])) in
      ap (λ (b : Bool). k ∷ either b (n + 1) (length log) ∷ []) same ∙ ap (λ (m : ℕ). k ∷ m ∷ []) grown

  pub counts_one : (id : ℕ) (v : View E) (n : ℕ) (e : Snapshot E) → 0 < v.parts → v.hold ≡ Home → n ≡ length v.seen
      → Steps id (v, []) 1 (λ m. either (eqb m n) (n + 1) m) (counted (step 1 1 n (n + 1) (some (Note e))) (v, []))
  counts_one id v n e live home is_n s h len here small =
      let log : List (ℕ × E) = h.0 in
      let r = holder log s id v here live (λ z. absurd (cc (z, home))) h.1.1 in
      let is : s ≡ at (suc r.waited ∷ length log ∷ []) s.homes s.views = (λ i. record { words = r.words i; homes = s.homes; views = s.views }) in
      let new : List (ℕ × E) = log ++ (v.caller, e.value) ∷ [] in
      let w : View E = entered v e.value in
      let long : length log ≡ n = ap length (sym r.seen) ∙ sym is_n in
      subst (Goes id (v, []) 1 (λ m. either (eqb m n) (n + 1) m) (counted (step 1 1 n (n + 1) (some (Note e))) (v, []))) (sym is) (
        w,
        keeps,
        tt,
        (
          new,
          (
            kept_entered o.first log s.views id v e.value h.1.0 here live r.seen,
            inr (
              id,
              (
                w,
                record {
                  waited = r.waited;
                  words = counted_words (suc r.waited) n log v.caller e.value long;
                  view = set_at s.views id v w here;
                  live = live;
                  seen = ap (λ (xs : List (ℕ × E)). xs ++ (v.caller, e.value) ∷ []) r.seen;
                  slot = r.slot;
                  others = each_set (λ j u. j ≢ id → IsQuiet v.counts u) s.views id w (λ _ m. absurd (m refl)) (λ j u at_j u_live _ m. r.others j u at_j u_live m);
                },
              ),
            ),
          ),
        ),
        (e, refl, refl, ap length (sym r.seen)),
      )

  pub gives_turn : (id : ℕ) (v : View E) (st : T) → 0 < v.parts → v.hold ≡ Out → stands v.first v.seen st → NotAbove v.counts (counts st)
      → Steps id (v, (0, Full st) ∷ []) 0 (λ _. 0) (gave counts (step 1 0 0 0 none) (v, (0, Full st) ∷ []))
  gives_turn id v st live out good below s h len here small =
      let log : List (ℕ × E) = h.0 in
      let r = holder log s id v here live (λ z. absurd (cc (z, out))) h.1.1 in
      let gone : s.homes ≡ none ∷ [] = subst (λ (x : Hold). SlotOf {T = T} {E = E} x s.homes) out r.slot in
      let is : s ≡ at (suc r.waited ∷ length log ∷ []) (none ∷ []) s.views = (λ i. record { words = r.words i; homes = gone i; views = s.views }) in
      let fit = h.1.0.fits id v here live in
      let w : View E = record v { counts = counts st; hold = Free } in
      subst (Goes id (v, (0, Full st) ∷ []) 0 (λ _. 0) (gave counts (step 1 0 0 0 none) (v, (0, Full st) ∷ []))) (sym is) (
        w,
        gives,
        tt,
        (
          log,
          (
            kept_set o.first log log s.views id v w h.1.0 here live refl refl (λ c. refl) record { first_is = fit.first_is; seen = fit.seen; told = fit.told; calls = fit.calls } (λ j u at_j u_live _. h.1.0.fits j u at_j u_live) h.1.0.known r.seen,
            inl record {
              state = st;
              words = refl;
              home = refl;
              stands_for = subst (λ (x : ℕ × List (ℕ × E)). stands x.0 x.1 st) (λ i. (fit.first_is i, r.seen i)) good;
              quiet = each_set (λ j u. IsQuiet (counts st) u) s.views id w (λ _. (refl, not_above_self (counts st))) (λ j u at_j u_live n. let q = r.others j u at_j u_live n in (q.0, not_above_trans u.counts v.counts (counts st) q.1 below));
            },
          ),
        ),
        (st, refl, refl),
      )

  pub splits_caller : (id : ℕ) (v : View E) → v.hold ≡ Free → 2 ≤ v.parts → 0 < v.next → Splits Rule id v (splitter v) (new_caller v)
  splits_caller id v free two next s h here =
      let log : List (ℕ × E) = h.0 in
      let live : 0 < v.parts = omega arith in
      let one : Turns log (at s.words s.homes (set s.views id (splitter v))) = waiter_set log s id v (splitter v) here live free (λ _. free) (λ top b. b) h.1.1 in (
        log,
        (
          kept_split o.first log s.views id v h.1.0 here two next,
          waiter_snoc log (at s.words s.homes (set s.views id (splitter v))) id (splitter v) (new_caller v) (set_at s.views id v (splitter v) here) (omega arith) free free refl one,
        ),
      )

  pub splits_copy : (id : ℕ) (v : View E) → v.hold ≡ Free → 0 < v.parts → Splits Rule id v v (keepsake v)
  splits_copy id v free live s h here =
      let log : List (ℕ × E) = h.0 in
      let again : s.views ++ keepsake v ∷ [] ≡ set s.views id v ++ keepsake v ∷ [] = ap (λ (xs : List (View E)). xs ++ keepsake v ∷ []) (sym (set_again s.views id v here)) in
      subst (λ (xs : List (View E)). Rule (at s.words s.homes xs)) again
      (log, (kept_kept o.first log s.views id v h.1.0 here, waiter_snoc log s id v (keepsake v) here live free free refl h.1.1))

  pub joins_two : (id : ℕ) (v : View E) (other : ℕ) (u : View E) → 0 < v.parts → v.hold ≡ Free → 0 < u.parts → u.hold ≡ Free → Joins Rule id v other u (joined v u) nobody
  joins_two id v other u live free u_live u_free s h here apart there =
      let log : List (ℕ × E) = h.0 in
      let both : View E = joined v u in
      let at_u : get_elem? s.views other ≡ some u = sym (set_else s.views id other both apart) ∙ there in
      let turn : Turns log (at s.words s.homes (set s.views id both)) = raised log s both here at_u h.1.1 in (
        log,
        (
          kept_joined o.first log s.views id other v u h.1.0 here apart at_u live u_live,
          waiter_set log (at s.words s.homes (set s.views id both)) other u nobody there u_live u_free (λ none. refl) (λ top b. (omega arith, omega arith)) turn,
        ),
      )
    where
      -- what is above both counts is above the greater of each
      raised : (log : List (ℕ × E)) (s : St) (both : View E) → get_elem? s.views id ≡ some v → get_elem? s.views other ≡ some u → Turns log s → Turns log (at s.words s.homes (set s.views id (joined v u)))
      raised log s both here at_u turn = ⊎_elim
          (λ (r : IsFree stands counts o.first log s). inl record {
            state = r.state;
            words = r.words;
            home = r.home;
            stands_for = r.stands_for;
            quiet = each_set (λ j x. IsQuiet (counts r.state) x) s.views id (joined v u) (λ _. (free, greater_not_above v.counts u.counts (counts r.state) (r.quiet id v here live).1 (r.quiet other u at_u u_live).1)) (λ j x at_j x_live _. r.quiet j x at_j x_live);
          })
          (λ (q : (j : ℕ) × ((x : View E) × IsHeld log s j x)). let r : IsHeld log s q.0 q.1.0 = q.1.1 in
          let not_id : (w : View E) → w.hold ≡ Free → (i : ℕ) → get_elem? s.views i ≡ some w → i ≢ q.0 = λ w w_free i at_i e.
          (let same : q.1.0 ≡ w = some-injective q.1.0 w (sym r.view ∙ (ap (get_elem? s.views) (sym e) ∙ at_i)) in
          subst (λ (h : Hold). SlotOf {T = T} {E = E} h s.homes) (ap (λ (x : View E). x.hold) same ∙ w_free) r.slot) in
          let n = not_id v free id here in
          let m = not_id u u_free other at_u in
          inr (
            q.0,
            (
              q.1.0,
              record {
                waited = r.waited;
                words = r.words;
                view = set_else s.views id q.0 (joined v u) (λ z. n (sym z)) ∙ r.view;
                live = r.live;
                seen = r.seen;
                slot = r.slot;
                others = each_set (λ j x. j ≢ q.0 → IsQuiet q.1.0.counts x) s.views id (joined v u) (λ _ _. (free, greater_not_above v.counts u.counts q.1.0.counts (r.others id v here live n).1 (r.others other u at_u u_live m).1)) (λ j x at_j x_live _ k. r.others j x at_j x_live k);
              },
            ),
          ))
          turn

  -- a new turn
  pub opens : (st : T) → o.state.value ≡ st → stands o.first [] st → Rule (opening (0 ∷ 0 ∷ []) (Full st ∷ []) (opening_view o.first (counts o.state.value)))
  opens st is good =
      let v : View E = opening_view o.first (counts o.state.value) in
      let only : (P : ℕ → View E → Type 0) → ((j : ℕ) → P j v) → EachLive (v ∷ []) P = λ P p. each_snoc P [] v (λ j _. p j) (λ j w none l. absurd (cc none)) in (
        [],
        (
          record {
            fits = only (λ j u. Fits o.first [] u) (λ j. record { first_is = refl; seen = ([], refl); told = ([], refl); calls = (refl, tt) });
            parts = refl;
            apart = λ c. at_most (eqb 0 c);
            known = λ c _. refl;
            givers = omega arith;
            unused = only (λ j u. 0 < u.next → (c : ℕ) → u.next ≤ c → total (times_in c) (v ∷ []) ≡ 0) (λ j _ c le. unused c le);
            complete = (0, (v, refl, lt_whole, refl));
          },
          inl record {
            state = st;
            words = refl;
            home = refl;
            stands_for = good;
            quiet = only (λ j u. IsQuiet (counts st) u) (λ j. (refl, subst (λ (x : T). NotAbove (counts o.state.value) (counts x)) is (not_above_self (counts o.state.value))));
          },
        ),
      )
    where
      lt_whole : 0 < whole
      lt_whole = omega arith

      at_most : (b : Bool) → (cond {A = ℕ} b 1 0 + 0) + 0 ≤ 1
      at_most true = omega arith
      at_most false = omega arith

      unused : (c : ℕ) → 1 ≤ c → (cond {A = ℕ} (eqb 0 c) 1 0 + 0) + 0 ≡ 0
      unused c le = let z = none_if (eqb 0 c) (ne_eqb 0 c (λ e. omega arith)) in omega arith

  -- whoever has every part is the only one, and has seen all
  pub closes : (id : ℕ) (v : View E) (s : St) → v.parts ≡ whole → v.hold ≡ Free → Seen Rule id v s
      → (st : T) × (get_elem? s.homes 0 ≡ some (some (Full st))) × stands v.first v.seen st × NotAbove v.counts (counts st) × AreCalls v.seen (own v) × AreApart (own v) × NoOthers v.seen (own v) × (length v.seen ≡ calls_in (own v))
  closes id v s all free seen =
      let log : List (ℕ × E) = seen.0.0 in
      let k : IsKept o.first log s.views = seen.0.1.0 in
      let here : get_elem? s.views id ≡ some v = seen.1 in
      let live : 0 < v.parts = omega arith in
      let fit = k.fits id v here live in
      let alone : (j : ℕ) (u : View E) → j ≢ id → get_elem? s.views j ≡ some u → u.parts ≡ 0 = λ j u n at_j. (let t = total_two (λ (x : View E). x.parts) s.views id j v u (λ z. n (sym z)) here at_j in let p = k.parts in omega arith) in
      let whole_seen : v.seen ≡ log = full id v s.views log k.complete here alone in
      let sums : (c : ℕ) → total (times_in c) s.views ≡ times_among c (own v) = λ c.
      total_only (times_in c) s.views id v here (λ j u n at_j. ap (λ (p : ℕ). if_live p (times_among c (own u))) (alone j u n at_j)) ∙ live_count v.parts (times_among c (own v)) live in
      let calls : AreCalls v.seen (own v) = subst (λ (xs : List (ℕ × E)). AreCalls xs (own v)) (sym whole_seen) fit.calls in
      let others : NoOthers v.seen (own v) = λ c z. ap (calls_by c) whole_seen ∙ k.known c (sums c ∙ z) in
      let apart : AreApart (own v) = own_apart o.first log s.views id v k here live in
      let counted_all : length v.seen ≡ calls_in (own v) = all_counted v.seen (own v) calls apart others in
      ⊎_elim
      (λ (r : IsFree stands counts o.first log s). (
        r.state,
        ap (λ (hs : List (Option (Slot T E))). get_elem? hs 0) r.home,
        subst (λ (x : ℕ × List (ℕ × E)). stands x.0 x.1 r.state) (λ i. (sym fit.first_is i, sym whole_seen i)) r.stands_for,
        (r.quiet id v here live).1,
        calls,
        apart,
        others,
        counted_all,
      ))
      (λ (q : (j : ℕ) × ((u : View E) × IsHeld log s j u)). let r : IsHeld log s q.0 q.1.0 = q.1.1 in dite (ℕ_discrete q.0 id)
      (λ (e : q.0 ≡ id). let same : q.1.0 ≡ v = some-injective q.1.0 v (sym r.view ∙ (ap (get_elem? s.views) e ∙ here)) in
      absurd (subst (λ (h : Hold). SlotOf {T = T} {E = E} h s.homes) (ap (λ (x : View E). x.hold) same ∙ free) r.slot))
      (λ (n : q.0 ≢ id). let z = alone q.0 q.1.0 n r.view in let l = r.live in absurd (omega arith)))
      seen.0.1.1
    where
      full : (id : ℕ) (v : View E) (views : List (View E)) (log : List (ℕ × E)) → ((j : ℕ) × ((u : View E) × (get_elem? views j ≡ some u) × (0 < u.parts) × (u.seen ≡ log))) → get_elem? views id ≡ some v
          → ((j : ℕ) (u : View E) → j ≢ id → get_elem? views j ≡ some u → u.parts ≡ 0) → v.seen ≡ log
      full id v views log (j, (u, at_j, u_live, u_seen)) here alone = dite (ℕ_discrete j id)
          (λ (e : j ≡ id). let same : u ≡ v = some-injective u v (sym at_j ∙ (ap (get_elem? views) e ∙ here)) in ap (λ (x : View E). x.seen) (sym same) ∙ u_seen)
          (λ (n : j ≢ id). let z = alone j u n at_j in absurd (omega arith))

  -- the same at a table's own number of slots, and a seat's own list
  onto : (F : ℕ → M → Type 0) (n : ℕ) (m : M) (slots : List (ℕ × Slot T E)) → n ≡ 1 → m.1 ≡ slots → F 1 (m.0, slots) → F n m
  onto F n m slots one is f = subst (λ (x : ℕ × M). F x.0 x.1) (λ i. (sym one i, (m.0, sym is i))) f

  -- 1 is put in the word where 0 stands
  one_or_kept : (n : ℕ) → (b : ℕ) × (either (eqb n 0) 1 n ≡ suc b)
  one_or_kept zero = (0, refl)
  one_or_kept (suc n) = (n, ap (λ (b : Bool). either b 1 (suc n)) (ne_eqb (suc n) 0 (λ e. omega arith)))

  pub try_takes : (n id : ℕ) (m : M) → n ≡ 1 → m.1 ≡ [] → 0 < m.0.parts → Allows Rule n id m 0 (λ k. either (eqb k 0) 1 k) (took stands counts (step n 0 0 1 none) m)
  try_takes n id m one is live = onto (λ k x. Allows Rule k id x 0 (λ j. either (eqb j 0) 1 j) (took stands counts (step k 0 0 1 none) x)) n m [] one is (takes_turn id m.0 (step 1 0 0 1 none) (λ k. either (eqb k 0) 1 k) one_or_kept live)

  pub waits_takes : (n id : ℕ) (m : M) → n ≡ 1 → m.1 ≡ [] → 0 < m.0.parts → Allows Rule n id m 0 (λ _. 2) (took stands counts (step n 0 2 0 none) m)
  waits_takes n id m one is live = onto (λ k x. Allows Rule k id x 0 (λ _. 2) (took stands counts (step k 0 2 0 none) x)) n m [] one is (takes_turn id m.0 (step 1 0 2 0 none) (λ _. 2) (λ _. (1, refl)) live)

  pub empty_goes : (n id : ℕ) (m : M) → n ≡ 1 → m.1 ≡ (0, Empty) ∷ [] → 0 < m.0.parts → m.0.hold ≡ Out → Allows Rule n id m 0 (λ k. k) (put_back (step n 0 0 0 none) m)
  empty_goes n id m one is live out = onto (λ k x. Allows Rule k id x 0 (λ j. j) (put_back (step k 0 0 0 none) x)) n m ((0, Empty) ∷ []) one is (puts_back id m.0 live out)

  pub empty_comes : (n id : ℕ) (m : M) → n ≡ 1 → m.1 ≡ [] → 0 < m.0.parts → m.0.hold ≡ Home → Allows Rule n id m 0 (λ k. k) (took_back (step n 0 0 0 none) m)
  empty_comes n id m one is live home = onto (λ k x. Allows Rule k id x 0 (λ j. j) (took_back (step k 0 0 0 none) x)) n m [] one is (takes_back id m.0 live home)

  pub looks : (n id : ℕ) (m : M) → n ≡ 1 → m.1 ≡ [] → 0 < m.0.parts → Allows Rule n id m 1 (λ k. k) (learned (step n 1 0 0 none) m)
  looks n id m one is live = onto (λ k x. Allows Rule k id x 1 (λ j. j) (learned (step k 1 0 0 none) x)) n m [] one is (learns id m.0 live)

  pub enters : (n id : ℕ) (m : M) (count : ℕ) (e : Snapshot E) → n ≡ 1 → m.1 ≡ [] → 0 < m.0.parts → m.0.hold ≡ Home → count ≡ length m.0.seen
      → Allows Rule n id m 1 (λ k. either (eqb k count) (count + 1) k) (counted (step n 1 count (count + 1) (some (Note e))) m)
  enters n id m count e one is live home long = onto (λ k x. Allows Rule k id x 1 (λ j. either (eqb j count) (count + 1) j) (counted (step k 1 count (count + 1) (some (Note e))) x)) n m [] one is (counts_one id m.0 count e live home long)

  pub full_goes : (n id : ℕ) (m : M) (v : View E) (st : T) → n ≡ 1 → m ≡ (record v { hold = Out }, (0, Full st) ∷ []) → 0 < v.parts → stands v.first v.seen st → NotAbove v.counts (counts st)
      → Allows Rule n id m 0 (λ _. 0) (gave counts (step n 0 0 0 none) m)
  full_goes n id m v st one is live good below = subst (λ (x : ℕ × M). Allows Rule x.0 id x.1 0 (λ _. 0) (gave counts (step x.0 0 0 0 none) x.1)) (λ i. (sym one i, sym is i)) (gives_turn id (record v { hold = Out }) st live refl good below)

  -- what the last words and slots of a closed table show
  pub shows : (id : ℕ) (v : View E) (ws : List ℕ) (xs : List (Slot T E)) (r : Slot T E) → v.parts ≡ whole → v.hold ≡ Free → Final (Seen Rule id v) ws xs → get_elem? xs 0 ≡ some r
      → (st : T) × (r ≡ Full st) × HasClosed stands counts v st
  shows id v ws xs r all free f first = let c = closes id v f.0 all free f.1 in (
    c.0,
    some-injective r (Full c.0) (sym first ∙ f.4 0 (Full c.0) c.1),
    record { stands_for = c.2; counts_below = c.3; calls = c.4; apart = c.5; others = c.6; counted = c.7 },
  )
