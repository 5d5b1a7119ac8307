-- What stays of the rule when one view changes, when a view is cut in two, and when two become one.
use Rattle.std.proofs.Common.{◌≡◌, ◌≢◌, ◌⊎◌, ℕ, zero, suc, ◌+◌, ◌-◌, ◌≤◌, ◌<◌, max, List, [], ◌∷◌, ◌++◌, Bool, true, false, cond, eqb, ltb, length, set, refl, ap, sym, subst, ◌∙◌, arith, inl, inr, ⊎_elim, append-nil, le_refl}
use mathlib.Core.Option.{some, some-injective}
use mathlib.Core.Logic.{dite}
use native.Mathlib.Decide.{ℕ_discrete}
use borrow.Author.Tests.{eqb-true, eq-eqb}
use lib.ListN.{get_elem?}
use Rattle.atomic_table.proofs.Lists.{at_set, set_else, at_longer, at_snoc}
use Rattle.mg_turn.specs.declared.state.Counts.{Counts}
use Rattle.mg_turn.specs.declared.rule.View.{View}
use Rattle.mg_turn.specs.History.{IsPrefix, calls_by, total, times_among, AreApart, AreCalls}
use Rattle.mg_turn.specs.Rule.{NotAbove, greater, if_live, at_most_one, own, times_in, givers_in, EachLive, Fits, nobody, splitter, new_caller, keepsake, joined, entered, IsKept}
use Rattle.mg_turn.proofs.Lists.{prefix_self, prefix_more, of_either, longer_whole, set_at, total-append, total_set, total_at, total_two, calls_more}

pub live_count : (p n : ℕ) → 0 < p → if_live p n ≡ n
live_count zero n h = absurd (omega arith)
live_count (suc p) n h = refl

pub not_above_self : (a : Counts) → NotAbove a a
not_above_self a = (le_refl a.faults, le_refl a.synced)

pub not_above_trans : (a b c : Counts) → NotAbove a b → NotAbove b c → NotAbove a c
not_above_trans a b c p q = (let x = p.0 in let y = q.0 in omega arith, let x = p.1 in let y = q.1 in omega arith)

pub greater_not_above : (a b c : Counts) → NotAbove a c → NotAbove b c → NotAbove (greater a b) c
greater_not_above a b c p q = (let x = p.0 in let y = q.0 in omega arith, let x = p.1 in let y = q.1 in omega arith)

at_most_one_small : (n : ℕ) → at_most_one n ≤ 1
at_most_one_small zero = omega arith
at_most_one_small (suc n) = omega arith

one_if : (b : Bool) → b ≡ true → cond {A = ℕ} b 1 0 ≡ 1
one_if true e = refl
one_if false e = absurd cc

pub none_if : (b : Bool) → b ≡ false → cond {A = ℕ} b 1 0 ≡ 0
none_if true e = absurd cc
none_if false e = refl

at_most_one_max : (a b : ℕ) → at_most_one (max a b) ≤ at_most_one a + at_most_one b
at_most_one_max zero zero = omega arith
at_most_one_max zero (suc b) = let h = at_most_one_small (max 0 (suc b)) in omega arith
at_most_one_max (suc a) zero = let h = at_most_one_small (max (suc a) 0) in omega arith
at_most_one_max (suc a) (suc b) = let h = at_most_one_small (max (suc a) (suc b)) in omega arith

giving : (n : ℕ) → 0 < n → at_most_one n ≡ 1
giving zero h = absurd (omega arith)
giving (suc n) h = refl

module _ {E : Type 0} where
  -- a caller among none of these made none of their calls
  pub calls_kept : (d : ℕ) (e : E) (log : List (ℕ × E)) (os : List (ℕ × List E)) → times_among d os ≡ 0 → AreCalls log os → AreCalls (log ++ (d, e) ∷ []) os
  calls_kept d e log [] none h = tt
  calls_kept d e log (o ∷ os) none h = (step (eqb d o.0) refl, calls_kept d e log os (omega arith) h.1)
    where
      apart : eqb d o.0 ≡ true → ⊥
      apart t = let same : d ≡ o.0 = eqb-true d o.0 t in let one : eqb o.0 d ≡ true = eq-eqb o.0 d (sym same) in let y = one_if (eqb o.0 d) one in absurd (omega arith)

      step : (b : Bool) → eqb d o.0 ≡ b → calls_by o.0 (log ++ (d, e) ∷ []) ≡ o.1
      step true t = absurd (apart t)
      step false t = calls_more o.0 d e log ∙ (ap (λ (b : Bool). calls_by o.0 log ++ cond b (e ∷ []) []) t ∙ (append-nil (calls_by o.0 log) ∙ h.0))

  pub calls_joined : (log : List (ℕ × E)) (os ps : List (ℕ × List E)) → AreCalls log os → AreCalls log ps → AreCalls log (os ++ ps)
  calls_joined log [] ps a b = b
  calls_joined log (o ∷ os) ps a b = (a.0, calls_joined log os ps a.1 b)

  pub each_set : (P : ℕ → View E → Type 0) (views : List (View E)) (id : ℕ) (w : View E) → (0 < w.parts → P id w) → EachLive views (λ j u. j ≢ id → P j u) → EachLive (set views id w) P
  each_set P views id w mine others j u at live = ⊎_elim
      (λ (t : (j ≡ id) × (w ≡ u)). subst (λ (x : ℕ × View E). P x.0 x.1) (λ i. (sym t.0 i, t.1 i)) (mine (subst (λ (x : View E). 0 < x.parts) (sym t.1) live)))
      (λ (t : (j ≢ id) × (get_elem? views j ≡ some u)). others j u t.1 live t.0) (at_set views id j w u at)

  pub each_snoc : (P : ℕ → View E → Type 0) (views : List (View E)) (w : View E) → ((j : ℕ) → 0 < w.parts → P j w) → EachLive views P → EachLive (views ++ w ∷ []) P
  each_snoc P views w mine others j u at live = ⊎_elim (λ (t : get_elem? views j ≡ some u). others j u t live)
      (λ (t : w ≡ u). subst (P j) t (mine j (subst (λ (x : View E). 0 < x.parts) (sym t) live))) (at_snoc views w u j at)

  abbrev pub Complete : List (ℕ × E) → List (View E) → Type 0
  Complete log views = (j : ℕ) × ((v : View E) × (get_elem? views j ≡ some v) × (0 < v.parts) × (v.seen ≡ log))

  -- the callers of a view with a part differ, since no caller is in two views or twice in one
  pub own_apart : (first : ℕ) (log : List (ℕ × E)) (views : List (View E)) (id : ℕ) (v : View E) → IsKept first log views → get_elem? views id ≡ some v → 0 < v.parts → AreApart (own v)
  own_apart first log views id v k at live c = let part = total_at (times_in c) views id v at in let all = k.apart c in let same = live_count v.parts (times_among c (own v)) live in omega arith

  -- a view changes what it has seen and made, and no more
  pub kept_set : (first : ℕ) (log new : List (ℕ × E)) (views : List (View E)) (id : ℕ) (v w : View E) → IsKept first log views → get_elem? views id ≡ some v → 0 < v.parts → w.parts ≡ v.parts → w.next ≡ v.next
      → ((c : ℕ) → times_in c w ≡ times_in c v) → Fits first new w → EachLive views (λ j u. j ≢ id → Fits first new u)
      → ((c : ℕ) → total (times_in c) views ≡ 0 → calls_by c new ≡ []) → w.seen ≡ new → IsKept first new (set views id w)
  kept_set first log new views id v w k at live parts next times fits others known seen =
      let sums : (c : ℕ) → total (times_in c) (set views id w) ≡ total (times_in c) views = λ c. let h = total_set (times_in c) views id v w at in let t = times c in omega arith in
      record {
        fits = each_set (λ j u. Fits first new u) views id w (λ _. fits) others;
        parts = (let h = total_set (λ u. u.parts) views id v w at in let p = k.parts in omega arith);
        apart = λ c. (let h = sums c in let p = k.apart c in omega arith);
        known = λ c z. known c (sym (sums c) ∙ z);
        givers = (let h = total_set givers_in views id v w at in let p = k.givers in let g : givers_in w ≡ givers_in v = (λ i. if_live (parts i) (at_most_one (next i))) in omega arith);
        unused = each_set (λ j u. 0 < u.next → (c : ℕ) → u.next ≤ c → total (times_in c) (set views id w) ≡ 0) views id w
            (λ _ some_next c le. sums c ∙ k.unused id v at live (subst (λ (n : ℕ). 0 < n) next some_next) c (subst (λ (n : ℕ). n ≤ c) next le))
            (λ j u here u_live _ some_next c le. sums c ∙ k.unused j u here u_live some_next c le);
        complete = (id, (w, set_at views id v w at, subst (λ (n : ℕ). 0 < n) (sym parts) live, seen));
      }

  -- the view enters an entry of its caller
  pub kept_entered : (first : ℕ) (log : List (ℕ × E)) (views : List (View E)) (id : ℕ) (v : View E) (e : E) → IsKept first log views → get_elem? views id ≡ some v → 0 < v.parts → v.seen ≡ log
      → IsKept first (log ++ (v.caller, e) ∷ []) (set views id (entered v e))
  kept_entered first log views id v e k at live seen =
      let new : List (ℕ × E) = log ++ (v.caller, e) ∷ [] in
      let self : eqb v.caller v.caller ≡ true = eq-eqb v.caller v.caller refl in
      let mine : times_in v.caller v ≡ 1 + times_among v.caller v.met = live_count v.parts (times_among v.caller (own v)) live ∙ ap (λ (b : Bool). cond b 1 0 + times_among v.caller v.met) self in
      let most = k.apart v.caller in
      let at_least = total_at (times_in v.caller) views id v at in
      let fit = k.fits id v at live in
      kept_set first log new views id v (entered v e) k at live refl refl (λ c. refl)
      record {
        first_is = fit.first_is;
        seen = subst (λ (xs : List (ℕ × E)). IsPrefix xs new) (ap (λ (xs : List (ℕ × E)). xs ++ (v.caller, e) ∷ []) (sym seen)) (prefix_self new);
        told = prefix_more v.told log ((v.caller, e) ∷ []) fit.told;
        calls = (calls_more v.caller v.caller e log ∙ (ap (λ (b : Bool). calls_by v.caller log ++ cond b (e ∷ []) []) self ∙ ap (λ (xs : List E). xs ++ e ∷ []) fit.calls.0), calls_kept v.caller e log v.met (omega arith) fit.calls.1);
      }
      (λ j u here u_live n. let f = k.fits j u here u_live in
      let two = total_two (times_in v.caller) views id j v u (λ z. n (sym z)) at here in
      let theirs : times_in v.caller u ≡ times_among v.caller (own u) = live_count u.parts (times_among v.caller (own u)) u_live in
      record {
        first_is = f.first_is;
        seen = prefix_more u.seen log ((v.caller, e) ∷ []) f.seen;
        told = prefix_more u.told log ((v.caller, e) ∷ []) f.told;
        calls = calls_kept v.caller e log (own u) (omega arith) f.calls;
      })
      (λ c z. unknown c z (eqb v.caller c) refl)
      (ap (λ (xs : List (ℕ × E)). xs ++ (v.caller, e) ∷ []) seen)
    where
      unknown : (c : ℕ) → total (times_in c) views ≡ 0 → (b : Bool) → eqb v.caller c ≡ b → calls_by c (log ++ (v.caller, e) ∷ []) ≡ []
      unknown c z true t = let same : v.caller ≡ c = eqb-true v.caller c t in
          let self : eqb v.caller v.caller ≡ true = eq-eqb v.caller v.caller refl in
          let mine : times_in v.caller v ≡ 1 + times_among v.caller v.met = live_count v.parts (times_among v.caller (own v)) live ∙ ap (λ (b : Bool). cond b 1 0 + times_among v.caller v.met) self in
          let there = total_at (times_in v.caller) views id v at in
          let zero_there : total (times_in v.caller) views ≡ 0 = subst (λ (d : ℕ). total (times_in d) views ≡ 0) (sym same) z in
          absurd (omega arith)
      unknown c z false t = calls_more c v.caller e log ∙ (ap (λ (b : Bool). calls_by c log ++ cond b (e ∷ []) []) t ∙ (append-nil (calls_by c log) ∙ k.known c z))

  -- the view of a new caller is cut off
  pub kept_split : (first : ℕ) (log : List (ℕ × E)) (views : List (View E)) (id : ℕ) (v : View E) → IsKept first log views → get_elem? views id ≡ some v → 2 ≤ v.parts → 0 < v.next
      → IsKept first log (set views id (splitter v) ++ new_caller v ∷ [])
  kept_split first log views id v k at two some_next =
      let live : 0 < v.parts = omega arith in
      let fit = k.fits id v at live in
      let left : View E = splitter v in
      let right : View E = new_caller v in
      let free : (c : ℕ) → v.next ≤ c → total (times_in c) views ≡ 0 = k.unused id v at live some_next in
      let sums : (c : ℕ) → total (times_in c) (set views id left ++ right ∷ []) ≡ total (times_in c) views + cond (eqb v.next c) 1 0 = λ c.
      let a = total-append (times_in c) (set views id left) (right ∷ []) in
      let h = total_set (times_in c) views id v left at in
      let l : times_in c left ≡ times_among c (own v) = live_count (v.parts - 1) (times_among c (own v)) (omega arith) in
      let r : times_in c v ≡ times_among c (own v) = live_count v.parts (times_among c (own v)) live in
      omega arith in
      let gives : givers_in v ≡ 1 = live_count v.parts (at_most_one v.next) live ∙ giving v.next some_next in
      let gives_left : givers_in left ≡ 1 = live_count (v.parts - 1) (at_most_one (v.next + 1)) (omega arith) ∙ giving (v.next + 1) (omega arith) in
      record {
        fits = each_snoc (λ j u. Fits first log u) (set views id left) right
            (λ j _. record { first_is = fit.first_is; seen = fit.seen; told = fit.told; calls = (k.known v.next (free v.next (le_refl v.next)), tt) })
            (each_set (λ j u. Fits first log u) views id left (λ _. record { first_is = fit.first_is; seen = fit.seen; told = fit.told; calls = fit.calls }) (λ j u here u_live _. k.fits j u here u_live));
        parts = (let a = total-append (λ (u : View E). u.parts) (set views id left) (right ∷ []) in let h = total_set (λ (u : View E). u.parts) views id v left at in let p = k.parts in omega arith);
        apart = λ c. alone c (sums c) (eqb v.next c) refl;
        known = λ c z. (let h = sums c in k.known c (omega arith));
        givers = (let a = total-append givers_in (set views id left) (right ∷ []) in let h = total_set givers_in views id v left at in let p = k.givers in omega arith);
        unused = each_snoc (λ j u. 0 < u.next → (c : ℕ) → u.next ≤ c → total (times_in c) (set views id left ++ right ∷ []) ≡ 0) (set views id left) right
            (λ j _ some c le. absurd (omega arith))
            (each_set (λ j u. 0 < u.next → (c : ℕ) → u.next ≤ c → total (times_in c) (set views id left ++ right ∷ []) ≡ 0) views id left
            (λ _ _ c le. beyond c (sums c) le (eqb v.next c) refl)
            (λ j u here u_live n some c le. let g = total_two givers_in views id j v u (λ z. n (sym z)) at here in
            let theirs : givers_in u ≡ 1 = live_count u.parts (at_most_one u.next) u_live ∙ giving u.next some in let p = k.givers in absurd (omega arith)));
        complete = moved k.complete;
      }
    where
      alone : (c : ℕ) {n : ℕ} → n ≡ total (times_in c) views + cond (eqb v.next c) 1 0 → (b : Bool) → eqb v.next c ≡ b → n ≤ 1
      alone c {n} e true t = let same : v.next ≡ c = eqb-true v.next c t in let live : 0 < v.parts = omega arith in let z = k.unused id v at live some_next c (subst (λ (m : ℕ). v.next ≤ m) same (le_refl v.next)) in
          let one = one_if (eqb v.next c) t in omega arith
      alone c {n} e false t = let none = none_if (eqb v.next c) t in let p = k.apart c in omega arith

      beyond : (c : ℕ) {n : ℕ} → n ≡ total (times_in c) views + cond (eqb v.next c) 1 0 → v.next + 1 ≤ c → (b : Bool) → eqb v.next c ≡ b → n ≡ 0
      beyond c {n} e le true t = let same : v.next ≡ c = eqb-true v.next c t in absurd (omega arith)
      beyond c {n} e le false t = let none = none_if (eqb v.next c) t in let live : 0 < v.parts = omega arith in let z = k.unused id v at live some_next c (omega arith) in omega arith

      moved : Complete log views → Complete log (set views id (splitter v) ++ new_caller v ∷ [])
      moved (j, (u, here, u_live, seen)) = dite (ℕ_discrete j id)
          (λ (e : j ≡ id). let same : u ≡ v = some-injective u v (sym here ∙ (ap (get_elem? views) e ∙ at)) in
          (id, (splitter v, at_longer (set views id (splitter v)) (new_caller v ∷ []) id (splitter v) (set_at views id v (splitter v) at), (omega arith), ap (λ (x : View E). x.seen) (sym same) ∙ seen)))
          (λ n. (j, (u, at_longer (set views id (splitter v)) (new_caller v ∷ []) j u (set_else views id j (splitter v) n ∙ here), u_live, seen)))

  -- a copy without a part is cut off
  pub kept_kept : (first : ℕ) (log : List (ℕ × E)) (views : List (View E)) (id : ℕ) (v : View E) → IsKept first log views → get_elem? views id ≡ some v → IsKept first log (views ++ keepsake v ∷ [])
  kept_kept first log views id v k at =
      let sums : (c : ℕ) → total (times_in c) (views ++ keepsake v ∷ []) ≡ total (times_in c) views = λ c. let a = total-append (times_in c) views (keepsake v ∷ []) in omega arith in
      record {
        fits = each_snoc (λ j u. Fits first log u) views (keepsake v) (λ j none. absurd (omega arith)) k.fits;
        parts = (let a = total-append (λ (u : View E). u.parts) views (keepsake v ∷ []) in let p = k.parts in omega arith);
        apart = λ c. (let h = sums c in let p = k.apart c in omega arith);
        known = λ c z. k.known c (sym (sums c) ∙ z);
        givers = (let a = total-append givers_in views (keepsake v ∷ []) in let p = k.givers in omega arith);
        unused = each_snoc (λ j u. 0 < u.next → (c : ℕ) → u.next ≤ c → total (times_in c) (views ++ keepsake v ∷ []) ≡ 0) views (keepsake v) (λ j none. absurd (omega arith))
            (λ j u here u_live some c le. sums c ∙ k.unused j u here u_live some c le);
        complete = (k.complete.0, (k.complete.1.0, at_longer views (keepsake v ∷ []) k.complete.0 k.complete.1.0 k.complete.1.1, k.complete.1.2, k.complete.1.3));
      }

  -- two views become one
  pub kept_joined : (first : ℕ) (log : List (ℕ × E)) (views : List (View E)) (id other : ℕ) (v u : View E) → IsKept first log views → get_elem? views id ≡ some v → other ≢ id → get_elem? views other ≡ some u
      → 0 < v.parts → 0 < u.parts → IsKept first log (set (set views id (joined v u)) other nobody)
  kept_joined first log views id other v u k at apart here live u_live =
      let both : View E = joined v u in
      let mid : List (View E) = set views id both in
      let there : get_elem? mid other ≡ some u = set_else views id other both apart ∙ here in
      let f = k.fits id v at live in
      let g = k.fits other u here u_live in
      let moves : (F : View E → ℕ) → total F (set mid other nobody) + F u + F v ≡ total F views + F both + F nobody = λ F.
      let a = total_set F views id v both at in let b = total_set F mid other u nobody there in omega arith in
      let sums : (c : ℕ) → total (times_in c) (set mid other nobody) ≡ total (times_in c) views = λ c.
      let m = moves (times_in c) in
      let p : times_in c v ≡ times_among c (own v) = live_count v.parts (times_among c (own v)) live in
      let q : times_in c u ≡ times_among c (own u) = live_count u.parts (times_among c (own u)) u_live in
      let r : times_in c both ≡ times_among c (own v ++ own u) = live_count (v.parts + u.parts) (times_among c (own both)) (omega arith) in
      let t = total-append (λ (o : ℕ × List E). cond {A = ℕ} (eqb o.0 c) 1 0) (own v) (own u) in
      omega arith in
      let gave_v : givers_in v ≡ at_most_one v.next = live_count v.parts (at_most_one v.next) live in
      let gave_u : givers_in u ≡ at_most_one u.next = live_count u.parts (at_most_one u.next) u_live in
      let gave_both : givers_in both ≡ at_most_one (max v.next u.next) = live_count (v.parts + u.parts) (at_most_one (max v.next u.next)) (omega arith) in
      let two = total_two givers_in views id other v u (λ e. apart (sym e)) at here in
      let one = k.givers in
      let rests : (c : ℕ) → 0 < max v.next u.next → max v.next u.next ≤ c → total (times_in c) views ≡ 0 = λ c some le.
      dite (ℕ_discrete v.next 0)
      (λ (z : v.next ≡ 0). k.unused other u here u_live (omega arith) c (omega arith))
      (λ (n : v.next ≢ 0). k.unused id v at live (omega arith) c (omega arith)) in
      record {
        fits = each_set (λ j w. Fits first log w) mid other nobody (λ none. absurd (omega arith))
            (λ j w at_j w_live n. each_set (λ i x. Fits first log x) views id both
            (λ _. record {
              first_is = f.first_is;
              seen = of_either (λ (xs : List (ℕ × E)). IsPrefix xs log) v.seen u.seen f.seen g.seen (ltb (length v.seen) (length u.seen));
              told = of_either (λ (xs : List (ℕ × E)). IsPrefix xs log) u.seen v.seen g.seen f.seen (ltb (length v.seen) (length u.seen));
              calls = calls_joined log (own v) (own u) f.calls g.calls;
            })
            (λ i x at_i x_live _. k.fits i x at_i x_live) j w at_j w_live);
        parts = (let m = moves (λ w. w.parts) in let p = k.parts in omega arith);
        apart = λ c. (let h = sums c in let p = k.apart c in omega arith);
        known = λ c z. k.known c (sym (sums c) ∙ z);
        givers = (let m = moves givers_in in let x = at_most_one_max v.next u.next in omega arith);
        unused = each_set (λ j w. 0 < w.next → (c : ℕ) → w.next ≤ c → total (times_in c) (set mid other nobody) ≡ 0) mid other nobody (λ none. absurd (omega arith))
            (λ j w at_j w_live n. each_set (λ i x. 0 < x.next → (c : ℕ) → x.next ≤ c → total (times_in c) (set mid other nobody) ≡ 0) views id both
            (λ _ some c le. sums c ∙ rests c some le)
            (λ i x at_i x_live _ some c le. sums c ∙ k.unused i x at_i x_live some c le) j w at_j w_live);
        complete = moved k.complete;
      }
    where
      merged : (v.seen ≡ log) ⊎ (u.seen ≡ log) → Complete log (set (set views id (joined v u)) other nobody)
      merged whole_one = let f = k.fits id v at live in let g = k.fits other u here u_live in
          (id, (joined v u, set_else (set views id (joined v u)) other id nobody (λ e. apart (sym e)) ∙ set_at views id v (joined v u) at, omega arith, longer_whole v.seen u.seen log f.seen g.seen whole_one))

      moved : Complete log views → Complete log (set (set views id (joined v u)) other nobody)
      moved (j, (w, at_j, w_live, seen)) = dite (ℕ_discrete j id)
          (λ (e : j ≡ id). let same : w ≡ v = some-injective w v (sym at_j ∙ (ap (get_elem? views) e ∙ at)) in merged (inl (ap (λ (x : View E). x.seen) (sym same) ∙ seen)))
          (λ (n : j ≢ id). dite (ℕ_discrete j other)
          (λ (e : j ≡ other). let same : w ≡ u = some-injective w u (sym at_j ∙ (ap (get_elem? views) e ∙ here)) in merged (inr (ap (λ (x : View E). x.seen) (sym same) ∙ seen)))
          (λ (m : j ≢ other). (j, (w, set_else (set views id (joined v u)) other j nobody m ∙ (set_else views id j (joined v u) n ∙ at_j), w_live, seen))))
