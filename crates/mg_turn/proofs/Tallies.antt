-- What two callers of a tally leave.
use Rattle.std.proofs.Common.{◌≡◌, ℕ, ◌+◌, ◌*◌, ◌≤◌, List, [], ◌∷◌, ◌++◌, length, map, ap, sym, subst, ◌∙◌, arith, inl, inr}
use Rattle.atomic_table.specs.Seated.{TableId}
use Rattle.mg_turn.specs.History.{calls_by, AreCalls, calls_in}
use Rattle.mg_turn.proofs.Lists.{all_of_one}
use Rattle.mg_turn.specs.Passes.{PassState, AfterCalls, IsDoneOrFull, own_calls, first_pass, pass_after, met_with}

pub all_done : {E : Type 0} (times : ℕ) (p : PassState E) (entered : ℕ) → IsDoneOrFull times p entered → times ≤ entered → entered ≡ times
all_done times p entered (inl done) le = done
all_done times p entered (inr full) le = let less = full.0 in absurd (omega arith)

-- two callers with so many calls each, and nobody else
of_two : {E : Type 0} (times : ℕ) (seen : List (ℕ × E)) (ones twos : List E)
    → length ones ≡ times → length twos ≡ times
    → AreCalls seen ((0, ones) ∷ (1, twos) ∷ []) → length seen ≡ calls_in ((0, ones) ∷ (1, twos) ∷ [])
    → (length seen ≡ 2 * times) × (length (calls_by 0 seen) ≡ times) × (length (calls_by 1 seen) ≡ times)
of_two times seen ones twos one two calls counted = (omega arith, ap length calls.0 ∙ one, ap length calls.1.0 ∙ two)

own_of_two : {E : Type 0} (turn : TableId) (one two p q end : PassState E) (m n : ℕ)
    → one ≡ record (first_pass turn 0 0 0) { parts = 65535; next = 2 } → two ≡ pass_after (first_pass turn 0 0 0)
    → AfterCalls turn one p m → AfterCalls turn two q n → end ≡ record (met_with p q) { parts = 0 }
    → own_calls end ≡ (0, p.calls) ∷ (1, q.calls) ∷ []
own_of_two turn one two p q end m n is_one is_two of_p of_q is_end =
    let c0 : p.caller ≡ 0 = of_p.caller ∙ ap (λ v. v.caller) is_one in
    let c1 : q.caller ≡ 1 = of_q.caller ∙ ap (λ v. v.caller) is_two in
    let m0 : p.met ≡ [] = of_p.met ∙ ap (λ v. v.met) is_one in
    let m1 : q.met ≡ [] = of_q.met ∙ ap (λ v. v.met) is_two in
    cc (ap own_calls is_end, c0, c1, m0, m1)

pub counted_by_two : {E : Type 0} (times : ℕ) (turn : TableId) (one two p q end : PassState E) (m n : ℕ)
    → one ≡ record (first_pass turn 0 0 0) { parts = 65535; next = 2 } → two ≡ pass_after (first_pass turn 0 0 0)
    → AfterCalls turn one p (length one.calls + m) × IsDoneOrFull times p m → AfterCalls turn two q (length two.calls + n) × IsDoneOrFull times q n
    → times ≤ m → times ≤ n
    → end ≡ record (met_with p q) { parts = 0 }
    → AreCalls end.seen (own_calls end) → length end.seen ≡ calls_in (own_calls end)
    → (length end.seen ≡ 2 * times) × (length (calls_by 0 end.seen) ≡ times) × (length (calls_by 1 end.seen) ≡ times)
counted_by_two times turn one two p q end m n is_one is_two of_p of_q le_m le_n is_end calls counted =
    let own = own_of_two turn one two p q end _ _ is_one is_two of_p.0 of_q.0 is_end in
    let none0 : length one.calls ≡ 0 = ap (λ v. length v.calls) is_one in
    let none1 : length two.calls ≡ 0 = ap (λ v. length v.calls) is_two in
    let ones : length p.calls ≡ times = omega (arith, of_p.0.calls, none0, all_done times p m of_p.1 le_m) in
    let twos : length q.calls ≡ times = omega (arith, of_q.0.calls, none1, all_done times q n of_q.1 le_n) in
    of_two times end.seen p.calls q.calls ones twos (subst (AreCalls end.seen) own calls) (counted ∙ ap calls_in own)

-- where one caller made two calls and the other one none, the history is the two calls
pub two_of_one : (end p q : PassState ℕ) → end ≡ record (met_with p q) { parts = 0 }
    → p.caller ≡ 0 → p.calls ≡ 7 ∷ 8 ∷ [] → p.met ≡ [] → q.calls ≡ [] → q.met ≡ []
    → AreCalls end.seen (own_calls end) → length end.seen ≡ calls_in (own_calls end)
    → end.seen ≡ (0, 7) ∷ (0, 8) ∷ []
two_of_one end p q is caller calls met no_calls no_met made counted =
    let own : own_calls end ≡ (0, 7 ∷ 8 ∷ []) ∷ (q.caller, []) ∷ [] = ap own_calls is ∙ (λ i. (caller i, calls i) ∷ (met i ++ (q.caller, no_calls i) ∷ no_met i)) in
    let mine : calls_by 0 end.seen ≡ 7 ∷ 8 ∷ [] = (subst (AreCalls end.seen) own made).0 in
    let two : length end.seen ≡ 2 = counted ∙ ap calls_in own in
    all_of_one 0 end.seen (ap length mine ∙ sym two) ∙ ap (map (λ (e : ℕ). (0, e))) mine
