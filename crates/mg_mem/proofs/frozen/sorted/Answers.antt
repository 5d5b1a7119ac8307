use Rattle.std.proofs.Common.{◌≤◌, Bor, List, ℕ, map, ap, arith, subst, rules, tests}
use Rattle.std.specs.List.Sorted.{IsPermutation}
use Rattle.std.proofs.lemmas.Fn.{always_returns_same}
use Rattle.std.proofs.lemmas.List.Sorted.{IsPermutation-map}
use Rattle.mg_types.specs.declared.items.Item.{Item}
use Rattle.mg_core.specs.Lists.{times}
use Rattle.mg_mem.proofs.OrderLemmas.{rises_sorted, same_permuted, shown_rise, shown_times, times_permuted}
use Rattle.mg_mem.proofs.frozen.sorted.Goals as goal

abbrev shown : Bor Item → Item
shown b = b.now

abbrev number : Item → ℕ
number i = i.seq

abbrev shown_number : Bor Item → ℕ
shown_number b = b.now.seq

pub returns-clause-rising : goal.returns-clause-rising
returns-clause-rising c =
    let sorted = c.sort_unstable_by_key.ensures.sorted shown_number (always_returns_same _ _ _ (λ a r g called. search (rules, tests))) in
    let few : (n : ℕ) → times shown_number n c.sort_unstable_by_key.new.self.items ≤ 1 = λ n.
    omega (arith, times_permuted shown_number c.in_ok-sorted.sorted.items c.sort_unstable_by_key.new.self.items c.sort_unstable_by_key.ensures.permutation n, shown_times number shown n c.in_ok-sorted.sorted.items, ap (λ (items : List Item). times number n items) c.in_ok-sorted.ensures, c.requires n) in
    shown_rise number shown c.sort_unstable_by_key.new.self.items (rises_sorted shown_number c.sort_unstable_by_key.new.self.items sorted few)

pub returns-clause-members : goal.returns-clause-members
returns-clause-members c =
    same_permuted c.args.items.now (map shown c.sort_unstable_by_key.new.self.items)
    (subst (λ (items : List Item). IsPermutation items (map shown c.sort_unstable_by_key.new.self.items)) c.in_ok-sorted.ensures (IsPermutation-map shown _ _ c.sort_unstable_by_key.ensures.permutation))
