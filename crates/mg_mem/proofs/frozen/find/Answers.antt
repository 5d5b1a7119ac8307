use Rattle.std.proofs.Common.{◌≡◌, subst, sym, rules, tests}
use Rattle.std.specs.Cmp.Lexicographic.{slice_cmp}
use Rattle.std.specs.Ordering.{nat_cmp}
use Rattle.std.proofs.lemmas.Cmp.{nat_list_cmp_total}
use Rattle.std.proofs.lemmas.Fn.{always_returns_same}
use Rattle.std.proofs.lemmas.List.Sorted.{searchable_from_sorted}
use Rattle.mg_types.specs.declared.items.Item.{Item}
use Rattle.mg_core.specs.Lists.{Has}
use Rattle.mg_mem.proofs.InsertLemmas.{equal_keys, item_key}
use Rattle.mg_mem.proofs.KeyLemmas.{found_member}
use Rattle.mg_mem.proofs.OrderLemmas.{has_at, not_found, rises_steps}
use Rattle.mg_mem.proofs.frozen.find.Goals as goal

pub returns-in-Ok : goal.returns-in-Ok
returns-in-Ok c =
    let hit = c.in-Ok.ensures.position (λ (i : Item). slice_cmp nat_cmp i.key c.args.key.now) (always_returns_same _ _ _ (λ a r g called. search (rules, tests))) c.index-items-at.result in
    let member = subst (Has c.args.items.now) (sym c.index-items-at.is) (has_at c.args.items.now c.in-Ok.at c.index-items-at.result c.in-Ok.ensures.bound) in
    let same = equal_keys _ _ (subst (λ (i : Item). slice_cmp nat_cmp i.key c.args.key.now ≡ _) (sym c.index-items-at.is) hit) in
    sym (found_member item_key c.args.items.now c.index-items-at.result c.args.key.now c.requires member same)

pub returns-in-Err : goal.returns-in-Err
returns-in-Err c =
    let point = c.in-Err.ensures.position (λ (i : Item). slice_cmp nat_cmp i.key c.args.key.now) (always_returns_same _ _ _ (λ a r g called. search (rules, tests)))
    (searchable_from_sorted nat_list_cmp_total item_key c.args.items.now c.args.key.now (rises_steps item_key c.args.items.now c.requires)) in
    sym (not_found item_key c.args.items.now c.args.key.now c.in-Err.field-0 point)
