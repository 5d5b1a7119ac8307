use Rattle.std.proofs.Common.{◌≡◌, ◌∙◌, ◌+◌, ◌<◌, ◌^◌, ℕ, List, ap, arith, cond, Some, sym}
use Rattle.std.specs.Prelude.{IfSome}
use Rattle.std.specs.Str.{bytes_eq}
use Rattle.mg_types.specs.Bytes.{IsDoc, IsKey}
use Rattle.mg_types.specs.declared.items.Item.{Item}
use Rattle.mg_core.specs.Memtables.{item_of_key}
use Rattle.mg_mem.specs.Memtable.{IsWritten, Memtable}
use Rattle.mg_mem.proofs.InsertLemmas.{IsPut, bytes_small, holds_after, kept_after, puts_item, replaced_within, written_size}
use Rattle.mg_mem.proofs.active.Active.insert.Goals as goal

written : (i : Item) (hi : ℕ) → i.seq < 2 ^ 40 → i.seq ≡ hi + 1 → IsKey i.key → IfSome i.doc (λ (d : List ℕ). IsDoc d) → IsWritten i
written i hi small next key doc = record { some = omega (arith, next); small = small; key = key; doc = doc }

-- what the map's insert ensures
put : (c : goal.After-size_if_some) → IsPut c.self.inside.items c.insert.new.self c.in_ok-key.key c.args.item c.in_ok-replaced.replaced
put c = record {
  same = c.in_ok-key.ensures.ok;
  was = c.in_ok-replaced.ensures.was_ordered;
  ordered = c.in_ok-replaced.ensures.ordered;
  entries = c.in_ok-replaced.ensures.entries;
  updates = c.in_ok-replaced.ensures.updates.0;
  found = c.in_ok-replaced.ensures.old;
  len = c.in_ok-replaced.ensures.len;
}

put_at_end : (c : goal.Joined-replaced) → IsPut c.self.inside.items c.insert.new.self c.in_ok-key.key c.args.item c.in_ok-replaced.replaced
put_at_end c = record {
  same = c.in_ok-key.ensures.ok;
  was = c.in_ok-replaced.ensures.was_ordered;
  ordered = c.in_ok-replaced.ensures.ordered;
  entries = c.in_ok-replaced.ensures.entries;
  updates = c.in_ok-replaced.ensures.updates.0;
  found = c.in_ok-replaced.ensures.old;
  len = c.in_ok-replaced.ensures.len;
}

pub overflow_sub-self : goal.overflow_sub-self
overflow_sub-self c = replaced_within _ _ _ _ _ (put c) c.self.invariant.keyed c.self.inside.bytes c.size_if_some.result c.self.invariant.bytes_are c.size_if_some.ensures

pub overflow_add-self : goal.overflow_add-self
overflow_add-self c =
    let hi = ap (λ (t : Memtable). t.hi) c.self.view_is in
    let next = c.requires.next in
    let small = c.requires.small in
    let bytes = bytes_small _ c.self.invariant.memtable (omega (arith, hi, next, small)) in
    let is = c.self.invariant.bytes_are in
    let size = written_size c.args.item (written _ _ c.requires.small c.requires.next c.size_of-size.ensures.key c.size_of-size.ensures.doc) in
    let one = c.size_of-size.ensures.size in
    omega (arith, bytes, is, size, one)

pub invariant_of-self-2 : goal.invariant_of-self-2
invariant_of-self-2 c =
    kept_after _ _ _ _ _ (put_at_end c) c.self.invariant.keyed c.self.inside.lo c.self.inside.hi c.self.inside.bytes c.size_of-size.result c.size_if_some.result c.self.invariant
    (c.requires.next ∙ ap (λ (t : Memtable). t.hi + 1) (sym c.self.view_is)) (written _ _ c.requires.small c.requires.next c.size_of-size.ensures.key c.size_of-size.ensures.doc) c.size_of-size.ensures.size c.size_if_some.ensures

pub returns-clause-items : goal.returns-clause-items
returns-clause-items c = λ key. puts_item _ _ _ _ _ (put_at_end c) c.self.invariant.keyed key ∙ ap (λ (t : Memtable). cond (bytes_eq c.args.item.key key) (Some c.args.item) (item_of_key t.items key)) c.self.view_is

pub returns-clause-newest : goal.returns-clause-newest
returns-clause-newest c = λ m x held end item. holds_after _ _ _ _ _ (put_at_end c) c.self.invariant.keyed m x c.args.self.now c.self.inside.lo c.self.inside.hi c.self.view_is held end item
