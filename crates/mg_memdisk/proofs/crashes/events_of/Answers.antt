use Rattle.std.proofs.Common.{sym, ◌∙◌, ap, subst, List}
use Rattle.std.specs.List.Sorted.{IsStrictlySortedBy}
use Rattle.std.specs.Map.{keys_of}
use Rattle.mg_types.specs.declared.names.Name.{Name}
use Rattle.mg_disk.proofs.NameLaws.{name_cmp}
use Rattle.mg_disk.specs.Images.{Image}
use Rattle.mg_memdisk.specs.Crashes.{found_in}
use Rattle.mg_memdisk.specs.declared.events.Event.{Event}
use Rattle.mg_memdisk.specs.declared.standings.Standing.{Standing}
use Rattle.mg_memdisk.proofs.EntryLaws.{puts, entry_more, image_of}
use Rattle.mg_memdisk.proofs.crashes.events_of.Goals as goal

pub returns : goal.returns
returns c =
    let same = c.deref-name-items.ensures.value in
    image_of c.args.map c.deref-name-items.result.now c.loop-name.name-index _ c.loop-name.invariant c.loop-name-test.false (same ∙ c.in_ok-standings.ensures.items)
    (subst (λ (l : List (Name × Standing)). IsStrictlySortedBy name_cmp (keys_of l)) (sym same) c.in_ok-standings.ensures.order)

pub loop-name-init : goal.loop-name-init
loop-name-init c = ap (λ (l : List Event). found_in l) c.new-events.ensures.items

pub loop-name-preserved : goal.loop-name-preserved
loop-name-preserved c =
    c.in_ok-keep.ensures ∙ ap (λ (image : Image). puts image c.loop-name-item.result) c.loop-name.invariant
    ∙ sym (entry_more c.deref-name-items.result.now c.loop-name.name-index c.loop-name-item.result c.loop-name-test.true c.loop-name-item.is)
