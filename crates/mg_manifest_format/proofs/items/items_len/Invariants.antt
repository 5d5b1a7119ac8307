use Rattle.std.proofs.Common.{◌≡◌, ◌+◌, length, drop}
use Rattle.std.specs.List.{AllByRecursion}
use Rattle.mg_manifest_format.specs.Spelling.{listed}
use Rattle.mg_manifest_format.proofs.items.items_len.Given as goal

-- the bytes of those so far and of those that are left are the bytes of all
abbrev pub invariant-loop-item : goal.invariant-loop-item
invariant-loop-item g l =
    record {
      told : l.len + length (listed g.T.Spelled.spelling (drop l.item-index l.items)) ≡ length (listed g.T.Spelled.spelling l.items);
      fits : AllByRecursion g.T.Spelled.spelling.fits (drop l.item-index l.items);
    }
