use Rattle.std.proofs.Common.{◌≡◌, ◌++◌, length, take, drop}
use Rattle.std.specs.List.{AllByRecursion}
use Rattle.mg_manifest_format.specs.Spelling.{listed}
use Rattle.mg_manifest_format.proofs.items.put_items.Given as goal

-- what was written and what is left are the whole
abbrev pub invariant-loop-item : goal.invariant-loop-item
invariant-loop-item g l =
    record {
      told : l.out.items ++ listed g.T.Spelled.spelling (drop l.item-index l.items) ≡ l.fn.out.items ++ listed g.T.Spelled.spelling l.items;
      front : take (length l.fn.out.items) l.out.items ≡ l.fn.out.items;
      fits : AllByRecursion g.T.Spelled.spelling.fits (drop l.item-index l.items);
    }
