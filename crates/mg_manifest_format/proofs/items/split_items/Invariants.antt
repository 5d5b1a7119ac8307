use Rattle.std.proofs.Common.{◌≡◌, ◌++◌, length}
use Rattle.std.specs.List.{AllByRecursion}
use Rattle.mg_manifest_format.specs.Spelling.{listed}
use Rattle.mg_manifest_format.proofs.ListLaws.{IsAhead}
use Rattle.mg_manifest_format.proofs.items.split_items.Given as goal

-- those that were read and what is left are the whole, and no others can have been spelled
abbrev pub invariant-loop : goal.invariant-loop
invariant-loop g l =
    record {
      spelled : listed g.T.Spelled.spelling l.items.items ++ l.rest ≡ l.bytes;
      fits : AllByRecursion g.T.Spelled.spelling.fits l.items.items;
      count : length l.items.items ≡ l.counter;
      ahead : IsAhead g.T.Spelled.spelling l.count l.bytes l.items.items l.rest;
    }
