use Rattle.std.proofs.Common.{◌≡◌, take}
use Rattle.mg_model.specs.Mutations.{held, newest}
use Rattle.mg_model.proofs.scan.newest_place.Given as goal

abbrev pub invariant-loop-index : goal.invariant-loop-index
invariant-loop-index l = l.place ≡ newest (held (take l.index l.mutations)) l.key
