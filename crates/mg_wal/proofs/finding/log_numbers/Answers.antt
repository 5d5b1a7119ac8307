use Rattle.std.proofs.Common.{◌↔◌, eqb, IsSome, List, subst, sym}
use Rattle.std.proofs.lemmas.List.Filters.{dedup_is}
use Rattle.std.proofs.lemmas.Map.Keys.{IsStrictlyIncreasing-dedup}
use Rattle.std.specs.List.{Contains}
use Rattle.std.specs.List.Sorted.{IsStrictlyIncreasing}
use Rattle.mg_types.specs.declared.names.Name.{Name}
use Rattle.mg_wal.proofs.FindLaws.{numbers_once}
use Rattle.mg_wal.proofs.StoryLaws.{of_named_value}
use Rattle.mg_wal.proofs.finding.log_numbers.Goals as goal

pub returns-clause-all : goal.returns-clause-all
returns-clause-all g c tells =
    numbers_once (g.V.Volume.view c.args.vol.now).contents c.deref.result.now c.in_ok-numbers.numbers.items c.dedup.new.self.items
    (subst (λ (names : List Name). (name : Name) → Contains names name ↔ IsSome ((g.V.Volume.view c.args.vol.now).contents name)) (sym c.deref.ensures.value)
    (of_named_value c.names.result c.map_err.result c.in_ok-names.names _ _ c.map_err.ensures.cases c.map_err.ensures.variant c.in_ok-names.was (c.names.ensures.all tells)))
    c.in_ok-numbers.ensures.all (dedup_is eqb c.in_ok-numbers.numbers.items c.dedup.new.self.items c.dedup.ensures.filtered)

pub returns-clause-rise : goal.returns-clause-rise
returns-clause-rise g c =
    subst IsStrictlyIncreasing (sym (dedup_is eqb c.in_ok-numbers.numbers.items c.dedup.new.self.items c.dedup.ensures.filtered))
    (IsStrictlyIncreasing-dedup c.in_ok-numbers.numbers.items c.in_ok-numbers.ensures.order)
