use Rattle.std.proofs.Common.{◌≡◌}
use Rattle.toml.specs.View.{members_view}
use Rattle.mg_config.specs.Settings.{are_known}
use Rattle.mg_config.proofs.document.has_known_keys.Given as goal

abbrev pub invariant-members : goal.invariant-members
invariant-members l =
    (goal.iterator-members).can_next l.key-iterator ×
    (goal.iterator-members).is_finite l.key-iterator ×
    (are_known (members_view l.key-iterator) ≡ are_known (members_view l.table.entries))
