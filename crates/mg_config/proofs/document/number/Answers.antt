use Rattle.std.proofs.Common.{◌≡◌, refl, rules}
use Rattle.toml.proofs.Views.{table_get}
use Rattle.mg_config.specs.Settings.{number_in}
use Rattle.mg_config.proofs.document.number.Goals as goal

pub returns-in-None-clause-value : goal.returns-in-None-clause-value
returns-in-None-clause-value c =
    let found = table_get c.get.result c.args.key.now c.args.table.now.entries c.get.ensures.value in
    rw (← rw c.in-None.is at found) refl

pub returns-in-Some-as_integer-clause-value : goal.returns-in-Some-as_integer-clause-value
returns-in-Some-as_integer-clause-value c =
    let found = table_get c.get.result c.args.key.now c.args.table.now.entries c.get.ensures.value in
    let given : c.number_in.result ≡ number_in c.args.range c.in-Some-as_integer.integer = search (rules, c.number_in.ensures) in
    rw (← rw c.in-Some.is at found, ← c.as_integer.ensures, c.in-Some-as_integer.is) given

pub returns-in-None-as_integer-clause-value : goal.returns-in-None-as_integer-clause-value
returns-in-None-as_integer-clause-value c =
    let found = table_get c.get.result c.args.key.now c.args.table.now.entries c.get.ensures.value in
    rw (← rw c.in-Some.is at found, ← c.as_integer.ensures, c.in-None-as_integer.is) refl
