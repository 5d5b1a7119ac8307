use Rattle.std.proofs.Common.{◌≡◌, inl, ◌∙◌, ◌-◌, ◌≤◌, false, true, refl, sym, ap, arith, rules}
use Rattle.mg_bloom.specs.Bloom.{has_words, key_words}
use Rattle.mg_table.proofs.FindingLaws.{chosen, none-denied, none_without, sought, sought_somewhere}
use Rattle.mg_table.proofs.reading.block_for.Goals as goal

pub returns-then-not-may_hold_hashed-clause-only : goal.returns-then-not-may_hold_hashed-clause-only
returns-then-not-may_hold_hashed-clause-only g c = λ entries blocks is indexed.
    let answered : c.may_hold_hashed.result ≡ false = search rules in
    let denied : has_words c.args.table.now.filter (key_words c.args.key.now) ≡ false =
    ap (has_words c.args.table.now.filter) (sym c.requires) ∙ sym c.may_hold_hashed.ensures ∙ answered in
    none-denied c.args.key.now c.args.table.now.filter entries is.filtered denied

pub returns-clause-only : goal.returns-clause-only
returns-clause-only g c = λ entries blocks is indexed.
    let table = c.args.table.now in
    let count = c.blocks_up_to.result in
    let point = c.blocks_up_to.ensures.point in
    chosen table.indexed.footer.low table.indexed.footer.high entries blocks table.filter c.args.key.now table.indexed.index count c.checked_sub.result is indexed
    c.blocks_up_to.ensures.within
    (λ some d. point.0 (count - 1) d (omega arith) (omega (arith, some)))
    (λ more d. point.1 count d (omega arith) more)
    c.checked_sub.ensures

pub returns-clause-sought : goal.returns-clause-sought
returns-clause-sought g c =
    let table = c.args.table.now in
    let key = c.args.key.now in
    let answered : c.may_hold_hashed.result ≡ true = search rules in
    let held : has_words table.filter (key_words key) ≡ true = ap (has_words table.filter) (sym c.requires) ∙ sym c.may_hold_hashed.ensures ∙ answered in
    let count = c.blocks_up_to.result in
    let point = c.blocks_up_to.ensures.point in
    sought table key table.indexed.index count c.checked_sub.result refl held c.blocks_up_to.ensures.within
    (λ some d. point.0 (count - 1) d (omega arith) (omega (arith, some)))
    (λ more d. point.1 count d (omega arith) more)
    c.checked_sub.ensures

pub returns-then-not-may_hold_hashed-clause-sought : goal.returns-then-not-may_hold_hashed-clause-sought
returns-then-not-may_hold_hashed-clause-sought g c =
    let answered : c.may_hold_hashed.result ≡ false = search rules in
    inl (ap (has_words c.args.table.now.filter) (sym c.requires) ∙ sym c.may_hold_hashed.ensures ∙ answered)

pub returns-clause-nowhere : goal.returns-clause-nowhere
returns-clause-nowhere g c = λ nowhere.
    let table = c.args.table.now in
    let key = c.args.key.now in
    let answered : c.may_hold_hashed.result ≡ true = search rules in
    let held : has_words table.filter (key_words key) ≡ true = ap (has_words table.filter) (sym c.requires) ∙ sym c.may_hold_hashed.ensures ∙ answered in
    let count = c.blocks_up_to.result in
    none_without c.checked_sub.result (1 ≤ count) (count - 1) c.checked_sub.ensures
    (λ some. sought_somewhere table key held (omega (arith, some, c.blocks_up_to.ensures.within)) (λ d. c.blocks_up_to.ensures.point.0 0 d (omega (arith, some)) (omega arith)) nowhere)
