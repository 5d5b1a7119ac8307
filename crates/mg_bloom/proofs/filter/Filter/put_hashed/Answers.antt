use Rattle.std.proofs.Common.{◌≡◌, length, ap, ◌∙◌, arith}
use Rattle.std.proofs.lemmas.Grind.{common_steps}
use Rattle.mg_bloom.proofs.BloomLaws.{AddsWords-returned, has_words-added, has_words-kept}
use Rattle.mg_bloom.proofs.filter.Filter.put_hashed.Goals as goal

pub returns-clause-exact : goal.returns-clause-exact
returns-clause-exact c =
    let body : c.self.inside.body.items ≡ c.args.self.now = c.self.view_is in
    let len : c.self.inside.body.len ≡ length c.self.inside.body.items = grind (arith, common_steps) in
    AddsWords-returned c.args.self.now c.deref_mut.result.now c.set_words.new.body _ c.args.key.now c.words.result.now c.self.inside.body.len c.set_words.ensures
    (c.deref_mut.ensures.value ∙ body) c.words.ensures (len ∙ ap length body)

pub returns-clause-held : goal.returns-clause-held
returns-clause-held c =
    let body : c.self.inside.body.items ≡ c.args.self.now = c.self.view_is in
    has_words-added c.args.self.now _ c.args.key.now (omega (arith, ap length body, c.self.invariant.at_least)) (returns-clause-exact c)

pub returns-clause-kept : goal.returns-clause-kept
returns-clause-kept c = λ other held.
    let body : c.self.inside.body.items ≡ c.args.self.now = c.self.view_is in
    has_words-kept c.args.self.now _ c.args.key.now other (omega (arith, ap length body, c.self.invariant.at_least)) (returns-clause-exact c) held
