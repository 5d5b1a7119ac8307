use Rattle.std.proofs.Common.{◌≡◌, ◌+◌, ◌*◌, ◌/◌, ℕ, List, length, take, drop, get_or, sym, ap, ◌∙◌, arith}
use Rattle.std.proofs.lemmas.List.{take_at}
use Rattle.std.specs.Int.Bits.{bit_or}
use Rattle.mg_bloom.specs.Folding.{KeepsWords}
use Rattle.mg_bloom.proofs.FoldLaws.{two_halves, KeepsWords-joined}
use Rattle.mg_bloom.proofs.fold.halve.Goals as goal

pub join_halves-requires : goal.join_halves-requires
join_halves-requires c =
    let whole : length c.deref_mut.result.now ≡ length c.args.body.now.items = ap length c.deref_mut.ensures.value in
    let len : c.len-half.result ≡ length c.deref_mut.result.now = c.len-half.ensures ∙ sym c.deref_mut.ensures.len in
    omega (arith, whole, len, two_halves _ c.requires.length c.requires.more)

-- the half, and that it has the bits of both
halves : (c : goal.After-truncate) → (length c.truncate.new.self.items ≡ c.len-half.result / 2) × KeepsWords c.args.body.now.items c.truncate.new.self.items
halves c =
    let old = c.args.body.now.items in
    let all = c.join_halves.new.body in
    let half = c.len-half.result / 2 in
    let same : length all ≡ length c.deref_mut.result.now = c.join_halves.ensures.length in
    let whole : length c.deref_mut.result.now ≡ length old = ap length c.deref_mut.ensures.value in
    let len : c.len-half.result ≡ length c.deref_mut.result.now = c.len-half.ensures ∙ sym c.deref_mut.ensures.len in
    let twice : length old ≡ 2 * half = omega (arith, whole, len, two_halves _ c.requires.length c.requires.more) in
    let body = take_at all (drop (length all) old) c.args.body.now.len (same ∙ c.deref_mut.ensures.len) in
    KeepsWords-joined old all c.truncate.new.self.items half twice (same ∙ whole)
    (λ i within. c.join_halves.ensures.bytes i within ∙ ap (λ (b : List ℕ). bit_or (get_or b i 0) (get_or b (half + i) 0)) c.deref_mut.ensures.value)
    (c.truncate.ensures.items ∙ ap (take half) body)

pub returns-clause-half : goal.returns-clause-half
returns-clause-half c =
    let whole : length c.deref_mut.result.now ≡ length c.args.body.now.items = ap length c.deref_mut.ensures.value in
    let len : c.len-half.result ≡ length c.deref_mut.result.now = c.len-half.ensures ∙ sym c.deref_mut.ensures.len in
    omega (arith, whole, len, two_halves _ c.requires.length c.requires.more, (halves c).0)

pub returns-clause-words : goal.returns-clause-words
returns-clause-words c = (halves c).1
