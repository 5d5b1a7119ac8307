use Rattle.std.proofs.Common.{◌≡◌, ℕ, [], refl, sym, ap, subst, ◌∙◌, arith}
use Rattle.std.proofs.lemmas.List.{append-nil}
use Rattle.mg_frame.specs.BigEndian.{big_endian}
use Rattle.mg_types.specs.Limits.{IsSize}
use Rattle.mg_records.proofs.dead.DeadRecord.take.Goals as goal

pub unwrap-size-requires : goal.unwrap-size-requires
unwrap-size-requires c =
    let given = c.requires in
    (c.split_u32.ensures.written given.0.size [] (omega (arith, given.1.1)) (given.2 ∙ sym (append-nil (big_endian 4 given.0.size)))).0

pub returns : goal.returns
returns c =
    let given = c.requires in
    let written = rw c.unwrap-size.ensures at (c.split_u32.ensures.written given.0.size [] (omega (arith, given.1.1)) (given.2 ∙ sym (append-nil (big_endian 4 given.0.size)))).1 in
    let same : given.0.size ≡ c.unwrap-size.result.0 = sym written.0 in
    (refl, subst (λ (n : ℕ). IsSize n) same given.1, given.2 ∙ ap (λ (n : ℕ). big_endian 4 n) same)
