use Rattle.std.proofs.Common.{◌^◌, ap, ◌∙◌, min, max}
use Rattle.mg_bloom.proofs.BloomLaws.{IsBitCountFor-computed}
use Rattle.mg_bloom.proofs.filter.bits_for.Goals as goal

pub returns : goal.returns
returns c =
    IsBitCountFor-computed c.args.keys c.clamp.result _ (c.clamp.ensures ∙ ap (λ n. max 64 (min n (2 ^ 31))) c.saturating_mul.ensures)
    c.next_power_of_two.ensures.power c.next_power_of_two.ensures.lower_bound c.next_power_of_two.ensures.upper_bound
