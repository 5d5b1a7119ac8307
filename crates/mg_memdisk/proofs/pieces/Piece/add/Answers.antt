use Rattle.std.proofs.Common.{refl, ap, ◌∙◌, ◌-◌, min, length, take, drop, ℕ}
use Rattle.mg_memdisk.proofs.PieceLaws.{on_added}
use Rattle.mg_memdisk.proofs.pieces.Piece.add.Goals as goal

pub returns : goal.returns
returns c =
    let bytes = c.args.bytes.now in
    let passed = c.min-passed.result in
    let rest = take (length bytes - passed) (drop passed bytes) in
    let room = c.saturating_sub-room.ensures ∙ ap (λ (n : ℕ). c.args.wanted.most - n) (c.len.ensures ∙ c.args.self.now.items.ok.0) in
    on_added c.extend_from_slice.result c.args.wanted bytes c.args.self.now _ passed c.min.result c.min-passed.ensures (c.min.ensures ∙ ap (λ (n : ℕ). min n (length rest)) room) c.extend_from_slice.ensures.items refl
