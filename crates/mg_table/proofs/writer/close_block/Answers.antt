use Rattle.std.proofs.Common.{◌≡◌, ◌+◌, ◌∙◌, [], ◌∷◌, ◌++◌, List, ℕ, OnOk, ap, map, sym, subst, length, refl, arith}
use Rattle.mg_block.specs.Block.{block_of}
use Rattle.mg_frame.proofs.SplitLaws.{length-counted}
use Rattle.mg_sealed.specs.Writing.{HasFrames}
use Rattle.mg_indexed.specs.Forms.{table_form, IsFrameLength}
use Rattle.mg_indexed.specs.Index.{first_after}
use Rattle.mg_indexed.specs.TableKeys.{MayFollow}
use Rattle.mg_indexed.specs.declared.handle.BlockHandle.{BlockHandle}
use Rattle.mg_table.specs.Entries.{block_body}
use Rattle.mg_table.specs.Writing.{HasBlocks}
use Rattle.mg_table.proofs.FinishLaws.{both_ok, closes}
use Rattle.mg_table.proofs.WriterLaws.{opened}
use Rattle.mg_table.proofs.writer.close_block.Goals as goal

pub close-requires-clause-follows : goal.close-requires-clause-follows
close-requires-clause-follows g c =
    let index = c.args.closed.now.index in
    let held = opened index c.args.block.now c.args.first.now c.requires (λ none. cc (c.is_empty.ensures.1 none, c.if-is_empty.false)) in
    subst (λ (k : List ℕ). MayFollow (first_after [] index) k) (sym c.in_ok-key.ensures.key) held.follows

pub close-requires-clause-body : goal.close-requires-clause-body
close-requires-clause-body g c =
    let held = opened c.args.closed.now.index c.args.block.now c.args.first.now c.requires (λ none. cc (c.is_empty.ensures.1 none, c.if-is_empty.false)) in
    subst (λ (b : List ℕ). IsFrameLength table_form (length b + 20)) (sym c.bytes.ensures.block) (omega (arith, held.least), omega (arith, held.most), omega (arith, held.most))

pub close-requires-clause-room : goal.close-requires-clause-room
close-requires-clause-room g c =
    let held = opened c.args.closed.now.index c.args.block.now c.args.first.now c.requires (λ none. cc (c.is_empty.ensures.1 none, c.if-is_empty.false)) in
    omega (arith, held.room, length-counted 1 c.in_ok-key.key, ap length c.in_ok-key.ensures.key)

pub returns-clause-index : goal.returns-clause-index
returns-clause-index g c = λ some.
    let old = c.args.closed.now in
    let new = c.close.new.self in
    let Handle : List ℕ → List ℕ → Type 0 = λ first bytes.
    OnOk c.close.result (new.index ≡ old.index ++ record { first = first; at = old.frames.len; len = length bytes + 20 } ∷ []) in
    subst (λ (first : List ℕ). Handle first (block_of c.args.block.now)) c.in_ok-key.ensures.key (subst (λ (bytes : List ℕ). Handle c.in_ok-key.key bytes) c.bytes.ensures.block c.close.ensures.index)

pub returns-clause-blocks : goal.returns-clause-blocks
returns-clause-blocks g c = λ blocks last has some is first.
    let drafted = g.F.Files.drafted in
    let old = c.args.closed.now in
    let new = c.close.new.self in
    let handle : BlockHandle (List ℕ) = record { first = c.in_ok-key.key; at = old.frames.len; len = length c.bytes.result.now + 20 } in
    both_ok c.close.result (HasFrames drafted new.frames (map block_body blocks ++ c.bytes.result.now ∷ [])) (new.index ≡ old.index ++ handle ∷ []) (HasBlocks drafted new (blocks ++ last ∷ []))
    (λ frames pushed. closes drafted old new blocks last c.bytes.result.now handle has frames pushed (c.in_ok-key.ensures.key ∙ first) refl refl (c.bytes.ensures.block ∙ ap block_of is))
    (c.close.ensures.frames (map block_body blocks) has.frames) c.close.ensures.index
