use Rattle.std.proofs.Common.{true, ◌≡◌, ◌≢◌, ◌+◌, ◌∙◌, List, [], ◌∷◌, ◌++◌, ℕ, map, sym, ap, subst, length, arith, IfSome}
use Rattle.mg_frame.specs.Frames.{numbered_frames}
use Rattle.mg_frame.proofs.SplitLaws.{length-counted}
use Rattle.mg_sealed.proofs.FilledLaws.{push-some}
use Rattle.mg_indexed.specs.TableKeys.{table_keys}
use Rattle.mg_indexed.specs.Writing.{file_bodies, index_length}
use Rattle.mg_indexed.specs.declared.handle.BlockHandle.{BlockHandle}
use Rattle.mg_indexed.proofs.WritingLaws.{index_length-push}
use Rattle.mg_block.specs.Block.{block_of}
use Rattle.mg_table.specs.Entries.{pair_of}
use Rattle.mg_table.specs.Writing.{HasBlocks, IsBegun, IsWriting}
use Rattle.mg_table.proofs.FinishLaws.{finished}
use Rattle.mg_table.proofs.WriterLaws.{opened}
use Rattle.mg_table.proofs.writer.TableWriter.finish.Goals as goal

pub close_block-requires : goal.close_block-requires
close_block-requires g c =
    let inside = c.self.inside in
    subst (λ (first : List ℕ). IsBegun inside.closed.index inside.block first) (sym c.deref.ensures.value) c.self.invariant.begun

pub finish-requires-clause-some : goal.finish-requires-clause-some
finish-requires-clause-some g c = λ none.
    let inside = c.self.inside in
    let begun : inside.block ≢ [] = λ empty. c.requires.some (sym (ap (λ w. w.block) c.self.view_is) ∙ empty) in
    push-some inside.closed.index _ (sym (c.in_ok-close_block.ensures.index begun) ∙ none)

pub finish-requires-clause-summary : goal.finish-requires-clause-summary
finish-requires-clause-summary g c =
    let inside = c.self.inside in
    let is = c.self.invariant in
    let begun : inside.block ≢ [] = λ empty. c.requires.some (sym (ap (λ w. w.block) c.self.view_is) ∙ empty) in
    record {
      some = is.some begun;
      count = omega (arith, is.count, is.most);
      sum = omega (arith, is.sizes, is.count, is.most);
      low = is.lo;
      high = is.hi;
    }

pub returns-clause-table : goal.returns-clause-table
returns-clause-table g c = λ entries stands.
    let drafted = g.F.Files.drafted in
    let told = g.F.Files.told in
    let inside = c.self.inside in
    let blocks = stands.0 in
    let last = stands.1 in
    let is = subst (λ w. IsWriting drafted w entries blocks last) (sym c.self.view_is) stands.2 in
    let begun : inside.block ≢ [] = λ none. c.requires.some (sym (ap (λ w. w.block) c.self.view_is) ∙ none) in
    let some : last ≢ [] = λ none. begun (is.block ∙ ap (map pair_of) none) in
    let closed = c.close_block.new.closed in
    let has : HasBlocks drafted closed (blocks ++ last ∷ []) = c.in_ok-close_block.ensures.blocks blocks last is.closed begun is.block (c.deref.ensures.value ∙ is.first some) in
    let held = opened inside.closed.index inside.block inside.first_key.items c.self.invariant.begun begun in
    let first = c.deref.result.now in
    let handle : BlockHandle (List ℕ) = record { first = first; at = inside.closed.frames.len; len = length (block_of inside.block) + 20 } in
    let indexed = c.in_ok-indexed.indexed in
    finished drafted told
    (record { id = inside.id; lo = inside.lo; hi = inside.hi; closed = inside.closed; block = inside.block; first = inside.first_key.items; filter = inside.filter; most = inside.most; count = inside.count; sizes = inside.sizes })
    closed (record { indexed = indexed; filter = c.in_ok-filter.filter }) entries blocks last is has
    (record {
      some = begun;
      few = omega (
        arith,
        held.room,
        ap (index_length table_keys) (c.in_ok-close_block.ensures.index begun),
        index_length-push table_keys inside.closed.index handle,
        length-counted 1 first,
        ap length c.deref.ensures.value,
      );
      lo = c.self.invariant.lo;
      hi = c.self.invariant.hi;
      filter_size = c.in_ok-filter.ensures.size;
      filter_words = c.in_ok-filter.ensures.words;
      index = c.in_ok-indexed.ensures.index;
      footer = c.in_ok-indexed.ensures.footer;
      sealed = λ bodies frames.
          subst (λ (filter : List ℕ). (indexed.file.len ≡ length (numbered_frames (file_bodies table_keys true bodies closed.index filter indexed.footer)))
          × IfSome (told indexed.file.file) (λ bytes. bytes ≡ numbered_frames (file_bodies table_keys true bodies closed.index filter indexed.footer)))
          c.bytes.ensures.body (c.in_ok-indexed.ensures.len bodies frames, c.in_ok-indexed.ensures.bytes bodies frames);
    })
