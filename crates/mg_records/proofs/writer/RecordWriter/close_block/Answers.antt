use Rattle.std.proofs.Common.{◌≡◌, ◌≢◌, ◌+◌, ◌*◌, ◌<◌, ◌^◌, ◌∙◌, [], ◌∷◌, ◌++◌, length, List, ℕ, refl, sym, ap, subst, arith}
use Rattle.mg_records.specs.Writing.{Filing}
use Rattle.mg_frame.proofs.BigEndianLaws.{length-big_endian}
use Rattle.mg_indexed.specs.Forms.{IsFrameLength}
use Rattle.mg_records.proofs.FileLaws.{length-index_bytes}
use Rattle.mg_records.proofs.WriterLaws.{bounded_closed, open_frame}
use Rattle.mg_records.proofs.writer.RecordWriter.close_block.Goals as goal

pub invariant_of-self-2 : goal.invariant_of-self-2
invariant_of-self-2 g c =
    let inside = c.self.inside in
    let old : Filing g.row.D.Denot = record {
      id = inside.id;
      frames = inside.closed.frames;
      index = inside.closed.index;
      block = inside.block.items;
      block_first = inside.block_first;
      records = inside.records;
      sum = inside.sum;
      first = inside.first;
      last = inside.last;
    } in
    let body : c.deref.result.now ≡ inside.block.items = c.deref.ensures.value in
    let some : inside.block.items ≢ [] = subst (λ (w : Filing g.row.D.Denot). w.block ≢ []) (sym c.self.view_is) c.requires.some in
    let room : 20 * (length inside.closed.index + 2) < 2 ^ 32 = subst (λ (w : Filing g.row.D.Denot). 20 * (length w.index + 2) < 2 ^ 32) (sym c.self.view_is) c.requires.room in
    bounded_closed g.R.Record.kind old _ c.self.invariant some room
    (c.in_ok-close.ensures.index ∙ ap (λ (b : List ℕ). inside.closed.index ++ record { first = inside.block_first; at = inside.closed.frames.len; len = length b + 20 } ∷ []) body)
    c.clear.ensures.items refl refl refl refl

pub close-requires-clause-room : goal.close-requires-clause-room
close-requires-clause-room g c =
    let inside = c.self.inside in
    let room : 20 * (length inside.closed.index + 2) < 2 ^ 32 = subst (λ (w : Filing g.row.D.Denot). 20 * (length w.index + 2) < 2 ^ 32) (sym c.self.view_is) c.requires.room in
    omega (arith, room, length-index_bytes inside.closed.index, length-big_endian 8 inside.block_first)

pub close-requires-clause-body : goal.close-requires-clause-body
close-requires-clause-body g c =
    let form = g.R.BlockItem.form in
    let inside = c.self.inside in
    let some : inside.block.items ≢ [] = subst (λ (w : Filing g.row.D.Denot). w.block ≢ []) (sym c.self.view_is) c.requires.some in
    subst (λ (b : List ℕ). IsFrameLength form (length b + 20)) (sym c.deref.ensures.value) (open_frame g.R.Record.kind form g.met.R.Record.framed inside.block.items c.self.invariant.writing some)

pub close-requires-clause-follows : goal.close-requires-clause-follows
close-requires-clause-follows g c =
    let some : c.self.inside.block.items ≢ [] = subst (λ (w : Filing g.row.D.Denot). w.block ≢ []) (sym c.self.view_is) c.requires.some in
    let begins = c.self.invariant.begins some in
    (omega (arith, begins.1, c.self.invariant.last), begins.0)
