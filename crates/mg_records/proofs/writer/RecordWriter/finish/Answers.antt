use Rattle.std.proofs.Common.{◌≡◌, ◌≢◌, ◌<◌, ◌+◌, [], ◌∷◌, ◌++◌, length, List, ℕ, sym, ap, ◌∙◌, subst, arith}
use Rattle.std.proofs.lemmas.Grind.{common_steps}
use Rattle.std.proofs.lemmas.List.{length-append}
use Rattle.mg_frame.proofs.BigEndianLaws.{length-big_endian}
use Rattle.mg_sealed.specs.Writing.{HasFrames}
use Rattle.mg_indexed.specs.Forms.{IsFrameLength}
use Rattle.mg_indexed.specs.Writing.{Closed}
use Rattle.mg_indexed.specs.declared.footer.Footer.{Footer}
use Rattle.mg_records.specs.Writing.{Filing, HasRecords}
use Rattle.mg_records.proofs.FileLaws.{length-index_bytes}
use Rattle.mg_records.proofs.WriterLaws.{agrees_closed, agrees_open, finished, is_summary, item_of, open_frame, some_in_writing}
use Rattle.mg_records.proofs.writer.RecordWriter.finish.Goals as goal
use Rattle.mg_records.proofs.writer.RecordWriter.finish.Goals.{then-not-is_empty+in_ok-close, else-not-is_empty}

pub close-requires-clause-room : goal.close-requires-clause-room
close-requires-clause-room g c =
    let inside = c.self.inside in
    omega (arith, c.self.invariant.blocks, length-index_bytes inside.closed.index, length-big_endian 8 inside.block_first)

pub close-requires-clause-body : goal.close-requires-clause-body
close-requires-clause-body g c =
    let form = g.R.BlockItem.form in
    let inside = c.self.inside in
    let some : inside.block.items ≢ [] = λ e. grind (arith, common_steps, e) in
    subst (λ (b : List ℕ). IsFrameLength form (length b + 20)) (sym c.deref.ensures.value) (open_frame g.R.Record.kind form g.met.R.Record.framed inside.block.items c.self.invariant.writing some)

pub close-requires-clause-follows : goal.close-requires-clause-follows
close-requires-clause-follows g c =
    let some : c.self.inside.block.items ≢ [] = λ e. grind (arith, common_steps, e) in
    let begins = c.self.invariant.begins some in
    (omega (arith, begins.1, c.self.invariant.last), begins.0)

pub finish-requires-clause-some : goal.finish-requires-clause-some
finish-requires-clause-some g c = λ none.
    let inside = c.self.inside in
    let w : Filing g.row.D.Denot = record {
      id = inside.id;
      frames = inside.closed.frames;
      index = inside.closed.index;
      block = inside.block.items;
      block_first = inside.block_first;
      records = inside.records;
      sum = inside.sum;
      first = inside.first;
      last = inside.last;
    } in
    let some : 0 < inside.records = omega (arith, c.requires, ap (λ (v : Filing g.row.D.Denot). v.records) c.self.view_is) in
    elim c.if-not-is_empty.branch [
      | then-not-is_empty+in_ok-close b ↦
          (let is : c.if-not-is_empty.closed.index ≡ inside.closed.index ++ item_of w ∷ [] = grind (arith, common_steps) in
          omega (arith, ap length none, ap length is, length-append inside.closed.index (item_of w ∷ [])))
      | else-not-is_empty b ↦
          (let empty : inside.block.items ≡ [] = grind (arith, common_steps) in
          let is : c.if-not-is_empty.closed.index ≡ inside.closed.index = grind (arith, common_steps) in
          omega (arith, some, c.self.invariant.counted, ap length none, ap length is, ap length empty))
    ]

pub finish-requires-clause-summary : goal.finish-requires-clause-summary
finish-requires-clause-summary g c =
    let inside = c.self.inside in
    let w : Filing g.row.D.Denot = record {
      id = inside.id;
      frames = inside.closed.frames;
      index = inside.closed.index;
      block = inside.block.items;
      block_first = inside.block_first;
      records = inside.records;
      sum = inside.sum;
      first = inside.first;
      last = inside.last;
    } in
    let some : 0 < inside.records = omega (arith, c.requires, ap (λ (v : Filing g.row.D.Denot). v.records) c.self.view_is) in
    is_summary g.R.Record.kind w c.self.invariant some

pub invariant_of-result : goal.invariant_of-result
invariant_of-result g c =
    let kind = g.R.Record.kind in
    let inside = c.self.inside in
    let w : Filing g.row.D.Denot = record {
      id = inside.id;
      frames = inside.closed.frames;
      index = inside.closed.index;
      block = inside.block.items;
      block_first = inside.block_first;
      records = inside.records;
      sum = inside.sum;
      first = inside.first;
      last = inside.last;
    } in
    let filed = c.in_ok-indexed.indexed in
    let some : 0 < inside.records = omega (arith, c.requires, ap (λ (v : Filing g.row.D.Denot). v.records) c.self.view_is) in
    let low : filed.footer.low ≡ w.first = ap (λ (f : Footer). f.low) c.in_ok-indexed.ensures.footer in
    let high : filed.footer.high ≡ w.last = ap (λ (f : Footer). f.high) c.in_ok-indexed.ensures.footer in
    record {
      whole = c.in_ok-indexed.ensures.kept;
      agrees = elim c.if-not-is_empty.branch [
        | then-not-is_empty+in_ok-close b ↦
            (let more : inside.block.items ≢ [] = λ e. grind (arith, common_steps, e) in
            let is : c.if-not-is_empty.closed.index ≡ inside.closed.index ++ item_of w ∷ [] = grind (arith, common_steps) in
            agrees_closed kind w filed.footer filed.index c.self.invariant more (c.in_ok-indexed.ensures.index ∙ is) low high)
        | else-not-is_empty b ↦
            (let none : inside.block.items ≡ [] = grind (arith, common_steps) in
            let is : c.if-not-is_empty.closed.index ≡ inside.closed.index = grind (arith, common_steps) in
            agrees_open kind w filed.footer filed.index c.self.invariant some none (c.in_ok-indexed.ensures.index ∙ is) low high)
      ];
    }

pub returns-clause-represents : goal.returns-clause-represents
returns-clause-represents g c = λ records has.
    let kind = g.R.Record.kind in
    let form = g.R.BlockItem.form in
    let drafted = g.F.Files.drafted in
    let told = g.F.Files.told in
    let inside = c.self.inside in
    let w : Filing g.row.D.Denot = record {
      id = inside.id;
      frames = inside.closed.frames;
      index = inside.closed.index;
      block = inside.block.items;
      block_first = inside.block_first;
      records = inside.records;
      sum = inside.sum;
      first = inside.first;
      last = inside.last;
    } in
    let filed = c.in_ok-indexed.indexed in
    let closed = c.if-not-is_empty.closed in
    let some : 0 < inside.records = omega (arith, c.requires, ap (λ (v : Filing g.row.D.Denot). v.records) c.self.view_is) in
    let has' = subst (λ v. HasRecords kind drafted v records) (sym c.self.view_is) has in
    elim c.if-not-is_empty.branch [
      | then-not-is_empty+in_ok-close b ↦
          (let is : closed.index ≡ inside.closed.index ++ item_of w ∷ [] = grind (arith, common_steps) in
          let long : closed.frames.len ≡ inside.closed.frames.len + length inside.block.items + 20 = grind (arith, common_steps) in
          finished kind form g.met.R.Record.framed.unfiltered drafted told w closed filed records has' some c.self.invariant.blocks is long
          (λ bodies framed.
          let put = subst (λ (v : Closed g.row.D.Denot ℕ). HasFrames drafted v.frames (bodies ++ b.deref.result.now ∷ [])) (sym b.closed-is) (b.in_ok-close.ensures.frames bodies framed) in
          subst (λ (block : List ℕ). HasFrames drafted closed.frames (bodies ++ block ∷ [])) b.deref.ensures.value put)
          c.in_ok-indexed.ensures.index c.in_ok-indexed.ensures.footer
          (λ bodies framed. record { bytes = c.in_ok-indexed.ensures.bytes bodies framed; len = c.in_ok-indexed.ensures.len bodies framed }))
      | else-not-is_empty b ↦
          (let none : inside.block.items ≡ [] = grind (arith, common_steps) in
          absurd (some_in_writing kind g.met.R.Record.lawful drafted w records has' some none))
    ]
