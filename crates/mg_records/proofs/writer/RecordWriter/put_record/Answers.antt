use Rattle.std.proofs.Common.{◌≡◌, ◌+◌, ◌≤◌, ◌⊎◌, [], length, sym, subst, arith}
use Rattle.std.proofs.lemmas.Grind.{common_steps}
use Rattle.mg_records.specs.Record.{record_bytes}
use Rattle.mg_records.specs.Writing.{Filing, IsPut, MayFollow}
use Rattle.mg_records.proofs.WriterLaws.{bounded_put, same_block}
use Rattle.mg_records.proofs.writer.RecordWriter.put_record.Goals as goal
use Rattle.mg_records.proofs.writer.RecordWriter.put_record.Goals.{then-len-eq0, else-len-eq0, then-self-eq0, else-self-eq0}

pub invariant_of-self : goal.invariant_of-self
invariant_of-self g c =
    let inside = c.self.inside in
    let old : Filing g.row.D.Denot = record {
      id = inside.id;
      frames = inside.closed.frames;
      index = inside.closed.index;
      block = inside.block.items;
      block_first = inside.block_first;
      records = inside.records;
      sum = inside.sum;
      first = inside.first;
      last = inside.last;
    } in
    let same : inside.block.items ≡ c.truncate.new.self.items = grind (arith, common_steps, c.put_into.ensures.front) in
    same_block g.R.Record.kind old c.truncate.new.self.items c.self.invariant same

pub invariant_of-self-2 : goal.invariant_of-self-2
invariant_of-self-2 g c =
    let inside = c.self.inside in
    let kind = g.R.Record.kind in
    let it = c.args.it.now in
    let old : Filing g.row.D.Denot = record {
      id = inside.id;
      frames = inside.closed.frames;
      index = inside.closed.index;
      block = inside.block.items;
      block_first = inside.block_first;
      records = inside.records;
      sum = inside.sum;
      first = inside.first;
      last = inside.last;
    } in
    let now = c.if-self-eq0.self-inside in
    let new : Filing g.row.D.Denot = record {
      id = now.id;
      frames = now.closed.frames;
      index = now.closed.index;
      block = now.block.items;
      block_first = now.block_first;
      records = now.records + 1;
      sum = now.sum + c.from.result;
      first = now.first;
      last = c.seq-number.result;
    } in
    let put : IsPut kind old it new = elim c.if-len-eq0.branch [
      | then-len-eq0 w ↦ elim c.if-self-eq0.branch [
        | then-self-eq0 v ↦ record {
          frames = grind (arith, common_steps);
          index = grind (arith, common_steps);
          block = grind (arith, common_steps);
          block_begins = λ e. grind (arith, common_steps, e);
          block_goes_on = λ more. absurd (grind (arith, common_steps, more));
          begins = λ e. grind (arith, common_steps, e);
          goes_on = λ more. absurd (grind (arith, common_steps, more));
          records = grind (arith, common_steps);
          sum = grind (arith, common_steps);
          last = grind (arith, common_steps);
        }
        | else-self-eq0 v ↦ record {
          frames = grind (arith, common_steps);
          index = grind (arith, common_steps);
          block = grind (arith, common_steps);
          block_begins = λ e. grind (arith, common_steps, e);
          block_goes_on = λ more. absurd (grind (arith, common_steps, more));
          begins = λ e. absurd (grind (arith, common_steps, e));
          goes_on = λ more. grind (arith, common_steps);
          records = grind (arith, common_steps);
          sum = grind (arith, common_steps);
          last = grind (arith, common_steps);
        }
      ]
      | else-len-eq0 w ↦ elim c.if-self-eq0.branch [
        | then-self-eq0 v ↦ record {
          frames = grind (arith, common_steps);
          index = grind (arith, common_steps);
          block = grind (arith, common_steps);
          block_begins = λ e. absurd (grind (arith, common_steps, e));
          block_goes_on = λ more. grind (arith, common_steps);
          begins = λ e. grind (arith, common_steps, e);
          goes_on = λ more. absurd (grind (arith, common_steps, more));
          records = grind (arith, common_steps);
          sum = grind (arith, common_steps);
          last = grind (arith, common_steps);
        }
        | else-self-eq0 v ↦ record {
          frames = grind (arith, common_steps);
          index = grind (arith, common_steps);
          block = grind (arith, common_steps);
          block_begins = λ e. absurd (grind (arith, common_steps, e));
          block_goes_on = λ more. grind (arith, common_steps);
          begins = λ e. absurd (grind (arith, common_steps, e));
          goes_on = λ more. grind (arith, common_steps);
          records = grind (arith, common_steps);
          sum = grind (arith, common_steps);
          last = grind (arith, common_steps);
        }
      ]
    ] in
    let follow : MayFollow old (kind.seq it) = subst (λ (w : Filing g.row.D.Denot). MayFollow w (kind.seq it)) (sym c.self.view_is) c.requires.rises in
    let room : (old.block ≡ []) ⊎ (length old.block + length (record_bytes kind it) ≤ 4096) =
    subst (λ (w : Filing g.row.D.Denot). (w.block ≡ []) ⊎ (length w.block + length (record_bytes kind it) ≤ 4096)) (sym c.self.view_is) c.requires.room in
    bounded_put kind g.met.R.Record.lawful old new it c.self.invariant c.requires.fits follow room put
