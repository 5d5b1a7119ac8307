use Rattle.std.proofs.Common.{◌≡◌, ◌≢◌, ◌≤◌, ◌<◌, ◌+◌, ◌⊎◌, [], length, sym, ◌∙◌, subst, ap, ℕ, ◌*◌, inl, inr, arith}
use Rattle.std.proofs.lemmas.Grind.{common_steps}
use Rattle.mg_records.specs.Record.{record_bytes}
use Rattle.mg_records.specs.Writing.{Filing, IsClosing, IsPut, MayFollow}
use Rattle.mg_types.specs.declared.faults.Fault.TheVariants.{Worn}
use Rattle.mg_records.proofs.FileLaws.{length-index_bytes}
use Rattle.mg_records.proofs.RecordLaws.{length-record_bytes}
use Rattle.mg_records.proofs.WriterLaws.{ready_here, ready_new, has_more}
use Rattle.mg_records.proofs.writer.RecordWriter.push.Goals as goal
use Rattle.mg_records.proofs.writer.RecordWriter.push.Goals.{then-not-is_empty+then-len-gt-BLOCK_LIMIT+else-kept-more-gt-MOST_INDEX_LEN+in_ok-close_block, else-not-is_empty, else-not-is_empty-via-then-not-is_empty+else-len-gt-BLOCK_LIMIT, else-not-is_empty-via-else-not-is_empty}

pub put_record-requires-clause-room : goal.put_record-requires-clause-room
put_record-requires-clause-room g c =
    let bytes = length-record_bytes g.R.Record.kind c.args.it.now in
    elim c.if-not-is_empty.branch [
      | then-not-is_empty+then-len-gt-BLOCK_LIMIT+else-kept-more-gt-MOST_INDEX_LEN+in_ok-close_block w ↦ inl (subst (λ (v : Filing g.row.D.Denot). v.block ≡ []) (sym w.self-is) w.in_ok-close_block.ensures.closed.block)
      | else-not-is_empty w ↦ elim w.else-not-is_empty.branch [
        | else-not-is_empty-via-then-not-is_empty+else-len-gt-BLOCK_LIMIT w' ↦ inr (grind (arith, common_steps, bytes))
        | else-not-is_empty-via-else-not-is_empty w' ↦ inl (grind (arith, common_steps))
      ]
    ]

pub returns-clause-records : goal.returns-clause-records
returns-clause-records g c =
    let kind = g.R.Record.kind in
    let drafted = g.F.Files.drafted in
    let lawful = g.met.R.Record.lawful in
    let it = c.args.it.now in
    let new = c.put_record.new.self in
    let here = c.args.self.now in
    let bytes = length-record_bytes kind it in
    elim c.if-not-is_empty.branch [
      | then-not-is_empty+then-len-gt-BLOCK_LIMIT+else-kept-more-gt-MOST_INDEX_LEN+in_ok-close_block w ↦
          (let mid = w.close_block.new.self in
          let closing : IsClosing drafted here mid = w.in_ok-close_block.ensures.closed in
          let some : 1 ≤ length here.block = grind (arith, common_steps) in
          let full : 4096 < length here.block + length (record_bytes kind it) = grind (arith, common_steps, bytes) in
          let follow : MayFollow mid (kind.seq it) = elim c.requires.rises [ inl none ↦ inl (closing.records ∙ none) | inr above ↦ inr (omega (arith, closing.last, above)) ] in
          let put : IsPut kind mid it new = subst (λ v. IsPut kind v it new) w.self-is c.in_ok-put_record.ensures.put in
          λ records has.
          has_more kind lawful drafted mid new it records c.requires.fits follow (ready_new kind drafted here mid it records has some full closing) put)
      | else-not-is_empty w ↦
          (let room : (here.block ≡ []) ⊎ (length here.block + length (record_bytes kind it) ≤ 4096) =
          elim w.else-not-is_empty.branch [
            | else-not-is_empty-via-then-not-is_empty+else-len-gt-BLOCK_LIMIT w' ↦ inr (grind (arith, common_steps, bytes))
            | else-not-is_empty-via-else-not-is_empty w' ↦ inl (grind (arith, common_steps))
          ] in
          let put : IsPut kind here it new = subst (λ v. IsPut kind v it new) w.self-is c.in_ok-put_record.ensures.put in
          λ records has.
          has_more kind lawful drafted here new it records c.requires.fits c.requires.rises (ready_here kind lawful drafted here it records has room) put)
    ]

pub overflow_add-kept : goal.overflow_add-kept
overflow_add-kept g c = record { fits = omega (arith, c.index_len.ensures, length-index_bytes c.self.inside.closed.index, c.handle_len-more.ensures, c.self.invariant.blocks) }

pub overflow_add-kept-then-len-gt-BLOCK_LIMIT : goal.overflow_add-kept-then-len-gt-BLOCK_LIMIT
overflow_add-kept-then-len-gt-BLOCK_LIMIT g c =
    record { fits = omega (arith, c.index_len.ensures, length-index_bytes c.self.inside.closed.index, c.handle_len-more.ensures, c.self.invariant.blocks) }

pub returns-then-kept-more-gt-MOST_INDEX_LEN-clause-worn : goal.returns-then-kept-more-gt-MOST_INDEX_LEN-clause-worn
returns-then-kept-more-gt-MOST_INDEX_LEN-clause-worn g c = λ kept is.
    let here = c.args.self.now in
    let bytes = length-record_bytes g.R.Record.kind c.args.it.now in
    let some : here.block ≢ [] = λ none. absurd (grind (arith, common_steps, none)) in
    let long : 4096 < length here.block + length (record_bytes g.R.Record.kind c.args.it.now) = grind (arith, common_steps, bytes) in
    let count : c.index_len.result + c.handle_len-more.result ≡ 20 * (length here.index + 1) =
    omega (arith, c.index_len.ensures, length-index_bytes c.self.inside.closed.index, c.handle_len-more.ensures, ap (λ (w : Filing g.row.D.Denot). length w.index) c.self.view_is) in
    ((some, long, omega (arith, count, c.if-kept-more-gt-MOST_INDEX_LEN.true, c.handle_len-more.ensures)), grind (arith, count), grind (arith, common_steps))

pub returns-then-kept-more-gt-MOST_INDEX_LEN-clause-refusals : goal.returns-then-kept-more-gt-MOST_INDEX_LEN-clause-refusals
returns-then-kept-more-gt-MOST_INDEX_LEN-clause-refusals g c =
    inr (ap (λ (n : ℕ). Worn n)
    (omega (arith, c.index_len.ensures, length-index_bytes c.self.inside.closed.index, c.handle_len-more.ensures, ap (λ (w : Filing g.row.D.Denot). length w.index) c.self.view_is)))

pub close_block-requires-clause-room : goal.close_block-requires-clause-room
close_block-requires-clause-room g c =
    omega (arith, c.index_len.ensures, length-index_bytes c.self.inside.closed.index, c.handle_len-more.ensures, c.if-kept-more-gt-MOST_INDEX_LEN.false, ap (λ (w : Filing g.row.D.Denot). length w.index) c.self.view_is)
