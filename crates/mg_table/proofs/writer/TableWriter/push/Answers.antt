use Rattle.std.proofs.Common.{◌≡◌, ◌+◌, ◌∙◌, List, ◌++◌, ℕ, refl, sym, ap, subst, length, arith}
use Rattle.mg_block.specs.Block.{Precedes}
use Rattle.mg_block.specs.View.{last_pair}
use Rattle.mg_block.specs.declared.pair.Pair.{Pair}
use Rattle.mg_bloom.specs.Bloom.{key_words, AddsWords}
use Rattle.mg_table.specs.Entries.{payload_of}
use Rattle.mg_table.specs.Writing.{IsWriting, Writing}
use Rattle.mg_table.proofs.EntryLaws.{length-payload_of}
use Rattle.mg_table.proofs.WriterLaws.{begun-as, opened, pushed}
use Rattle.mg_table.proofs.writer.TableWriter.push.Goals as goal

pub check_room-requires-clause-room : goal.check_room-requires-clause-room
check_room-requires-clause-room g c = λ some.
    let inside = c.self.inside in
    omega (arith, (opened inside.closed.index inside.block inside.first_key.items c.self.invariant.begun some).room, ap length c.deref.ensures.value)

pub check_room-requires-clause-follows : goal.check_room-requires-clause-follows
check_room-requires-clause-follows g c =
    let entry = c.args.entry.now in
    let payload : c.deref-2.result.now ≡ payload_of entry = c.deref-2.ensures.value ∙ c.in_ok-put_payload.ensures ∙ ap (λ (xs : List ℕ). xs ++ payload_of entry) c.clear.ensures.items in
    let block : c.args.self.now.block ≡ c.self.inside.block = sym (ap (λ w. w.block) c.self.view_is) in
    let rises : Precedes (last_pair c.self.inside.block).key entry.key = subst (λ (ps : List Pair). Precedes (last_pair ps).key entry.key) block c.requires.rises in
    record {
      rises = subst (λ (k : List ℕ). Precedes (last_pair c.self.inside.block).key k) (sym c.bytes-key.ensures.bytes) rises;
      key = omega (arith, c.bytes-key.ensures.form.1, ap length c.bytes-key.ensures.bytes);
      payload = omega (arith, ap length payload, length-payload_of entry);
    }

pub put_pair-requires-clause-follows : goal.put_pair-requires-clause-follows
put_pair-requires-clause-follows g c =
    let entry = c.args.entry.now in
    let payload : c.deref-3.result.now ≡ payload_of entry = c.deref-3.ensures.value ∙ c.in_ok-put_payload.ensures ∙ ap (λ (xs : List ℕ). xs ++ payload_of entry) c.clear.ensures.items in
    let block : c.args.self.now.block ≡ c.self.inside.block = sym (ap (λ w. w.block) c.self.view_is) in
    let rises : Precedes (last_pair c.self.inside.block).key entry.key = subst (λ (ps : List Pair). Precedes (last_pair ps).key entry.key) block c.requires.rises in
    record {
      rises = subst (λ (k : List ℕ). Precedes (last_pair c.self.inside.block).key k) (sym c.bytes-key.ensures.bytes) rises;
      key = omega (arith, c.bytes-key.ensures.form.1, ap length c.bytes-key.ensures.bytes);
      payload = omega (arith, ap length payload, length-payload_of entry);
    }

pub put_pair-requires-clause-payload : goal.put_pair-requires-clause-payload
put_pair-requires-clause-payload g c =
    let entry = c.args.entry.now in
    let payload : c.deref-3.result.now ≡ payload_of entry = c.deref-3.ensures.value ∙ c.in_ok-put_payload.ensures ∙ ap (λ (xs : List ℕ). xs ++ payload_of entry) c.clear.ensures.items in
    ap length payload ∙ length-payload_of entry

pub invariant_of-self-in_err-put_pair : goal.invariant_of-self-in_err-put_pair
invariant_of-self-in_err-put_pair g c =
    let inside = c.self.inside in
    let is = c.self.invariant in
    let kept = c.in_err-put_pair.ensures.kept in
    record {
      lo = is.lo;
      hi = is.hi;
      first = omega (arith, is.first, ap length kept.2);
      begun = begun-as inside.closed.index c.put_pair.new.closed.index inside.block c.put_pair.new.block inside.first_key.items c.put_pair.new.first.items kept.0 kept.1 kept.2 is.begun;
      most = is.most;
      count = is.count;
      some = λ some. is.some (λ none. some (kept.1 ∙ none));
      filter = is.filter;
      sizes = is.sizes;
    }

pub returns-clause-entries : goal.returns-clause-entries
returns-clause-entries g c = λ entries stands.
    let drafted = g.F.Files.drafted in
    let entry = c.args.entry.now in
    let inside = c.self.inside in
    let blocks = stands.0 in
    let last = stands.1 in
    let is = subst (λ w. IsWriting drafted w entries blocks last) (sym c.self.view_is) stands.2 in
    let payload : c.deref-3.result.now ≡ payload_of entry = c.deref-3.ensures.value ∙ c.in_ok-put_payload.ensures ∙ ap (λ (xs : List ℕ). xs ++ payload_of entry) c.clear.ensures.items in
    let key : c.bytes-key.result.now ≡ entry.key = c.bytes-key.ensures.bytes in
    let put = c.in_ok-put_pair.ensures.put blocks last entry is.closed is.block is.first is.filled key payload in
    let rises : Precedes (last_pair inside.block).key entry.key = subst (λ (ps : List Pair). Precedes (last_pair ps).key entry.key) (sym (ap (λ w. w.block) c.self.view_is)) c.requires.rises in
    let old : Writing g.row.D.Denot = record { id = inside.id; lo = inside.lo; hi = inside.hi; closed = inside.closed; block = inside.block; first = inside.first_key.items; filter = inside.filter; most = inside.most; count = inside.count; sizes = inside.sizes } in
    pushed drafted old
    (record old { closed = c.put_pair.new.closed; block = c.put_pair.new.block; first = c.put_pair.new.first.items; filter = c.put.new.self; count = inside.count + 1; sizes = inside.sizes + c.from.result })
    entry entries blocks last is put
    (record {
      filter = subst (λ (k : List ℕ). AddsWords inside.filter c.put.new.self (key_words k)) key c.put.ensures.exact;
      count = refl;
      sizes = ap (λ n. inside.sizes + n) c.from.ensures;
    })
    c.requires.entry (omega (arith, c.bytes-key.ensures.form.1)) (omega (arith, length-payload_of entry)) rises

pub returns-clause-last : goal.returns-clause-last
returns-clause-last g c =
    let last = c.in_ok-put_pair.ensures.last in
    (last.0, last.1 ∙ c.bytes-key.ensures.bytes)
