use Rattle.std.proofs.Common.{◌≡◌, ◌+◌, List, length, None, refl, sym, ap, subst, ◌∙◌, arith}
use Rattle.mg_wal_format.specs.Logs.{Log}
use Rattle.mg_wal_format.proofs.ReadingLaws.{none_is_not_found}
use Rattle.mg_wal_format.specs.Recovery.{first_of}
use Rattle.mg_wal.specs.Book.{AreKept, Book}
use Rattle.mg_wal.specs.Findings.{AreKnown}
use Rattle.mg_wal.proofs.FreshLaws.{end_found, first_found, is_end, last_at, made_books, no_later, newest_below, reached_kept, IsEnd, IsMade}
use Rattle.mg_wal.proofs.reading.fresh_state.Goals as goal

-- the book that is made
abbrev book_at : goal.After-result-1 → Book
book_at c =
    record {
      last = c.number_before.result + c.len.result;
      reach = c.number_behind-reach.result;
      counts = c.args.stream.counts.items;
      synced = c.in_ok-synced.synced.items;
      released = c.in_ok-released.released.items;
      staged = None;
      waiting = c.new.result.waiting;
      writing = None;
      newest = c.args.newest;
      anchor = c.newest_number-anchor.result;
      logs = c.args.known.items;
    }

end_at : (c : goal.After-result-1) (logs : List Log) → AreKnown c.args.known.items logs → IsEnd logs c.args.stream.records.items (book_at c).last (book_at c).reach
end_at c logs are =
    is_end c.requires.ready.logs logs c.args.known.items c.args.stream.records.items c.number_before.result (book_at c).last c.number_behind-reach.result c.requires.ready.are c.requires.ready.heads are
    (rw c.deref.ensures.value at c.number_before.ensures c.requires.ready.logs c.requires.ready.are) (omega (arith, c.len.ensures)) c.requires.none (rw c.deref-2.ensures.value at c.number_behind-reach.ensures logs are)

made_at : (c : goal.After-result-1) → IsMade c.requires.ready.logs c.args.stream.records.items c.args.low.items (book_at c)
made_at c =
    let ready = c.requires.ready in
    record {
      heads = ready.heads;
      low_is = ready.low_is;
      end = end_at c ready.logs ready.are;
      order = c.requires.order ready.logs ready.are;
      counts = c.requires.counts;
      parts = c.requires.parts;
      synced = c.in_ok-synced.ensures.items ∙ c.deref-4.ensures.value;
      released = c.in_ok-released.ensures.items ∙ c.deref-5.ensures.value;
      staged = refl;
      waiting = ap (λ f. f.waiting) c.new.ensures;
      anchor = omega (arith, newest_below c.args.newest c.args.known.items ready.logs ready.are c.requires.below, rw c.deref-3.ensures.value at c.newest_number-anchor.ensures ready.logs ready.are);
    }

pub number_behind-reach-requires : goal.number_behind-reach-requires
number_behind-reach-requires c =
    let ready = c.requires.ready in
    last_at ready.logs c.args.stream.records.items c.args.low.items c.number_before.result (c.number_before.result + c.len.result) ready.heads
    (rw c.deref.ensures.value at c.number_before.ensures ready.logs ready.are) (omega (arith, c.len.ensures)) (c.requires.order ready.logs ready.are)

pub invariant_of-ledger : goal.invariant_of-ledger
invariant_of-ledger c =
    let ready = c.requires.ready in
    let synced : c.in_ok-synced.synced.items ≡ c.args.stream.counts.items = c.in_ok-synced.ensures.items ∙ c.deref-4.ensures.value in
    let released : c.in_ok-released.released.items ≡ c.args.low.items = c.in_ok-released.ensures.items ∙ c.deref-5.ensures.value in
    let kept : AreKept c.args.stream.counts.items = reached_kept c.args.low.items c.args.stream.counts.items (first_of ready.logs) c.args.stream.records.items c.requires.kept (c.requires.order ready.logs ready.are) c.requires.counts in
    record {
      few = omega (arith, c.requires.few, c.requires.parts);
      same_parts = ap length synced;
      released_parts = ap length released ∙ sym c.requires.parts;
      counts_are_kept = kept;
      synced_are_kept = subst AreKept (sym synced) kept;
      last_is_kept = last_at ready.logs c.args.stream.records.items c.args.low.items c.number_before.result (c.number_before.result + c.len.result) ready.heads
          (rw c.deref.ensures.value at c.number_before.ensures ready.logs ready.are) (omega (arith, c.len.ensures)) (c.requires.order ready.logs ready.are);
      order = no_later _ _ (rw c.deref-2.ensures.value at c.number_behind-reach.ensures ready.logs ready.are);
      newest_is_kept = λ len is. absurd (none_is_not_found None refl len is);
      anchor_is_tried = omega (arith, newest_below c.args.newest c.args.known.items ready.logs ready.are c.requires.below, rw c.deref-3.ensures.value at c.newest_number-anchor.ensures ready.logs ready.are);
      ready = λ part is. absurd (none_is_not_found None refl part is);
    }

pub returns-clause-stands : goal.returns-clause-stands
returns-clause-stands c = made_books c.requires.ready.logs c.args.stream.records.items c.args.low.items (book_at c) (made_at c)

pub returns-clause-fresh : goal.returns-clause-fresh
returns-clause-fresh c logs are =
    record {
      staged = refl;
      writing = refl;
      released = c.in_ok-released.ensures.items ∙ c.deref-5.ensures.value;
      reach = refl;
      newest = refl;
      anchor = rw c.deref-3.ensures.value at c.newest_number-anchor.ensures logs are;
      logs = sym are;
    }

pub returns-clause-first : goal.returns-clause-first
returns-clause-first c logs are = first_found logs c.args.stream.records.items c.args.low.items (book_at c) (end_at c logs are)

pub returns-clause-reached : goal.returns-clause-reached
returns-clause-reached c logs are = end_found logs c.args.stream.records.items (book_at c).last (book_at c).reach (end_at c logs are)
