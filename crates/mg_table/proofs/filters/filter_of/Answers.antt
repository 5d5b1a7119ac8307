use Rattle.std.proofs.Common.{◌≡◌, ◌+◌, ◌∷◌, ◌++◌, [], ℕ, List, length, take, sym, ap, ◌∙◌, subst, arith}
use Rattle.std.proofs.lemmas.List.{map-append, take_more}
use Rattle.mg_bloom.specs.Bloom.{bit_count, key_words, AddsWords, IsBitCountFor}
use Rattle.mg_table.specs.Table.{hashed_keys}
use Rattle.mg_table.proofs.FilterLaws.{HasBitsOf-put}
use Rattle.mg_types.specs.declared.items.Entry.{Entry}
use Rattle.mg_table.proofs.filters.filter_of.Goals as goal

pub loop-entry-preserved : goal.loop-entry-preserved
loop-entry-preserved c =
    let entries = c.args.entries.now in
    let i = c.loop-entry.entry-index in
    let entry = c.entry-item.result in
    let next : take (i + 1) entries ≡ take i entries ++ entry ∷ [] =
    take_more entries i entry c.loop-entry-test.true ∙ ap (λ (e : Entry). take i entries ++ e ∷ []) (sym c.entry-item.is) in
    let words : hashed_keys (take (i + 1) entries) ≡ hashed_keys (take i entries) ++ key_words entry.key ∷ [] =
    ap hashed_keys next ∙ map-append (λ (e : Entry). key_words e.key) (take i entries) (entry ∷ []) in
    let adds = subst (λ (k : List ℕ). AddsWords c.loop-entry.filter c.put.new.self (key_words k)) c.bytes.ensures.bytes c.put.ensures.exact in
    let size : bit_count c.loop-entry.filter ≡ bit_count c.put.new.self = omega (arith, adds.same_length) in (
      subst (λ (n : ℕ). IsBitCountFor (length entries) n) size c.loop-entry.invariant.0,
      HasBitsOf-put c.loop-entry.filter c.put.new.self (hashed_keys (take i entries)) (hashed_keys (take (i + 1) entries)) (key_words entry.key) c.loop-entry.invariant.1 adds words,
    )
