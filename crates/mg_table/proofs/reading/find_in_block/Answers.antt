use Rattle.std.proofs.Common.{◌≡◌, ◌∙◌, ℕ, take, map, sym, ap, subst, Some, None}
use Rattle.std.specs.Option.{option_map}
use Rattle.mg_block.specs.Search as block
use Rattle.mg_table.specs.Entries.{pair_of, payload_of}
use Rattle.mg_table.specs.Reading.{entry_of}
use Rattle.mg_table.proofs.FindingLaws.{found-entry, found-none}
use Rattle.mg_table.proofs.reading.find_in_block.Goals as goal

pub returns-in_err-entry-in-Ok-Some-clause-in_block : goal.returns-in_err-entry-in-Ok-Some-clause-in_block
returns-in_err-entry-in-Ok-Some-clause-in_block c = λ entries each is.
    let out = c.find.new.out in
    let len = c.in-Ok-Some.len in
    let key : c.bytes.result.now ≡ c.args.key.now = c.bytes.ensures.bytes in
    let some : Some (take len out) ≡ block.payload_of c.bytes.result.now (map pair_of entries) =
    subst (λ o. option_map (λ (n : ℕ). take n out) o ≡ block.payload_of c.bytes.result.now (map pair_of entries)) c.in-Ok-Some.field-0-is
    (c.in-Ok-Some.ensures.in_block (map pair_of entries) is) in
    let found = found-entry c.bytes.result.now (take len out) entries each some in
    let payload : take c.from.result out ≡ payload_of found.0 = ap (λ (n : ℕ). take n out) c.from.ensures ∙ found.2 in
    let copied : c.in_ok-key-in-Ok-Some.key ≡ found.0.key = c.in_ok-key-in-Ok-Some.ensures.ok ∙ sym (found.1.key_is ∙ key) in
    let never = c.in_err-entry-in-Ok-Some.ensures.written found.0 found.1.is copied payload in
    absurd cc

pub returns-in-Ok-None-clause-in_block : goal.returns-in-Ok-None-clause-in_block
returns-in-Ok-None-clause-in_block c = λ entries each is.
    let none : None ≡ block.payload_of c.bytes.result.now (map pair_of entries) =
    subst (λ o. option_map (λ (len : ℕ). take len c.find.new.out) o ≡ block.payload_of c.bytes.result.now (map pair_of entries)) c.in-Ok-None.field-0-is
    (c.in-Ok-None.ensures.in_block (map pair_of entries) is) in
    sym (ap (λ k. entry_of k entries) (sym c.bytes.ensures.bytes) ∙ found-none c.bytes.result.now entries none)

pub returns-in_ok-entry-in-Ok-Some-clause-in_block : goal.returns-in_ok-entry-in-Ok-Some-clause-in_block
returns-in_ok-entry-in-Ok-Some-clause-in_block c = λ entries each is.
    let out = c.find.new.out in
    let len = c.in-Ok-Some.len in
    let key : c.bytes.result.now ≡ c.args.key.now = c.bytes.ensures.bytes in
    let some : Some (take len out) ≡ block.payload_of c.bytes.result.now (map pair_of entries) =
    subst (λ o. option_map (λ (n : ℕ). take n out) o ≡ block.payload_of c.bytes.result.now (map pair_of entries)) c.in-Ok-Some.field-0-is
    (c.in-Ok-Some.ensures.in_block (map pair_of entries) is) in
    let found = found-entry c.bytes.result.now (take len out) entries each some in
    let payload : take c.from.result out ≡ payload_of found.0 = ap (λ (n : ℕ). take n out) c.from.ensures ∙ found.2 in
    let copied : c.in_ok-key-in-Ok-Some.key ≡ found.0.key = c.in_ok-key-in-Ok-Some.ensures.ok ∙ sym (found.1.key_is ∙ key) in
    let written = c.in_ok-entry-in-Ok-Some.ensures.written found.0 found.1.is copied payload in
    let same : c.in_ok-entry-in-Ok-Some.entry ≡ found.0 = cc in
    ap Some same ∙ sym (ap (λ k. entry_of k entries) (sym key) ∙ found.1.found)
