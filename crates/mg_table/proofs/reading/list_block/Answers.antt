use Rattle.std.proofs.Common.{◌≡◌, ◌⊎◌, inr, ◌∙◌, Bool, true, false, sym, ap, subst, Ok, arith}
use Rattle.std.proofs.lemmas.Grind.{common_steps}
use Rattle.std.specs.Option.{SomeIff}
use Rattle.mg_block.specs.Cursor.{Advances}
use Rattle.mg_block.specs.declared.pair.Pair.{Pair}
use Rattle.mg_types.specs.Bytes.{IsKey}
use Rattle.mg_types.specs.declared.faults.Fault.TheVariants.{NoMemory}
use Rattle.mg_sealed.proofs.AnswerLaws.{err_is}
use Rattle.mg_table.specs.Reading.{IsListUnfit}
use Rattle.mg_table.proofs.CauseLaws.{at-end, list-read, list-refused}
use Rattle.mg_table.specs.Entries.{payload_of}
use Rattle.mg_table.proofs.ListingLaws.{advances, all-listed, key-read, next-entry, or-ok, reads-fewer, Lists-more}
use Rattle.mg_table.proofs.reading.list_block.Goals as goal

pub returns-in_default-clause-in_block : goal.returns-in_default-clause-in_block
returns-in_default-clause-in_block c = λ listed each is.
    let read : c.advance.result ≡ Ok true = or-ok c.advance.result _ true (sym c.or.ensures ∙ c.in_ok-or.was ∙ ap (λ (b : Bool). Ok b) c.if-branch.true) in
    let a : Advances c.loop-alloc.cursor c.advance.new.self = advances _ _ c.advance.result read c.advance.ensures.ok in
    let key = key-read _ _ a in
    let none = subst (λ o. SomeIff o (IsKey c.key.result.now) c.key.result.now) c.in_default.is c.in_ok-key.ensures.ok in
    absurd (none (subst IsKey (sym c.key.ensures) key))

pub returns-in_err-entry_from-clause-in_block : goal.returns-in_err-entry_from-clause-in_block
returns-in_err-entry_from-clause-in_block c = λ listed each is.
    let read : c.advance.result ≡ Ok true = or-ok c.advance.result _ true (sym c.or.ensures ∙ c.in_ok-or.was ∙ ap (λ (b : Bool). Ok b) c.if-branch.true) in
    let next = next-entry c.args.block.now c.loop-alloc.cursor c.advance.new.self c.args.entries.now c.loop-alloc.entries c.advance.result c.loop-alloc.invariant read c.advance.ensures.left listed each is in
    let made = subst (λ o. SomeIff o (IsKey c.key.result.now) c.key.result.now) c.in-Some.is c.in_ok-key.ensures.ok in
    let key : c.in-Some.key ≡ next.entry.key = made.1 ∙ c.key.ensures ∙ ap (λ (p : Pair). p.key) next.last in
    let payload : c.payload.result.now ≡ payload_of next.entry = c.payload.ensures ∙ ap (λ (p : Pair). p.payload) next.last in
    let never = c.in_err-entry_from.ensures.written next.entry next.is key payload in
    absurd cc

pub loop-alloc-smaller : goal.loop-alloc-smaller
loop-alloc-smaller c =
    let read : c.advance.result ≡ Ok true = or-ok c.advance.result _ true (sym c.or.ensures ∙ c.in_ok-or.was ∙ ap (λ (b : Bool). Ok b) c.if-branch.true) in
    let a : Advances c.loop-alloc.cursor c.advance.new.self = advances _ _ c.advance.result read c.advance.ensures.ok in
    let fewer = reads-fewer c.args.block.now c.loop-alloc.cursor c.advance.new.self c.loop-alloc.invariant.read a in
    omega arith

pub loop-alloc-preserved : goal.loop-alloc-preserved
loop-alloc-preserved c =
    let read : c.advance.result ≡ Ok true = or-ok c.advance.result _ true (sym c.or.ensures ∙ c.in_ok-or.was ∙ ap (λ (b : Bool). Ok b) c.if-branch.true) in
    let a : Advances c.loop-alloc.cursor c.advance.new.self = advances _ _ c.advance.result read c.advance.ensures.ok in
    let made = subst (λ o. SomeIff o (IsKey c.key.result.now) c.key.result.now) c.in-Some.is c.in_ok-key.ensures.ok in
    Lists-more c.args.block.now c.loop-alloc.cursor c.advance.new.self c.args.entries.now c.loop-alloc.entries c.push.new.self c.in_ok-entry_from.field-0 c.loop-alloc.invariant a c.in_ok-push.ensures.ok
    c.in_ok-entry_from.ensures.read.1 (c.in_ok-entry_from.ensures.read.0 ∙ made.1 ∙ c.key.ensures) (sym c.in_ok-entry_from.ensures.read.2 ∙ c.payload.ensures)
    (λ listed each is.
    let next = next-entry c.args.block.now c.loop-alloc.cursor c.advance.new.self c.args.entries.now c.loop-alloc.entries c.advance.result c.loop-alloc.invariant read c.advance.ensures.left listed each is in
    let key : c.in-Some.key ≡ next.entry.key = made.1 ∙ c.key.ensures ∙ ap (λ (p : Pair). p.key) next.last in
    let payload : c.payload.result.now ≡ payload_of next.entry = c.payload.ensures ∙ ap (λ (p : Pair). p.payload) next.last in
    let written = c.in_ok-entry_from.ensures.written next.entry next.is key payload in
    let same : c.in_ok-entry_from.field-0 ≡ next.entry = cc in
    (next, same))

pub returns-clause-in_block : goal.returns-clause-in_block
returns-clause-in_block c = λ listed each is.
    let read : c.advance.result ≡ Ok false = or-ok c.advance.result _ false (sym c.or.ensures ∙ c.in_ok-or.was ∙ ap (λ (b : Bool). Ok b) c.if-branch.false) in
    all-listed c.args.block.now c.loop-alloc.cursor c.advance.new.self c.args.entries.now c.loop-alloc.entries c.advance.result c.loop-alloc.invariant read c.advance.ensures.left listed each is

pub returns-in_default-clause-causes : goal.returns-in_default-clause-causes
returns-in_default-clause-causes c =
    let read : c.advance.result ≡ Ok true = or-ok c.advance.result _ true (sym c.or.ensures ∙ c.in_ok-or.was ∙ ap (λ (b : Bool). Ok b) c.if-branch.true) in
    let a : Advances c.loop-alloc.cursor c.advance.new.self = advances _ _ c.advance.result read c.advance.ensures.ok in
    let key = key-read _ _ a in
    let none = subst (λ o. SomeIff o (IsKey c.key.result.now) c.key.result.now) c.in_default.is c.in_ok-key.ensures.ok in
    absurd (none (subst IsKey (sym c.key.ensures) key))

pub returns-in_err-entry_from-clause-causes : goal.returns-in_err-entry_from-clause-causes
returns-in_err-entry_from-clause-causes c =
    let read : c.advance.result ≡ Ok true = or-ok c.advance.result _ true (sym c.or.ensures ∙ c.in_ok-or.was ∙ ap (λ (b : Bool). Ok b) c.if-branch.true) in
    let a : Advances c.loop-alloc.cursor c.advance.new.self = advances _ _ c.advance.result read c.advance.ensures.ok in
    let fault = c.in_err-entry_from.field-0.0 in
    err_is c.from_residual-in_err-entry_from.result fault (λ f. (f ≡ NoMemory) ⊎ IsListUnfit c.args.id c.args.at c.args.block.now f) (grind (arith, common_steps))
    (inr (list-refused c.args.id c.args.at c.args.block.now c.loop-alloc.cursor c.advance.new.self c.args.entries.now c.loop-alloc.entries c.payload.result.now fault
    c.loop-alloc.invariant a c.payload.ensures c.in_err-entry_from.ensures.causes))

pub returns-clause-read : goal.returns-clause-read
returns-clause-read c =
    let read : c.advance.result ≡ Ok false = or-ok c.advance.result _ false (sym c.or.ensures ∙ c.in_ok-or.was ∙ ap (λ (b : Bool). Ok b) c.if-branch.false) in
    let ends = at-end c.loop-alloc.cursor c.advance.new.self c.advance.result read c.advance.ensures.ok in
    list-read c.args.block.now c.loop-alloc.cursor c.args.entries.now c.loop-alloc.entries c.loop-alloc.invariant ends
