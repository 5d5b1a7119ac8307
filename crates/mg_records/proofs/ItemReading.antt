-- A mutation that was taken of a number and contents.
use Rattle.std.proofs.Common.{◌≡◌, ℕ, List, [], ◌++◌, Option, Result, Ok, Err, Some, None, refl, sym, ap, subst, ◌∙◌}
use Rattle.std.proofs.lemmas.List.{append-nil}
use Rattle.std.specs.Option.{IsSome, IfNone}
use Rattle.std.specs.Result.{IfOk}
use Rattle.std.specs.declared.alloc.AllocError.{AllocError}
use Rattle.mg_types.specs.declared.items.Item.{Item}
use Rattle.mg_records.specs.Contents.{AreContents, contents}
use Rattle.mg_records.specs.ContentsLaws.{one_contents}
use Rattle.mg_records.specs.ItemRecord.{item_kind}
use Rattle.mg_records.specs.Record.{IsContents, IsTaken}

-- what is not None is Some
pub some_by_none : {X : Type 0} (r : Option X) (P : Type 0) → IfNone r P → (P → ⊥) → IsSome r
some_by_none None P none refuted = absurd (refuted none)
some_by_none (Some x) P none refuted = refl

pub whole_contents : (bytes : List ℕ) (given : IsContents item_kind bytes) → bytes ≡ contents given.0.key given.0.doc ++ []
whole_contents bytes given = given.2 ∙ sym (append-nil (contents given.0.key given.0.doc))

pub item_taken : (bytes : List ℕ) (seq : ℕ) (key : List ℕ) (doc : Option (List ℕ)) (rest : List ℕ) (result : Result Item AllocError) → IsContents item_kind bytes → AreContents key doc → bytes ≡ contents key doc ++ rest
    → IfOk result (λ item. item.seq ≡ seq) → IfOk result (λ item. item.key ≡ key) → IfOk result (λ item. item.doc ≡ doc) → IfOk result (λ item. IsTaken item_kind seq bytes item)
item_taken bytes seq key doc rest (Err error) given form spelled seq_is key_is doc_is = tt
item_taken bytes seq key doc rest (Ok item) given form spelled seq_is key_is doc_is =
    let parts = one_contents given.0.key given.0.doc key doc [] rest given.1 form (sym (whole_contents bytes given) ∙ spelled) in (
      seq_is,
      subst (λ (d : Option (List ℕ)). AreContents item.key d) (sym doc_is) (subst (λ (k : List ℕ). AreContents k doc) (sym key_is) form),
      given.2 ∙ ap (λ (k : List ℕ). contents k given.0.doc) (parts.0 ∙ sym key_is) ∙ ap (λ (d : Option (List ℕ)). contents item.key d) (parts.1 ∙ sym doc_is),
    )
