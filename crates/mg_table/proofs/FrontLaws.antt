-- The key with which a block begins.
use Rattle.std.proofs.Common.{◌↔◌, ◌≡◌, ◌≢◌, ℕ, List, [], ◌∷◌, ◌++◌, map, sym, ap, subst, ◌∙◌, refl, inl, inr, Bool, true, false, Result, Ok, Err, IfOk, IfErr, IsTrue, MatchBool}
use Rattle.mg_block.specs.Block.{Begins, BreaksAt, IsBlock}
use Rattle.mg_block.specs.Cursor.{Advances, Reading}
use Rattle.mg_block.specs.View.{last_pair}
use Rattle.mg_block.specs.declared.pair.Pair.{Pair}
use Rattle.mg_block.proofs.Readings.{fronts}
use Rattle.mg_block.proofs.Spelling.{front_of_block, last_pair_after-push, Begins-front}
use Rattle.mg_table.specs.Entries.{first_key, pair_of}
use Rattle.mg_table.specs.Reading.{BeginsWithKey}
use Rattle.mg_block.specs.declared.pair.NotABlock.{NotABlock}
use Rattle.mg_table.proofs.ListingLaws.{advances, no_pair}
use Rattle.mg_types.specs.declared.items.Entry.{Entry}

-- the pair that was read first
first-read : (block : List ℕ) (old new : Reading) → old.bytes ≡ block → old.read ≡ [] → Advances old new
    → (rest : List ℕ) × Begins block (last_pair new.read ∷ []) rest
first-read block old new bytes none a =
    let read : new.read ≡ a.pair ∷ [] = a.read ∙ ap (λ ps. ps ++ a.pair ∷ []) none in
    let last : last_pair new.read ≡ a.pair = ap last_pair a.read ∙ last_pair_after-push no_pair old.read a.pair in (
      a.rest,
      subst (λ (p : Pair). Begins block (p ∷ []) a.rest) (sym last)
          (subst (λ ps. Begins block ps a.rest) read (subst (λ bs. Begins bs new.read a.rest) (a.bytes ∙ bytes) a.begins)),
    )

-- bytes begin with one pair
one-pair : (block : List ℕ) (pair other : Pair) (rest tail : List ℕ) → Begins block (pair ∷ []) rest → Begins block (other ∷ []) tail → pair ≡ other
one-pair block pair other rest tail a b = elim (fronts block (pair ∷ []) (other ∷ []) rest tail a b) [
  | inl more ↦ let e = more.1 in cc
  | inr more ↦ let e = more.1 in cc
]

-- where the pair that was read first has this key, and only there, the block begins with it
first-begins : (block key : List ℕ) (pair : Pair) (rest : List ℕ) → Begins block (pair ∷ []) rest → pair.key ≡ key → BeginsWithKey block key
first-begins block key pair rest begins same = (pair, rest, begins, same)

first-only : (block key : List ℕ) (pair : Pair) (rest : List ℕ) → Begins block (pair ∷ []) rest → BeginsWithKey block key → pair.key ≡ key
first-only block key pair rest begins is = ap (λ (p : Pair). p.key) (one-pair block pair is.0 rest is.1 begins is.2) ∙ is.3

-- a block of no pairs begins with none
none-begins : (block key : List ℕ) → IsBlock block [] → BeginsWithKey block key → ⊥
none-begins block key is begins =
    let front = front_of_block block [] (begins.0 ∷ []) begins.1 is begins.2 in
    let never = front.1 in
    absurd cc

breaks-begins : (block key : List ℕ) (at : ℕ) → BreaksAt block [] at → BeginsWithKey block key → ⊥
breaks-begins block key at breaks begins = breaks.no_item begins.0 begins.1 begins.2

-- where nothing or no item is read first, the block begins with no pair
pub end-begins : (block key : List ℕ) (old new : Reading) (more : Bool) → old.bytes ≡ block → old.read ≡ [] → more ≡ false
    → MatchBool more (Advances old new) (IsBlock old.bytes old.read × (new ≡ old)) → BeginsWithKey block key → ⊥
end-begins block key old new more bytes none is known =
    let ends = (subst (λ m. MatchBool m (Advances old new) (IsBlock old.bytes old.read × (new ≡ old))) is known).0 in
    none-begins block key (subst (λ bs. IsBlock bs []) bytes (subst (λ ps. IsBlock old.bytes ps) none ends))

pub refused-begins : (block key : List ℕ) (old new : Reading) (result : Result Bool NotABlock) (refused : NotABlock) → old.bytes ≡ block → old.read ≡ [] → result ≡ Err refused
    → IfErr result (λ refused. BreaksAt old.bytes old.read refused.at × (new ≡ old)) → BeginsWithKey block key → ⊥
refused-begins block key old new result refused bytes none is known =
    let breaks = (subst (λ r. IfErr r (λ (refused : NotABlock). BreaksAt old.bytes old.read refused.at × (new ≡ old))) is known).0 in
    breaks-begins block key refused.at (subst (λ bs. BreaksAt bs [] refused.at) bytes (subst (λ ps. BreaksAt old.bytes ps refused.at) none breaks))

-- where a pair is read first, the block begins with its key alone
pub read-begins : (block key : List ℕ) (old new : Reading) (result : Result Bool NotABlock) → old.bytes ≡ block → old.read ≡ [] → result ≡ Ok true
    → IfOk result (λ more. MatchBool more (Advances old new) (IsBlock old.bytes old.read × (new ≡ old)))
    → ((last_pair new.read).key ≡ key) ↔ BeginsWithKey block key
read-begins block key old new result bytes none is known =
    let first = first-read block old new bytes none (advances old new result is known) in
    (λ same. first-begins block key (last_pair new.read) first.0 first.1 same, λ begins. first-only block key (last_pair new.read) first.0 first.1 begins)

-- the block of entries begins with the first one's key
pub block-begins : (frame key : List ℕ) (block : List Entry) → IsBlock frame (map pair_of block) → block ≢ [] → first_key block ≡ key → BeginsWithKey frame key
block-begins frame key [] is some first = absurd (some refl)
block-begins frame key (entry ∷ block) is some first = (pair_of entry, _, Begins-front frame (pair_of entry ∷ []) (map pair_of block) is, first)

-- a comparison of the first key says whether the block begins with the key
pub compared-key : (r : Bool) (first key : List ℕ) (B : Type 0) → MatchBool r (first ≡ key) (first ≢ key) → (first ≡ key) ↔ B → (IsTrue r → B) × (B → IsTrue r)
compared-key true first key B same is = (λ yes. is.0 same, λ begins. refl)
compared-key false first key B apart is = (λ yes. absurd cc, λ begins. absurd (apart (is.1 begins)))
