-- What a footer and an index that are kept say of the blocks.
use Rattle.std.proofs.Common.{◌≡◌, ℕ, zero, suc, ◌+◌, ◌-◌, ◌<◌, ◌≤◌, leb, leb-true, List, [], ◌∷◌, length, refl, inl, inr, arith}
use Rattle.std.proofs.lemmas.Bool.{cases_lt, le-leb}
use Rattle.std.specs.Prelude.{IsTrue, ◌↔◌}
use Rattle.std.specs.Prelude.{slice_index_or}
use Rattle.mg_indexed.specs.Forms.{Form}
use Rattle.mg_indexed.specs.Index.{first_after, BeginUpTo, IsIndexFrom}
use Rattle.mg_indexed.specs.NumberKeys.{number_keys}
use Rattle.mg_indexed.specs.declared.footer.Footer.{Footer}
use Rattle.mg_indexed.specs.declared.handle.BlockHandle.{BlockHandle}
use Rattle.mg_records.specs.Reading.{Agrees, IsKept}

-- the last first number
pub last_first : (previous : ℕ) (handles : List (BlockHandle ℕ)) (j : ℕ) (d : BlockHandle ℕ) → j < length handles → length handles ≤ j + 1 → first_after previous handles ≡ (slice_index_or handles j d).first
last_first previous [] j d within ends = absurd (omega (arith, within))
last_first previous (e ∷ []) zero d within ends = refl
last_first previous (e ∷ (f ∷ handles)) zero d within ends = absurd (omega (arith, ends))
last_first previous (e ∷ handles) (suc j) d within ends = last_first e.first handles j d (omega (arith, within)) (omega (arith, ends))

first_grows : (form : Form) (previous at : ℕ) (handles : List (BlockHandle ℕ)) (end : ℕ) → IsIndexFrom number_keys form previous at handles end → previous ≤ first_after previous handles
first_grows form previous at [] end is = omega arith
first_grows form previous at (e ∷ handles) end is = omega (arith, is.0.0.1, first_grows form e.first (at + e.len) handles end is.1)

-- the first number is not above the last one
pub first_most : (form : Form) (footer : Footer) (index : List (BlockHandle ℕ)) → IsKept form footer index → footer.low ≤ footer.high
first_most form footer [] kept = absurd (omega (arith, kept.whole.count, kept.whole.is_footer.some_blocks))
first_most form footer (e ∷ es) kept = omega (arith, kept.agrees.first, kept.agrees.last, first_grows form e.first _ es _ kept.whole.right.1)

-- some block begins at most at a number that is not below the first one
pub some_begin : (form : Form) (footer : Footer) (index : List (BlockHandle ℕ)) (number count : ℕ) → IsKept form footer index → footer.low ≤ number → BeginUpTo number_keys index number count → 1 ≤ count
some_begin form footer index number (suc k) kept over point = omega arith
some_begin form footer [] number zero kept over point = absurd (omega (arith, kept.whole.count, kept.whole.is_footer.some_blocks))
some_begin form footer (e ∷ es) number zero kept over point = absurd (let above = point.1 0 e (omega arith) (omega arith) in omega (arith, above, kept.agrees.first, over))

-- a block that does not begin above a number begins at most at it
pub not_above : (first number : ℕ) → (number < first → ⊥) → first ≤ number
not_above first number none = elim (cases_lt number first) [ inl above ↦ absurd (none above) | inr under ↦ omega (arith, under) ]

-- footer and index agree where the first numbers of the first and of the last block say so
pub agrees_where : (footer : Footer) (handles : List (BlockHandle ℕ)) (d : BlockHandle ℕ) → 1 ≤ length handles → (slice_index_or handles 0 d).first ≡ footer.low
    → IsTrue (leb (slice_index_or handles (length handles - 1) d).first footer.high) ↔ Agrees footer handles
agrees_where footer [] d some first = absurd (omega (arith, some))
agrees_where footer (e ∷ es) d some first =
    let last = last_first 0 (e ∷ es) (length (e ∷ es) - 1) d (omega arith) (omega arith) in (
      λ under. record { first = first; last = omega (arith, last, leb-true (slice_index_or (e ∷ es) (length (e ∷ es) - 1) d).first footer.high under) },
      λ same. le-leb (slice_index_or (e ∷ es) (length (e ∷ es) - 1) d).first footer.high (omega (arith, last, same.last)),
    )
