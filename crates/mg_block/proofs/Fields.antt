-- The fields of an item are read off its bytes, and those that extend a key spell a pair behind it.
use Rattle.std.proofs.Common.{◌≡◌, ℕ, ◌<◌, List, ◌∷◌, ◌++◌, length, get_or, take, drop, refl, sym, ap, subst, ◌∙◌, arith}
use Rattle.std.proofs.lemmas.List.{take_at, drop_at, length-append, length-take-le}
use Rattle.mg_block.specs.declared.pair.Pair.{Pair}
use Rattle.mg_block.specs.Item.{counted, spelled, Extends}
use Rattle.mg_block.specs.Block.{shared_len, item_of, NextItem}
use Rattle.mg_block.proofs.Order.{Extends-from_Precedes, Stands-from_Extends}
use Rattle.mg_block.proofs.Spelling.{pair_from, spelled-append}

abbrev shared_field : List ℕ → ℕ
shared_field bytes = get_or bytes 0 0

abbrev rest_field : List ℕ → List ℕ
rest_field bytes = take (get_or bytes 1 0) (drop 2 bytes)

abbrev tail_field : List ℕ → List ℕ
tail_field bytes = drop (get_or bytes 1 0) (drop 2 bytes)

rest_field-spelled : (shared : ℕ) (rest payload more : List ℕ) → rest_field (spelled shared rest payload ++ more) ≡ rest
rest_field-spelled shared rest payload more =
    ap rest_field (spelled-append shared rest payload more) ∙ take_at rest (length payload ∷ payload ++ more) (length rest) refl

tail_field-spelled : (shared : ℕ) (rest payload more : List ℕ) → tail_field (spelled shared rest payload ++ more) ≡ counted payload ++ more
tail_field-spelled shared rest payload more =
    ap tail_field (spelled-append shared rest payload more) ∙ drop_at rest (length payload ∷ payload ++ more) (length rest) refl

-- where no payload stands behind the rest of the key, no item stands
pub no_payload : (bytes : List ℕ) (shared : ℕ) (rest tail : List ℕ) → bytes ≡ shared ∷ counted rest ++ tail → ((list more : List ℕ) → tail ≡ counted list ++ more → ⊥)
    → (s : ℕ) (r p m : List ℕ) → bytes ≡ spelled s r p ++ m → ⊥
no_payload bytes shared rest tail e none s r p m h =
    none p m (sym (drop_at rest tail (length rest) refl) ∙ ap tail_field (sym e ∙ h) ∙ tail_field-spelled s r p m)

-- fields that extend a key are the item of a pair behind it
pub NextItem-from_spelled : (previous bytes : List ℕ) (shared : ℕ) (rest payload more : List ℕ) → Extends previous shared rest → length payload < 256 → bytes ≡ spelled shared rest payload ++ more
    → NextItem previous bytes (pair_from (take shared previous ++ rest) payload) more
unfolding item_of
NextItem-from_spelled previous bytes shared rest payload more x short e =
    let stands = Stands-from_Extends previous shared rest x in
    let len : length (take shared previous) ≡ shared = length-take-le shared previous x.within in
    let back : drop shared (take shared previous ++ rest) ≡ rest = drop_at (take shared previous) rest shared len in
    record {
      follows = record {
        rises = stands.rises;
        key = omega (arith, len, length-append (take shared previous) rest, x.fits);
        payload = omega arith;
      };
      spelling = e ∙ sym (rw (stands.shares, back) refl);
    }

-- the fields of a pair's item extend the key before it
pub Extends-from_NextItem : (previous bytes : List ℕ) (shared : ℕ) (rest payload more : List ℕ) (pair : Pair) (after : List ℕ) → bytes ≡ spelled shared rest payload ++ more → NextItem previous bytes pair after
    → Extends previous shared rest
unfolding item_of
Extends-from_NextItem previous bytes shared rest payload more pair after e next =
    let s = shared_len previous pair.key in
    let r = drop s pair.key in
    let both : spelled s r pair.payload ++ after ≡ spelled shared rest payload ++ more = sym next.spelling ∙ e in
    let shared-is : s ≡ shared = ap shared_field both in
    let rest-is : r ≡ rest = sym (rest_field-spelled s r pair.payload after) ∙ ap rest_field both ∙ rest_field-spelled shared rest payload more in
    let x : Extends previous s r = Extends-from_Precedes previous pair.key next.follows.rises next.follows.key in
    let y : Extends previous shared r = subst (λ (n : ℕ). Extends previous n r) shared-is x in
    subst (λ (l : List ℕ). Extends previous shared l) rest-is y
