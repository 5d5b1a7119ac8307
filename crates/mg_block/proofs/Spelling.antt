-- A block's bytes spell one list of pairs.
use Rattle.std.proofs.Common.{◌≡◌, ℕ, zero, suc, ◌≤◌, List, [], ◌∷◌, ◌++◌, length, get_or, take, drop, refl, sym, ap, subst, ◌∙◌, arith, append_assoc}
use Rattle.std.proofs.lemmas.List.{take_at, drop_at, take-append-drop, length-append, length-drop, append-nil, append_cancel_left}
use Rattle.mg_block.specs.declared.pair.Pair.{Pair}
use Rattle.mg_block.specs.Item.{spelled}
use Rattle.mg_block.specs.Block.{shared_len, item_of, items_after, block_of, Follows, RiseAfter, IsBlock, Begins, BreaksAt, NextItem}
use Rattle.mg_block.specs.View.{first_pair, pairs_after, pairs_of, last_pair, last_pair_after}
use Rattle.mg_block.proofs.Order.{take-shared_len}

-- an item and what follows it, with the payload's length and the payload as the tail
pub spelled-append : (shared : ℕ) (rest payload more : List ℕ) → spelled shared rest payload ++ more ≡ shared ∷ length rest ∷ rest ++ (length payload ∷ payload ++ more)
spelled-append shared rest payload more = ap (λ (t : List ℕ). shared ∷ length rest ∷ t) (append_assoc rest (length payload ∷ payload) more)

pub key-joined : (previous key : List ℕ) → take (shared_len previous key) previous ++ drop (shared_len previous key) key ≡ key
key-joined previous key = rw (take-shared_len previous key) (take-append-drop (shared_len previous key) key)

abbrev pub pair_from : List ℕ → List ℕ → Pair
pair_from key payload = record { key = key; payload = payload }

pub pair_is : (key key' payload payload' : List ℕ) → key ≡ key' → payload ≡ payload' → pair_from key payload ≡ pair_from key' payload'
pair_is key key' payload payload' a b = rw (a, b) refl

-- the pair that an item's fields stand for
pub first_pair-spelled : (previous : List ℕ) (shared : ℕ) (rest payload more : List ℕ) → first_pair previous (spelled shared rest payload ++ more) ≡ pair_from (take shared previous ++ rest) payload
unfolding first_pair
first_pair-spelled previous shared rest payload more =
    let tail = length payload ∷ payload ++ more in
    let front : take (length rest) (rest ++ tail) ≡ rest = take_at rest tail (length rest) refl in
    let back : drop (length rest) (rest ++ tail) ≡ tail = drop_at rest tail (length rest) refl in
    ap (λ (bytes : List ℕ). first_pair previous bytes) (spelled-append shared rest payload more)
    ∙ pair_is _ _ _ _ (ap (λ (t : List ℕ). take shared previous ++ t) front) (ap (λ (t : List ℕ). take (get_or t 0 0) (drop 1 t)) back ∙ take_at payload more (length payload) refl)

pub first_pair-item_of : (previous : List ℕ) (pair : Pair) (more : List ℕ) → first_pair previous (item_of previous pair ++ more) ≡ pair
unfolding item_of
first_pair-item_of previous pair more =
    first_pair-spelled previous (shared_len previous pair.key) (drop (shared_len previous pair.key) pair.key) pair.payload more
    ∙ pair_is _ _ _ _ (key-joined previous pair.key) refl

pub length-item_of : (previous : List ℕ) (pair : Pair) → 3 ≤ length (item_of previous pair)
unfolding item_of
length-item_of previous pair =
    let s = shared_len previous pair.key in
    omega (arith, length-append (drop s pair.key) (length pair.payload ∷ pair.payload))

-- ---- the pairs of a block's bytes

pub pairs_after-items_after : (n : ℕ) (previous : List ℕ) (pairs : List Pair) → length pairs ≤ n → pairs_after n previous (items_after previous pairs) ≡ pairs
unfolding pairs_after item_of
pairs_after-items_after zero previous [] h = refl
pairs_after-items_after zero previous (pair ∷ pairs) h = absurd (omega arith)
pairs_after-items_after (suc n) previous [] h = refl
pairs_after-items_after (suc n) previous (pair ∷ pairs) h =
    let more = items_after pair.key pairs in
    ap (λ (p : Pair). p ∷ pairs_after n p.key (drop (length (item_of previous p)) (item_of previous pair ++ more))) (first_pair-item_of previous pair more)
    ∙ ap (λ (t : List ℕ). pair ∷ pairs_after n pair.key t) (drop_at (item_of previous pair) more (length (item_of previous pair)) refl)
    ∙ ap (λ (ps : List Pair). pair ∷ ps) (pairs_after-items_after n pair.key pairs (omega arith))

pub length-items_after : (previous : List ℕ) (pairs : List Pair) → length pairs ≤ length (items_after previous pairs)
length-items_after previous [] = omega arith
length-items_after previous (pair ∷ pairs) =
    omega (arith, length-append (item_of previous pair) (items_after pair.key pairs), length-item_of previous pair, length-items_after pair.key pairs)

pub pairs_of-block_of : (pairs : List Pair) → pairs_of (block_of pairs) ≡ pairs
unfolding pairs_of
pairs_of-block_of pairs = pairs_after-items_after (length (block_of pairs)) [] pairs (length-items_after [] pairs)

-- a block is the block of one list of pairs
pub one_list : (bytes : List ℕ) (pairs others : List Pair) → IsBlock bytes pairs → IsBlock bytes others → pairs ≡ others
one_list bytes pairs others a b =
    sym (pairs_of-block_of pairs) ∙ ap pairs_of (sym a.spelling ∙ b.spelling) ∙ pairs_of-block_of others

-- ---- one pair more

pub items_after-push : (before : Pair) (pairs : List Pair) (pair : Pair) → items_after before.key (pairs ++ pair ∷ []) ≡ items_after before.key pairs ++ item_of (last_pair_after before pairs).key pair
items_after-push before [] pair = append-nil (item_of before.key pair)
items_after-push before (first ∷ pairs) pair =
    ap (λ (t : List ℕ). item_of before.key first ++ t) (items_after-push first pairs pair)
    ∙ sym (append_assoc (item_of before.key first) (items_after first.key pairs) (item_of (last_pair_after first pairs).key pair))

pub RiseAfter-push : (before : Pair) (pairs : List Pair) (pair : Pair) → RiseAfter before.key pairs → Follows (last_pair_after before pairs).key pair → RiseAfter before.key (pairs ++ pair ∷ [])
RiseAfter-push before [] pair h f = (f, tt)
RiseAfter-push before (first ∷ pairs) pair h f = (h.0, RiseAfter-push first pairs pair h.1 f)

pub RiseAfter-last : (before : Pair) (pairs : List Pair) (pair : Pair) → RiseAfter before.key (pairs ++ pair ∷ []) → Follows (last_pair_after before pairs).key pair
RiseAfter-last before [] pair h = h.0
RiseAfter-last before (first ∷ pairs) pair h = RiseAfter-last first pairs pair h.1

pub last_pair_after-push : (before : Pair) (pairs : List Pair) (pair : Pair) → last_pair_after before (pairs ++ pair ∷ []) ≡ pair
last_pair_after-push before [] pair = refl
last_pair_after-push before (first ∷ pairs) pair = last_pair_after-push first pairs pair

pub Begins-push : (bytes : List ℕ) (pairs : List Pair) (pair : Pair) (rest : List ℕ) → Begins bytes pairs (item_of (last_pair pairs).key pair ++ rest) → Follows (last_pair pairs).key pair → Begins bytes (pairs ++ pair ∷ []) rest
Begins-push bytes pairs pair rest b f = record {
  rising = RiseAfter-push (pair_from [] []) pairs pair b.rising f;
  spelling = b.spelling ∙ sym (append_assoc (block_of pairs) (item_of (last_pair pairs).key pair) rest) ∙ ap (λ (t : List ℕ). t ++ rest) (sym (items_after-push (pair_from [] []) pairs pair));
}

pub NextItem-from_Begins : (bytes : List ℕ) (pairs : List Pair) (tail : List ℕ) (pair : Pair) (rest : List ℕ) → Begins bytes pairs tail → Begins bytes (pairs ++ pair ∷ []) rest → NextItem (last_pair pairs).key tail pair rest
NextItem-from_Begins bytes pairs tail pair rest a b = record {
  follows = RiseAfter-last (pair_from [] []) pairs pair b.rising;
  spelling = append_cancel_left (block_of pairs) tail (item_of (last_pair pairs).key pair ++ rest)
      (sym a.spelling ∙ b.spelling ∙ ap (λ (t : List ℕ). t ++ rest) (items_after-push (pair_from [] []) pairs pair) ∙ append_assoc (block_of pairs) (item_of (last_pair pairs).key pair) rest);
}

-- ---- fronts of a block

pub front_after : (previous : List ℕ) (all pairs : List Pair) (rest : List ℕ) → items_after previous all ≡ items_after previous pairs ++ rest → (more : List Pair) × (all ≡ pairs ++ more)
front_after previous all [] rest e = (all, refl)
front_after previous [] (pair ∷ pairs) rest e =
    absurd (omega (arith, length-item_of previous pair, ap length e, length-append (item_of previous pair ++ items_after pair.key pairs) rest, length-append (item_of previous pair) (items_after pair.key pairs)))
front_after previous (first ∷ all) (pair ∷ pairs) rest e =
    let regrouped : item_of previous first ++ items_after first.key all ≡ item_of previous pair ++ (items_after pair.key pairs ++ rest) = e ∙ append_assoc (item_of previous pair) (items_after pair.key pairs) rest in
    let same : first ≡ pair = sym (first_pair-item_of previous first (items_after first.key all)) ∙ ap (λ (t : List ℕ). first_pair previous t) regrouped ∙ first_pair-item_of previous pair (items_after pair.key pairs ++ rest) in
    let tails : items_after pair.key all ≡ items_after pair.key pairs ++ rest = append_cancel_left (item_of previous pair) (items_after pair.key all) (items_after pair.key pairs ++ rest) (subst (λ (p : Pair). item_of previous p ++ items_after p.key all ≡ item_of previous pair ++ (items_after pair.key pairs ++ rest)) same regrouped) in
    let more = front_after pair.key all pairs rest tails in
    (more.0, ap (λ (p : Pair). p ∷ all) same ∙ ap (λ (ps : List Pair). pair ∷ ps) more.1)

-- what begins a block is a front of its pairs
pub front_of_block : (bytes : List ℕ) (all pairs : List Pair) (rest : List ℕ) → IsBlock bytes all → Begins bytes pairs rest → (more : List Pair) × (all ≡ pairs ++ more)
front_of_block bytes all pairs rest a b = front_after [] all pairs rest (sym a.spelling ∙ b.spelling)

-- ---- a list of pairs in two parts

pub items_after-append : (before : Pair) (pairs more : List Pair) → items_after before.key (pairs ++ more) ≡ items_after before.key pairs ++ items_after (last_pair_after before pairs).key more
items_after-append before [] more = refl
items_after-append before (pair ∷ pairs) more =
    ap (λ (t : List ℕ). item_of before.key pair ++ t) (items_after-append pair pairs more)
    ∙ sym (append_assoc (item_of before.key pair) (items_after pair.key pairs) (items_after (last_pair_after pair pairs).key more))

pub RiseAfter-front : (before : Pair) (pairs more : List Pair) → RiseAfter before.key (pairs ++ more) → RiseAfter before.key pairs
RiseAfter-front before [] more h = tt
RiseAfter-front before (pair ∷ pairs) more h = (h.0, RiseAfter-front pair pairs more h.1)

pub Begins-front : (bytes : List ℕ) (pairs more : List Pair) → IsBlock bytes (pairs ++ more) → Begins bytes pairs (items_after (last_pair pairs).key more)
Begins-front bytes pairs more b = record {
  rising = RiseAfter-front (pair_from [] []) pairs more b.rising;
  spelling = b.spelling ∙ items_after-append (pair_from [] []) pairs more;
}

-- bytes that break are no block
pub BreaksAt-no_block : (bytes : List ℕ) (read left : List Pair) (at : ℕ) → BreaksAt bytes read at → IsBlock bytes (read ++ left) → ⊥
BreaksAt-no_block bytes read [] at breaks b =
    let rest-is : drop at bytes ≡ [] = append_cancel_left (block_of read) (drop at bytes) [] (sym breaks.begins.spelling ∙ (Begins-front bytes read [] b).spelling) in
    absurd (omega (arith, breaks.more, ap length rest-is, length-drop at bytes))
BreaksAt-no_block bytes read (pair ∷ left) at breaks b =
    let moved : IsBlock bytes (read ++ pair ∷ [] ++ left) = subst (λ (ps : List Pair). IsBlock bytes ps) (sym (append_assoc read (pair ∷ []) left)) b in
    breaks.no_item pair _ (Begins-front bytes (read ++ pair ∷ []) left moved)

pub BreaksAt-not_block : (bytes : List ℕ) (read : List Pair) (at : ℕ) (all : List Pair) → BreaksAt bytes read at → IsBlock bytes all → ⊥
BreaksAt-not_block bytes read at all breaks b =
    let front = front_of_block bytes all read (drop at bytes) b breaks.begins in
    BreaksAt-no_block bytes read front.0 at breaks (subst (λ (ps : List Pair). IsBlock bytes ps) front.1 b)
