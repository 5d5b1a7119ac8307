-- What the bytes that a builder or a cursor keeps stand for.
use Rattle.std.proofs.Common.{eqb, ◌≡◌, ℕ, ◌+◌, ◌-◌, ◌<◌, List, [], ◌∷◌, ◌++◌, length, take, drop, Bool, true, false, Result, Ok, refl, sym, ap, subst, ◌∙◌, arith, append_assoc}
use Rattle.std.specs.Prelude.{IsTrue, ◌↔◌}
use Rattle.std.proofs.lemmas.Bool.{eqb-true, eq-eqb}
use Rattle.std.proofs.lemmas.List.{take_at, drop_at, length-append, length-drop, append-nil, append_cancel_left, nil_from_length}
use Rattle.mg_block.specs.declared.pair.NotABlock.{NotABlock}
use Rattle.mg_block.specs.declared.pair.Pair.{Pair}
use Rattle.mg_block.specs.Builder.{Holds}
use Rattle.mg_block.specs.Block.{shared_len, item_of, block_of, Follows, IsBlock, Begins, BreaksAt, NextItem}
use Rattle.mg_block.specs.View.{pairs_of, last_pair}
use Rattle.mg_block.specs.Cursor.{Reading, read_of, StandsBehind, Advances, GoesOn}
use Rattle.mg_block.proofs.Spelling.{pair_from, pairs_of-block_of, Begins-push, NextItem-from_Begins, last_pair_after-push, items_after-push, length-item_of, front_of_block, one_list, RiseAfter-push, Begins-front, BreaksAt-no_block}

-- where the rest begins, the block of the pairs ends
pub Begins-at : (bytes : List ℕ) (pairs : List Pair) (rest : List ℕ) → Begins bytes pairs rest → length (block_of pairs) ≡ length bytes - length rest
Begins-at bytes pairs rest b = omega (arith, ap length b.spelling, length-append (block_of pairs) rest)

pub read_of-Begins : (bytes : List ℕ) (pairs : List Pair) (rest : List ℕ) → Begins bytes pairs rest → read_of bytes rest ≡ pairs
read_of-Begins bytes pairs rest b =
    let front : take (length bytes - length rest) bytes ≡ block_of pairs =
    ap (λ (t : List ℕ). take (length bytes - length rest) t) b.spelling ∙ take_at (block_of pairs) rest (length bytes - length rest) (Begins-at bytes pairs rest b) in
    ap pairs_of front ∙ pairs_of-block_of pairs

pub Begins-drop : (bytes : List ℕ) (pairs : List Pair) (rest : List ℕ) → Begins bytes pairs rest → drop (length bytes - length rest) bytes ≡ rest
Begins-drop bytes pairs rest b =
    ap (λ (t : List ℕ). drop (length bytes - length rest) t) b.spelling ∙ drop_at (block_of pairs) rest (length bytes - length rest) (Begins-at bytes pairs rest b)

pub Begins-none : (bytes : List ℕ) → Begins bytes [] bytes
Begins-none bytes = record { rising = tt; spelling = refl }

pub read_of-none : (bytes : List ℕ) → read_of bytes bytes ≡ []
read_of-none bytes = read_of-Begins bytes [] bytes (Begins-none bytes)

pub StandsBehind-none : (bytes : List ℕ) → StandsBehind bytes (read_of bytes bytes) bytes [] []
StandsBehind-none bytes = rw (read_of-none bytes) (record { begins = Begins-none bytes; last_key = refl; last_payload = refl })

-- behind the pairs and one item more
pub Begins-next : (bytes : List ℕ) (read : List Pair) (rest key : List ℕ) (pair : Pair) (after : List ℕ) → Begins bytes read rest → key ≡ (last_pair read).key → NextItem key rest pair after → Begins bytes (read ++ pair ∷ []) after
Begins-next bytes read rest key pair after b k next =
    let moved : NextItem (last_pair read).key rest pair after = subst (λ (l : List ℕ). NextItem l rest pair after) k next in
    Begins-push bytes read pair after (subst (λ (t : List ℕ). Begins bytes read t) moved.spelling b) moved.follows

pub StandsBehind-next : (bytes : List ℕ) (read : List Pair) (rest key payload : List ℕ) (pair : Pair) (after : List ℕ) → StandsBehind bytes read rest key payload → NextItem key rest pair after → StandsBehind bytes (read_of bytes after) after pair.key pair.payload
StandsBehind-next bytes read rest key payload pair after s next =
    let b = Begins-next bytes read rest key pair after s.begins s.last_key next in
    let last : last_pair (read ++ pair ∷ []) ≡ pair = last_pair_after-push (pair_from [] []) read pair in
    let now : StandsBehind bytes (read ++ pair ∷ []) after pair.key pair.payload = record { begins = b; last_key = sym (ap (λ (p : Pair). p.key) last); last_payload = sym (ap (λ (p : Pair). p.payload) last) } in
    subst (λ (ps : List Pair). StandsBehind bytes ps after pair.key pair.payload) (sym (read_of-Begins bytes (read ++ pair ∷ []) after b)) now

-- where no item follows, the bytes break
pub BreaksAt-from_none : (bytes : List ℕ) (read : List Pair) (rest key : List ℕ) → Begins bytes read rest → key ≡ (last_pair read).key → 0 < length rest → ((pair : Pair) (after : List ℕ) → NextItem key rest pair after → ⊥) → BreaksAt bytes read (length bytes - length rest)
BreaksAt-from_none bytes read rest key b k more none = record {
  begins = subst (λ (t : List ℕ). Begins bytes read t) (sym (Begins-drop bytes read rest b)) b;
  more = omega (arith, ap length b.spelling, length-append (block_of read) rest);
  no_item = λ pair after longer. none pair after (subst (λ (l : List ℕ). NextItem l rest pair after) (sym k) (NextItem-from_Begins bytes read rest pair after b longer));
}

-- ---- pairs that are left

pub IsBlock-from_end : (bytes : List ℕ) (read : List Pair) → Begins bytes read [] → IsBlock bytes read
IsBlock-from_end bytes read b = record { rising = b.rising; spelling = b.spelling ∙ append-nil (block_of read) }

pub Begins-whole : (bytes : List ℕ) (pairs : List Pair) → IsBlock bytes pairs → Begins bytes pairs []
Begins-whole bytes pairs b = record { rising = b.rising; spelling = b.spelling ∙ sym (append-nil (block_of pairs)) }

abbrev pub reading : List ℕ → List ℕ → Reading
reading bytes rest = record { bytes = bytes; read = read_of bytes rest }

pub GoesOn-at_end : (bytes rest key payload : List ℕ) → StandsBehind bytes (read_of bytes rest) rest key payload → rest ≡ [] → (left : List Pair) → IsBlock bytes (read_of bytes rest ++ left) → GoesOn (reading bytes rest) left (Ok false) (reading bytes rest)
GoesOn-at_end bytes rest key payload s e [] b = refl
GoesOn-at_end bytes rest key payload s e (pair ∷ left) b =
    let read = read_of bytes rest in
    let whole : IsBlock bytes read = IsBlock-from_end bytes read (subst (λ (t : List ℕ). Begins bytes read t) e s.begins) in
    absurd (omega (arith, ap length (one_list bytes read (read ++ pair ∷ left) whole b), length-append read (pair ∷ left)))

pub GoesOn-at_break : (bytes rest : List ℕ) (at : ℕ) → BreaksAt bytes (read_of bytes rest) at → (left : List Pair) → IsBlock bytes (read_of bytes rest ++ left) → (result : Result Bool NotABlock) (new : Reading) → GoesOn (reading bytes rest) left result new
GoesOn-at_break bytes rest at breaks left b result new = absurd (BreaksAt-no_block bytes (read_of bytes rest) left at breaks b)

pub Advances-next : (bytes rest key payload : List ℕ) → StandsBehind bytes (read_of bytes rest) rest key payload → (pair : Pair) (after : List ℕ) → NextItem key rest pair after → Advances (reading bytes rest) (reading bytes after)
Advances-next bytes rest key payload s pair after next =
    let read = read_of bytes rest in
    let b = Begins-next bytes read rest key pair after s.begins s.last_key next in
    let now : read_of bytes after ≡ read ++ pair ∷ [] = read_of-Begins bytes (read ++ pair ∷ []) after b in
    record { bytes = refl; pair = pair; read = now; rest = after; begins = subst (λ (ps : List Pair). Begins bytes ps after) (sym now) b }

cons_heads : (first pair : Pair) (more left : List Pair) → first ∷ more ≡ pair ∷ left → first ≡ pair
cons_heads first pair more left e = cc

pub GoesOn-next : (bytes rest key payload : List ℕ) → StandsBehind bytes (read_of bytes rest) rest key payload → (pair : Pair) (after : List ℕ) → NextItem key rest pair after
    → (left : List Pair) → IsBlock bytes (read_of bytes rest ++ left) → GoesOn (reading bytes rest) left (Ok true) (reading bytes after)
GoesOn-next bytes rest key payload s pair after next [] b =
    let read = read_of bytes rest in
    let rest-is : rest ≡ [] = append_cancel_left (block_of read) rest [] (sym s.begins.spelling ∙ (Begins-front bytes read [] b).spelling) in
    absurd (omega (arith, ap length (sym rest-is ∙ next.spelling), length-append (item_of key pair) after, length-item_of key pair))
GoesOn-next bytes rest key payload s pair after next (first ∷ left) b =
    let read = read_of bytes rest in
    let longer = Begins-next bytes read rest key pair after s.begins s.last_key next in
    let now : read_of bytes after ≡ read ++ pair ∷ [] = read_of-Begins bytes (read ++ pair ∷ []) after longer in
    let front = front_of_block bytes (read ++ first ∷ left) (read ++ pair ∷ []) after b longer in
    let tails : first ∷ left ≡ pair ∷ front.0 = append_cancel_left read (first ∷ left) (pair ∷ front.0) (front.1 ∙ append_assoc read (pair ∷ []) front.0) in
    (refl, now ∙ ap (λ (p : Pair). read ++ p ∷ []) (sym (cons_heads first pair left front.0 tails)))

-- ---- a builder

pub pairs_of-IsBlock : (bytes : List ℕ) (pairs : List Pair) → IsBlock bytes pairs → pairs_of bytes ≡ pairs
pairs_of-IsBlock bytes pairs b = ap pairs_of b.spelling ∙ pairs_of-block_of pairs

pub Holds-from_IsBlock : (bytes key : List ℕ) (pairs : List Pair) → IsBlock bytes pairs → key ≡ (last_pair pairs).key → Holds bytes key (pairs_of bytes)
Holds-from_IsBlock bytes key pairs b k =
    subst (λ (ps : List Pair). Holds bytes key ps) (sym (pairs_of-IsBlock bytes pairs b)) (record { block = b; last_key = k })

IsBlock-none : IsBlock [] []
IsBlock-none = record { rising = tt; spelling = refl }

pub pairs_of-none : pairs_of [] ≡ []
pairs_of-none = pairs_of-IsBlock [] [] IsBlock-none

pub Holds-none : (bytes key : List ℕ) → bytes ≡ [] → key ≡ [] → Holds bytes key (pairs_of bytes)
Holds-none bytes key b k =
    subst (λ (t : List ℕ). Holds t key (pairs_of t)) (sym b) (Holds-from_IsBlock [] key [] IsBlock-none k)

pub IsBlock-push : (bytes key : List ℕ) (pairs : List Pair) (pair : Pair) → Holds bytes key pairs → Follows (last_pair pairs).key pair → IsBlock (bytes ++ item_of key pair) (pairs ++ pair ∷ [])
IsBlock-push bytes key pairs pair h f = record {
  rising = RiseAfter-push (pair_from [] []) pairs pair h.block.rising f;
  spelling = ap (λ (t : List ℕ). t ++ item_of key pair) h.block.spelling ∙ ap (λ (k : List ℕ). block_of pairs ++ item_of k pair) h.last_key ∙ sym (items_after-push (pair_from [] []) pairs pair);
}

pub pairs_of-push : (bytes key : List ℕ) (pairs : List Pair) (pair : Pair) → Holds bytes key pairs → Follows (last_pair pairs).key pair → pairs_of (bytes ++ item_of key pair) ≡ pairs ++ pair ∷ []
pairs_of-push bytes key pairs pair h f = pairs_of-IsBlock (bytes ++ item_of key pair) (pairs ++ pair ∷ []) (IsBlock-push bytes key pairs pair h f)

pub Holds-push : (bytes key : List ℕ) (pairs : List Pair) (pair : Pair) → Holds bytes key pairs → Follows (last_pair pairs).key pair → Holds (bytes ++ item_of key pair) pair.key (pairs_of (bytes ++ item_of key pair))
Holds-push bytes key pairs pair h f =
    Holds-from_IsBlock (bytes ++ item_of key pair) pair.key (pairs ++ pair ∷ []) (IsBlock-push bytes key pairs pair h f) (sym (ap (λ (p : Pair). p.key) (last_pair_after-push (pair_from [] []) pairs pair)))

-- the length of a block with one pair more
pub length-push : (bytes key : List ℕ) (pairs : List Pair) (pair : Pair) → Holds bytes key pairs → length (block_of (pairs ++ pair ∷ [])) ≡ length bytes + length (item_of key pair)
length-push bytes key pairs pair h =
    let spelling : block_of (pairs ++ pair ∷ []) ≡ bytes ++ item_of key pair = items_after-push (pair_from [] []) pairs pair ∙ ap (λ (k : List ℕ). block_of pairs ++ item_of k pair) (sym h.last_key) ∙ ap (λ (t : List ℕ). t ++ item_of key pair) (sym h.block.spelling) in
    ap length spelling ∙ length-append bytes (item_of key pair)

pub length-item_of-pair : (previous : List ℕ) (pair : Pair) → length (item_of previous pair) ≡ 3 + (length pair.key - shared_len previous pair.key) + length pair.payload
unfolding item_of
length-item_of-pair previous pair =
    let s = shared_len previous pair.key in
    omega (arith, length-append (drop s pair.key) (length pair.payload ∷ pair.payload), length-drop s pair.key)

-- a builder is empty where its bytes are
pub is_empty_by_bytes : (bytes key : List ℕ) (result : Bool) → Holds bytes key (pairs_of bytes) → result ≡ eqb (length bytes) 0 → IsTrue result ↔ (pairs_of bytes ≡ [])
is_empty_by_bytes bytes key result h e = (
  λ t. ap pairs_of (nil_from_length bytes (eqb-true _ _ (sym e ∙ t))) ∙ pairs_of-none,
  λ none. e ∙ eq-eqb (length bytes) 0 (ap length h.block.spelling ∙ ap (λ (ps : List Pair). length (block_of ps)) none),
)
