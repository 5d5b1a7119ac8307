-- Pairs listed one by one.
use Rattle.std.proofs.Common.{◌≡◌, ℕ, ◌+◌, ◌<◌, ◌≤◌, List, [], ◌∷◌, ◌++◌, length, get_or, take, drop, sym, ap, subst, ◌∙◌, arith}
use Rattle.std.proofs.lemmas.List.{length-append, take-append-drop, take_more}
use Rattle.mg_block.specs.declared.pair.Pair.{Pair}
use Rattle.mg_block.specs.Block.{block_of, Follows, RiseAfter, AreRising, IsBlock, Begins, BreaksAt}
use Rattle.mg_block.specs.View.{last_pair}
use Rattle.mg_block.specs.Cursor.{Reading, Advances}
use Rattle.mg_block.proofs.Spelling.{pair_from, pair_is, length-items_after, RiseAfter-last, RiseAfter-front, last_pair_after-push, one_list, BreaksAt-not_block}
use Rattle.mg_block.proofs.Views.{Begins-none}

-- the pairs that the cursor has read are listed
pub record Listed (block : List ℕ) (cursor : Reading) (pairs : List Pair) : Type 0 where
  pub bytes : cursor.bytes ≡ block
  pub read : cursor.read ≡ pairs
  pub rest : List ℕ
  pub begins : Begins block pairs rest

pub Listed-none : (block : List ℕ) (cursor : Reading) (pairs : List Pair) → cursor.bytes ≡ block → cursor.read ≡ [] → pairs ≡ [] → Listed block cursor pairs
Listed-none block cursor pairs b r p = record {
  bytes = b;
  read = r ∙ sym p;
  rest = block;
  begins = subst (λ (ps : List Pair). Begins block ps block) (sym p) (Begins-none block);
}

pub Listed-more : (block : List ℕ) (old new : Reading) (pairs more : List Pair) (pair : Pair) → Listed block old pairs → Advances old new → pair.key ≡ (last_pair new.read).key → pair.payload ≡ (last_pair new.read).payload → more ≡ pairs ++ pair ∷ [] → Listed block new more
Listed-more block old new pairs more pair h a key payload m =
    let last : last_pair new.read ≡ a.pair = ap last_pair a.read ∙ last_pair_after-push (pair_from [] []) old.read a.pair in
    let same : pair ≡ a.pair = pair_is pair.key a.pair.key pair.payload a.pair.payload (key ∙ ap (λ (p : Pair). p.key) last) (payload ∙ ap (λ (p : Pair). p.payload) last) in
    let read : new.read ≡ more = a.read ∙ ap (λ (ps : List Pair). ps ++ a.pair ∷ []) h.read ∙ ap (λ (p : Pair). pairs ++ p ∷ []) (sym same) ∙ sym m in
    let bytes : new.bytes ≡ block = a.bytes ∙ h.bytes in
    record { bytes = bytes; read = read; rest = a.rest; begins = subst (λ (ps : List Pair). Begins block ps a.rest) read (subst (λ (b : List ℕ). Begins b new.read a.rest) bytes a.begins) }

pub Listed-bound : (block : List ℕ) (cursor : Reading) (pairs : List Pair) → Listed block cursor pairs → length pairs ≤ length block
Listed-bound block cursor pairs h = omega (arith, ap length h.begins.spelling, length-append (block_of pairs) h.rest, length-items_after [] pairs)

-- each pair of a rising list may stand behind those before it
pub Follows-at : (pairs : List Pair) (i : ℕ) (d : Pair) → AreRising pairs → i < length pairs → Follows (last_pair (take i pairs)).key (get_or pairs i d)
Follows-at pairs i d h lt =
    let split : take (i + 1) pairs ++ drop (i + 1) pairs ≡ pairs = take-append-drop (i + 1) pairs in
    let front : RiseAfter [] (take (i + 1) pairs) = RiseAfter-front (pair_from [] []) (take (i + 1) pairs) (drop (i + 1) pairs) (subst (λ (ps : List Pair). RiseAfter [] ps) (sym split) h) in
    RiseAfter-last (pair_from [] []) (take i pairs) (get_or pairs i d) (subst (λ (ps : List Pair). RiseAfter [] ps) (take_more pairs i d lt) front)

-- where the cursor ends, the pairs are those of the block
pub Listed-all : (block : List ℕ) (cursor : Reading) (pairs others : List Pair) → Listed block cursor pairs → IsBlock cursor.bytes cursor.read → IsBlock block others → pairs ≡ others
Listed-all block cursor pairs others h b o =
    sym h.read ∙ one_list block cursor.read others (subst (λ (bytes : List ℕ). IsBlock bytes cursor.read) h.bytes b) o

-- where it breaks, there is no block
pub Listed-no_block : (block : List ℕ) (cursor : Reading) (pairs others : List Pair) (at : ℕ) → Listed block cursor pairs → BreaksAt cursor.bytes cursor.read at → IsBlock block others → ⊥
Listed-no_block block cursor pairs others at h breaks o =
    BreaksAt-not_block block cursor.read at others (subst (λ (bytes : List ℕ). BreaksAt bytes cursor.read at) h.bytes breaks) o
