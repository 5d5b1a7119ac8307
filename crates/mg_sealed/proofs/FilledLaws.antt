-- Blocks that are filled, with one item or one block more.
use Rattle.std.proofs.Common.{◌≡◌, ◌≢◌, ℕ, ◌<◌, List, [], ◌∷◌, ◌++◌, length, refl, sym, ap, ◌∙◌, inr, append_assoc}
use Rattle.std.proofs.lemmas.List.{append-nil}
use Rattle.mg_sealed.specs.Filling.{Fits, IsClosed, AreFilled, items_of}

pub push-some : {T : Type 0} (xs : List T) (item : T) → xs ++ item ∷ [] ≢ []
push-some [] item e = cc
push-some (x ∷ xs) item e = cc

-- ---- the items of blocks

pub items_of-append : {T : Type 0} (blocks more : List (List T)) → items_of (blocks ++ more) ≡ items_of blocks ++ items_of more
items_of-append [] more = refl
items_of-append (block ∷ blocks) more = ap (λ xs. block ++ xs) (items_of-append blocks more) ∙ sym (append_assoc block (items_of blocks) (items_of more))

pub items_of-push : {T : Type 0} (blocks : List (List T)) (last : List T) → items_of (blocks ++ last ∷ []) ≡ items_of blocks ++ last
items_of-push blocks last = items_of-append blocks (last ∷ []) ∙ ap (λ xs. items_of blocks ++ xs) (append-nil last)

-- ---- the last block

-- no block is empty
pub last_is_some : {T : Type 0} (block_of : List T → List ℕ) (blocks : List (List T)) (last : List T) → AreFilled block_of (blocks ++ last ∷ []) → last ≢ []
last_is_some block_of [] last filled = filled.0.some
last_is_some block_of (block ∷ blocks) last filled = last_is_some block_of blocks last filled.2

closed_by_first : {T : Type 0} (block_of : List T → List ℕ) (block : List T) (blocks : List (List T)) (last : List T) (item : T) → last ≢ []
    → IsClosed block_of block (blocks ++ last ∷ []) → IsClosed block_of block (blocks ++ (last ++ item ∷ []) ∷ [])
closed_by_first block_of block [] [] item some closed = absurd (some refl)
closed_by_first block_of block [] (x ∷ last) item some closed = closed
closed_by_first block_of block ([] ∷ blocks) last item some closed = tt
closed_by_first block_of block ((y ∷ ys) ∷ blocks) last item some closed = closed

-- the last block grows by an item with which it fits
pub filled-more : {T : Type 0} (block_of : List T → List ℕ) (blocks : List (List T)) (last : List T) (item : T) → AreFilled block_of (blocks ++ last ∷ [])
    → Fits block_of (last ++ item ∷ []) → AreFilled block_of (blocks ++ (last ++ item ∷ []) ∷ [])
filled-more block_of [] last item filled fits = (fits, tt, tt)
filled-more block_of (block ∷ blocks) last item filled fits =
    (filled.0, closed_by_first block_of block blocks last item (last_is_some block_of blocks last filled.2) filled.1, filled-more block_of blocks last item filled.2 fits)

-- ---- a block more

alone-fits : {T : Type 0} (block_of : List T → List ℕ) (item : T) → Fits block_of (item ∷ [])
alone-fits block_of item = record { some = push-some [] item; small = inr refl }

pub alone-filled : {T : Type 0} (block_of : List T → List ℕ) (item : T) → AreFilled block_of ((item ∷ []) ∷ [])
alone-filled block_of item = (alone-fits block_of item, tt, tt)

pub closed_still : {T : Type 0} (block_of : List T → List ℕ) (block : List T) (blocks more : List (List T)) → blocks ≢ []
    → IsClosed block_of block blocks → IsClosed block_of block (blocks ++ more)
closed_still block_of block [] more some closed = absurd (some refl)
closed_still block_of block ([] ∷ blocks) more some closed = tt
closed_still block_of block ((y ∷ ys) ∷ blocks) more some closed = closed

-- an item for which the last block has no room begins another
pub filled-closed : {T : Type 0} (block_of : List T → List ℕ) (blocks : List (List T)) (last : List T) (item : T) → AreFilled block_of (blocks ++ last ∷ [])
    → 4096 < length (block_of (last ++ item ∷ [])) → AreFilled block_of ((blocks ++ last ∷ []) ++ (item ∷ []) ∷ [])
filled-closed block_of [] last item filled full = (filled.0, full, alone-filled block_of item)
filled-closed block_of (block ∷ blocks) last item filled full =
    (filled.0, closed_still block_of block (blocks ++ last ∷ []) ((item ∷ []) ∷ []) (push-some blocks last) filled.1, filled-closed block_of blocks last item filled.2 full)
