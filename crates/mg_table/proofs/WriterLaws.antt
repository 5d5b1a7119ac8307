-- A table in writing, with one entry more.
use Rattle.std.proofs.Common.{◌≡◌, ◌≢◌, ℕ, ◌+◌, ◌<◌, ◌≤◌, inl, inr, List, [], ◌∷◌, ◌++◌, length, map, Option, refl, sym, ap, subst, ◌∙◌, append_assoc, arith}
use Rattle.std.proofs.lemmas.List.{append-nil, length-append, map-append}
use Rattle.mg_block.specs.Block.{block_of, item_of, items_after, shared_len, Follows, Precedes}
use Rattle.mg_block.specs.View.{last_pair}
use Rattle.mg_block.specs.declared.pair.Pair.{Pair}
use Rattle.mg_block.proofs.Loops.{shared_len-nil}
use Rattle.mg_block.proofs.Order.{shared_len-comm}
use Rattle.mg_block.proofs.Spelling.{last_pair_after-push}
use Rattle.mg_block.proofs.Views.{length-item_of-pair}
use Rattle.mg_bloom.specs.Bloom.{key_words, AddsWords}
use Rattle.mg_frame.proofs.SplitLaws.{length-counted}
use Rattle.mg_types.specs.Bytes.{IsKey}
use Rattle.mg_types.specs.Items.{IsEntry}
use Rattle.mg_types.specs.declared.items.Entry.{Entry}
use Rattle.mg_sealed.specs.Filling.{AreFilled, items_of}
use Rattle.mg_sealed.proofs.FilledLaws.{alone-filled, filled-closed, filled-more, items_of-push, push-some}
use Rattle.mg_indexed.specs.Index.{first_after}
use Rattle.mg_indexed.specs.TableKeys.{table_keys, MayFollow}
use Rattle.mg_indexed.specs.Writing.{index_length, Closed}
use Rattle.mg_indexed.specs.declared.handle.BlockHandle.{BlockHandle}
use Rattle.mg_indexed.proofs.HandleLaws.{first_after-push}
use Rattle.mg_indexed.proofs.WritingLaws.{index_length-push}
use Rattle.mg_table.specs.Entries.{block_body, first_key, pair_of, payload_of}
use Rattle.mg_table.specs.Table.{hashed_keys}
use Rattle.mg_table.specs.Writing.{Fills, HasBlocks, HasRoom, IsBegun, IsOpen, IsPut, IsWriting, Writing}
use Rattle.mg_table.proofs.EntryLaws.{above-none, last_of-behind, none-mapped, one-fits, sizes_of-push, AreEntries-push}
use Rattle.mg_table.proofs.FilterLaws.{HasBitsOf-put}
use Rattle.mg_table.proofs.LoadingLaws.{above_both}

-- ---- room in the open block

filled-stays : (blocks : List (List Entry)) (last : List Entry) (entry : Entry) → Fills blocks last
    → (last ≢ [] → length (block_body (last ++ entry ∷ [])) ≤ 4096) → AreFilled block_body (blocks ++ (last ++ entry ∷ []) ∷ [])
filled-stays blocks [] entry fills fits = elim fills [
  | inl none ↦ rw none.0 (alone-filled block_body entry)
  | inr some ↦ absurd (some.0 refl)
]
filled-stays blocks (first ∷ last) entry fills fits = elim fills [
  | inl none ↦ absurd (let e = none.1 in cc)
  | inr some ↦ filled-more block_body blocks (first ∷ last) entry some.1 (record {
    some = push-some (first ∷ last) entry;
    small = inl (fits some.0);
  })
]

-- ---- the open block

-- a block of one entry has 17 bytes at least
one-least : (pair : Pair) → IsKey pair.key → length pair.payload ≡ 13 → 17 ≤ length (block_of (pair ∷ []))
one-least pair key payload =
    let none : shared_len [] pair.key ≡ 0 = shared_len-comm [] pair.key ∙ shared_len-nil pair.key in
    omega (arith, ap length (append-nil (item_of [] pair)), length-item_of-pair [] pair, none, key.0, payload)

more-bytes : (previous : List ℕ) (pairs : List Pair) (pair : Pair) → length (items_after previous pairs) ≤ length (items_after previous (pairs ++ pair ∷ []))
more-bytes previous [] pair = omega arith
more-bytes previous (p ∷ pairs) pair =
    omega (
      arith,
      length-append (item_of previous p) (items_after p.key pairs),
      length-append (item_of previous p) (items_after p.key (pairs ++ pair ∷ [])),
      more-bytes p.key pairs pair,
    )

pub begun-as : (index index' : List (BlockHandle (List ℕ))) (block block' : List Pair) (first first' : List ℕ) → index' ≡ index → block' ≡ block → first' ≡ first
    → IsBegun index block first → IsBegun index' block' first'
begun-as index index' block block' first first' same pairs key is =
    subst (λ (hs : List (BlockHandle (List ℕ))). IsBegun hs block' first') (sym same)
    (subst (λ (ps : List Pair). IsBegun index ps first') (sym pairs) (subst (λ (k : List ℕ). IsBegun index block k) (sym key) is))

-- a block that has a pair is open
pub opened : (index : List (BlockHandle (List ℕ))) (block : List Pair) (first : List ℕ) → IsBegun index block first → block ≢ [] → IsOpen index block first
opened index block first (inl none) some = absurd (some none.0)
opened index block first (inr held) some = held.1

-- an open block stays open with one pair more
pub stays-open : (index : List (BlockHandle (List ℕ))) (block : List Pair) (first : List ℕ) (pair : Pair) → IsOpen index block first → Follows (last_pair block).key pair
    → length (block_of (block ++ pair ∷ [])) ≤ 4096 → IsOpen index (block ++ pair ∷ []) first
stays-open index block first pair held follows fits =
    let last : pair.key ≡ (last_pair (block ++ pair ∷ [])).key = ap (λ (p : Pair). p.key) (sym (last_pair_after-push (record { key = []; payload = [] }) block pair)) in
    record {
      least = omega (arith, held.least, more-bytes [] block pair);
      most = fits;
      key = held.key;
      follows = held.follows;
      last = inr (subst (λ (k : List ℕ). Precedes first k) last (above_both first (last_pair block).key pair.key held.last follows.rises));
      room = held.room;
    }

-- the handles of the closed blocks, once the open one is closed too
pub record IsClosing (old : List (BlockHandle (List ℕ))) (block : List Pair) (first : List ℕ) (new : List (BlockHandle (List ℕ))) : Type 0 where
  pub none : block ≡ [] → new ≡ old
  pub some : block ≢ [] → (handle : BlockHandle (List ℕ)) × (handle.first ≡ first) × (new ≡ old ++ handle ∷ [])

-- a block of one pair is open, where the one before it is closed
pub begins-open : (old new : List (BlockHandle (List ℕ))) (block : List Pair) (first : List ℕ) (pair : Pair) → IsBegun old block first → IsClosing old block first new
    → Follows (last_pair block).key pair → IsKey pair.key → length pair.payload ≡ 13 → HasRoom old block first pair
    → (block ≢ [] → 4096 < length (block_of (block ++ pair ∷ []))) → IsOpen new (pair ∷ []) pair.key
begins-open old new block first pair begun closing follows key payload room full = record {
  least = one-least pair key payload;
  most = one-fits pair key.1 payload;
  key = key;
  follows = elim begun [
    | inl none ↦ subst (λ (hs : List (BlockHandle (List ℕ))). MayFollow (first_after [] hs) pair.key) (sym (closing.none none.0 ∙ none.1))
        (above-none (last_pair block).key pair.key follows.rises key.1, key.1)
    | inr some ↦
        (let more = closing.some some.0 in
        let last : first_after [] new ≡ first = ap (first_after []) more.2 ∙ first_after-push [] old more.0 ∙ more.1 in
        subst (λ (k : List ℕ). MayFollow k pair.key) (sym last) (above_both first (last_pair block).key pair.key some.1.last follows.rises, key.1))
  ];
  last = inl refl;
  room = elim begun [
    | inl none ↦ omega (arith, room.0 none.0, ap (index_length table_keys) (closing.none none.0))
    | inr some ↦
        (let more = closing.some some.0 in
        omega (
          arith,
          room.1 some.0 (full some.0),
          ap (index_length table_keys) more.2,
          index_length-push table_keys old more.0,
          length-counted 1 more.0.first,
          ap length more.1,
        ))
  ];
}

-- ---- an entry is put

first-more : (last : List Entry) (entry : Entry) (block : List Pair) (first : List ℕ) → block ≡ map pair_of last → block ≢ [] → (last ≢ [] → first ≡ first_key last)
    → first ≡ first_key (last ++ entry ∷ [])
first-more [] entry block first is begun was = absurd (begun is)
first-more (x ∷ last) entry block first is begun was = was (λ (e : x ∷ last ≡ []). absurd cc)

-- the open block has room for it
pub put-stays : {D : Type 0} (drafted : D → Option (List ℕ)) (closed : Closed D (List ℕ)) (block : List Pair) (first : List ℕ) (blocks : List (List Entry)) (last : List Entry) (entry : Entry)
    → HasBlocks drafted closed blocks → block ≡ map pair_of last → block ≢ [] → (last ≢ [] → first ≡ first_key last) → Fills blocks last
    → length (block_of (block ++ pair_of entry ∷ [])) ≤ 4096 → IsPut drafted closed (block ++ pair_of entry ∷ []) first blocks last entry
put-stays drafted closed block first blocks last entry has is begun was fills fits = record {
  now = blocks;
  opened = last ++ entry ∷ [];
  closed_are = has;
  block_is = ap (λ (ps : List Pair). ps ++ pair_of entry ∷ []) is ∙ sym (map-append pair_of last (entry ∷ []));
  first_is = first-more last entry block first is begun was;
  all = sym (append_assoc (items_of blocks) last (entry ∷ []));
  some = push-some last entry;
  filled = filled-stays blocks last entry fills (λ some. rw (map-append pair_of last (entry ∷ [])) (rw is at fits));
}

-- it begins a block
pub put-begun : {D : Type 0} (drafted : D → Option (List ℕ)) (old new : Closed D (List ℕ)) (block : List Pair) (blocks : List (List Entry)) (last : List Entry) (entry : Entry)
    → HasBlocks drafted old blocks → block ≡ map pair_of last → Fills blocks last → (block ≡ [] → new ≡ old) → (block ≢ [] → HasBlocks drafted new (blocks ++ last ∷ []))
    → (block ≢ [] → 4096 < length (block_of (block ++ pair_of entry ∷ []))) → IsPut drafted new (pair_of entry ∷ []) entry.key blocks last entry
put-begun {D} drafted old new block blocks last entry has is fills same closed full = elim fills [
  | inl none ↦ record {
    now = [];
    opened = entry ∷ [];
    closed_are = subst (HasBlocks drafted new) none.0 (subst (λ (c : Closed D (List ℕ)). HasBlocks drafted c blocks) (sym (same (is ∙ ap (map pair_of) none.1))) has);
    block_is = refl;
    first_is = refl;
    all = sym (ap (λ bs. (items_of bs ++ last) ++ entry ∷ []) none.0 ∙ ap (λ es. es ++ entry ∷ []) none.1);
    some = λ (e : entry ∷ [] ≡ []). absurd cc;
    filled = alone-filled block_body entry;
  }
  | inr some ↦
      (let begun : block ≢ [] = λ none. some.0 (none-mapped last (sym is ∙ none)) in
      let more : 4096 < length (block_body (last ++ entry ∷ [])) = rw (map-append pair_of last (entry ∷ [])) (rw is at (full begun)) in
      record {
        now = blocks ++ last ∷ [];
        opened = entry ∷ [];
        closed_are = closed begun;
        block_is = refl;
        first_is = refl;
        all = ap (λ xs. xs ++ entry ∷ []) (items_of-push blocks last);
        some = λ (e : entry ∷ [] ≡ []). absurd cc;
        filled = filled-closed block_body blocks last entry some.1 more;
      })
]

-- ---- an entry more

rises-behind : (blocks : List (List Entry)) (last entries : List Entry) (block : List Pair) → Fills blocks last → items_of blocks ++ last ≡ entries → block ≡ map pair_of last
    → last_pair (map pair_of entries) ≡ last_pair block
rises-behind blocks [] entries block fills parts is = elim fills [
  | inl none ↦ ap (λ es. last_pair (map pair_of es)) (sym parts ∙ ap (λ bs. items_of bs ++ []) none.0) ∙ ap last_pair (sym is)
  | inr some ↦ absurd (some.0 refl)
]
rises-behind blocks (first ∷ last) entries block fills parts is =
    ap (λ es. last_pair (map pair_of es)) (sym parts) ∙ last_of-behind (items_of blocks) first last ∙ ap last_pair (sym is)

-- what a push changes of what a writer keeps
pub record Pushes {D : Type 0} (old new : Writing D) (entry : Entry) : Type 0 where
  pub filter : AddsWords old.filter new.filter (key_words entry.key)
  pub count : new.count ≡ old.count + 1
  pub sizes : new.sizes ≡ old.sizes + entry.size

pub pushed : {D : Type 0} (drafted : D → Option (List ℕ)) (old new : Writing D) (entry : Entry) (entries : List Entry) (blocks : List (List Entry)) (last : List Entry)
    → IsWriting drafted old entries blocks last → IsPut drafted new.closed new.block new.first blocks last entry → Pushes old new entry → IsEntry entry
    → length entry.key ≤ 250 → length (payload_of entry) ≤ 255 → Precedes (last_pair old.block).key entry.key
    → (all : List (List Entry)) × (opened : List Entry) × IsWriting drafted new (entries ++ entry ∷ []) all opened
pushed drafted old new entry entries blocks last is put pushes fits key payload rises =
    let behind = rises-behind blocks last entries old.block is.filled is.parts is.block in
    let follows : Follows (last_pair (map pair_of entries)).key (pair_of entry) = record {
      rises = rw behind rises;
      key = key;
      payload = payload;
    } in (
      put.now,
      put.opened,
      record {
        closed = put.closed_are;
        block = put.block_is;
        first = λ some. put.first_is;
        filter = HasBitsOf-put old.filter new.filter (hashed_keys entries) (hashed_keys (entries ++ entry ∷ [])) (key_words entry.key) is.filter pushes.filter
            (map-append (λ (e : Entry). key_words e.key) entries (entry ∷ []));
        count = omega (arith, pushes.count, is.count, length-append entries (entry ∷ []));
        sizes = pushes.sizes ∙ ap (λ n. n + entry.size) is.sizes ∙ sym (sizes_of-push entries entry);
        rising = AreEntries-push entries entry is.rising fits follows;
        parts = put.all ∙ ap (λ es. es ++ entry ∷ []) is.parts;
        filled = inr (put.some, put.filled);
      },
    )
