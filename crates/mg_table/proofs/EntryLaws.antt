-- Entries, with one more.
use Rattle.std.proofs.Common.{◌≡◌, ℕ, ◌+◌, ◌≤◌, inl, List, [], ◌∷◌, ◌++◌, length, map, refl, ap, ◌∙◌, arith}
use Rattle.std.proofs.lemmas.List.{append-nil, length-append, length-drop, map-append}
use Rattle.std.proofs.lemmas.List.Sums.{sum_by-append, sum_by-cons}
use Rattle.std.proofs.lemmas.List.Elements.{All-push}
use Rattle.mg_block.specs.Block.{block_of, item_of, shared_len, Follows, Precedes}
use Rattle.mg_block.specs.View.{last_pair, last_pair_after}
use Rattle.mg_block.specs.declared.pair.Pair.{Pair}
use Rattle.mg_block.proofs.Loops.{shared_len-nil}
use Rattle.mg_block.proofs.Order.{shared_len-comm, Extends-from_Precedes, Precedes-from_shared}
use Rattle.mg_block.proofs.Spelling.{RiseAfter-push}
use Rattle.mg_block.proofs.Views.{length-item_of-pair}
use Rattle.mg_frame.specs.BigEndian.{big_endian}
use Rattle.mg_frame.proofs.BigEndianLaws.{length-big_endian}
use Rattle.mg_table.specs.Entries.{flag, pair_of, payload_of, AreEntries}
use Rattle.mg_types.specs.Items.{IsEntry}
use Rattle.mg_table.specs.Table.{sizes_of}
use Rattle.mg_types.specs.declared.items.Entry.{Entry}

pub length-payload_of : (entry : Entry) → length (payload_of entry) ≡ 13
unfolding payload_of
length-payload_of entry =
    let front = big_endian 8 entry.seq ++ big_endian 4 entry.size in
    let gone = big_endian 1 (flag entry.gone) in
    length-append front gone
    ∙ omega (
      arith,
      length-append (big_endian 8 entry.seq) (big_endian 4 entry.size),
      length-big_endian 8 entry.seq,
      length-big_endian 4 entry.size,
      length-big_endian 1 (flag entry.gone),
    )

last-behind : (before : Pair) (pairs : List Pair) (pair : Pair) (more : List Pair) → last_pair_after before (pairs ++ pair ∷ more) ≡ last_pair_after pair more
last-behind before [] pair more = refl
last-behind before (first ∷ pairs) pair more = last-behind first pairs pair more

-- the last of entries is the last of those behind a front of them
pub last_of-behind : (entries : List Entry) (entry : Entry) (more : List Entry) → last_pair (map pair_of (entries ++ entry ∷ more)) ≡ last_pair (map pair_of (entry ∷ more))
last_of-behind entries entry more =
    ap last_pair (map-append pair_of entries (entry ∷ more))
    ∙ last-behind (record { key = []; payload = [] }) (map pair_of entries) (pair_of entry) (map pair_of more)

-- ---- sizes

pub sizes_of-none : sizes_of [] ≡ 0
sizes_of-none = refl

pub sizes_of-push : (entries : List Entry) (entry : Entry) → sizes_of (entries ++ entry ∷ []) ≡ sizes_of entries + entry.size
sizes_of-push entries entry =
    let one = sum_by-cons (λ (e : Entry). e.size) entry [] in
    sum_by-append (λ (e : Entry). e.size) entries (entry ∷ []) ∙ ap (λ n. sizes_of entries + n) (one ∙ omega (arith, sizes_of-none))

-- ---- keys

-- a key above another one is above the empty one
pub above-none : (key other : List ℕ) → Precedes key other → length other ≤ 250 → Precedes [] other
above-none key other is fits =
    let more = (Extends-from_Precedes key other is fits).more in
    let zero : shared_len [] other ≡ 0 = shared_len-comm [] other ∙ shared_len-nil other in
    Precedes-from_shared [] other (omega (arith, zero, length-drop (shared_len key other) other)) (inl zero)

-- one entry fits a block
pub one-fits : (pair : Pair) → length pair.key ≤ 250 → length pair.payload ≡ 13 → length (block_of (pair ∷ [])) ≤ 4096
one-fits pair key payload = omega (arith, ap length (append-nil (item_of [] pair)), length-item_of-pair [] pair)

pub none-mapped : (entries : List Entry) → map pair_of entries ≡ [] → entries ≡ []
none-mapped [] none = refl
none-mapped (entry ∷ entries) none = absurd cc

pub AreEntries-push : (entries : List Entry) (entry : Entry) → AreEntries entries → IsEntry entry → Follows (last_pair (map pair_of entries)).key (pair_of entry)
    → AreEntries (entries ++ entry ∷ [])
AreEntries-push entries entry are is follows = record {
  rising = rw (map-append pair_of entries (entry ∷ [])) (RiseAfter-push (record { key = []; payload = [] }) (map pair_of entries) (pair_of entry) are.rising follows);
  each = All-push IsEntry entries entry are.each is;
}
