-- The footer, the index and the filter of a table are those that a loader asks for.
use Rattle.std.proofs.Common.{true, ◌≡◌, ◌≢◌, ℕ, ◌+◌, ◌*◌, ◌/◌, ◌<◌, ◌≤◌, ◌^◌, ◌⊎◌, suc, List, [], ◌∷◌, ◌++◌, length, map, refl, sym, ap, ◌∙◌, subst, inl, inr, arith, append_assoc, Ok}
use Rattle.std.proofs.lemmas.List.{length-append, length-drop, length-map}
use Rattle.std.proofs.lemmas.List.Elements.{All-head, All-tail}
use Rattle.std.proofs.lemmas.List.Sums.{sum_by-cons}
use Rattle.std.specs.List.{All}
use Rattle.mg_block.specs.Block.{item_of, items_after, shared_len, Follows, Precedes, RiseAfter}
use Rattle.mg_block.proofs.Order.{Extends-from_Precedes, Precedes-trans}
use Rattle.mg_block.proofs.Spelling.{length-items_after}
use Rattle.mg_block.proofs.Views.{length-item_of-pair}
use Rattle.mg_bloom.specs.Bloom.{IsBodyLength}
use Rattle.mg_bloom.proofs.BloomLaws.{IsBodyLength-bits}
use Rattle.mg_frame.specs.Frame.{frame}
use Rattle.mg_frame.specs.Frames.{numbered_frames}
use Rattle.mg_frame.proofs.FrameLaws.{length-frame}
use Rattle.mg_types.specs.declared.names.FileId.{FileId}
use Rattle.mg_sealed.specs.Filling.{Fits, AreFilled, items_of}
use Rattle.mg_sealed.specs.Reading.{frame_body}
use Rattle.mg_sealed.proofs.WritingLaws.{numbered-more}
use Rattle.mg_sealed.proofs.WrittenLaws.{written_frame_is_read}
use Rattle.mg_table.specs.Entries.{block_body, first_key, pair_of}
use Rattle.mg_types.specs.Items.{IsEntry}
use Rattle.mg_table.specs.Filters.{IsFilterOf}
use Rattle.mg_indexed.specs.Footer.{footer_bytes, offset_of, IsFooter}
use Rattle.mg_indexed.specs.Loading.{IsIndexed}
use Rattle.mg_table.specs.Index.{frame_length, handles_from}
use Rattle.mg_indexed.specs.Index.{index_bytes, IsIndexFrom}
use Rattle.mg_indexed.specs.TableKeys.{table_keys}
use Rattle.mg_indexed.specs.Forms.{table_form, IsFrameLength}
use Rattle.mg_table.specs.Table.{footer_of, hashed_keys, sizes_of, table_bodies, IsTable, IsTableOf}
use Rattle.mg_types.specs.declared.items.Entry.{Entry}
use Rattle.mg_table.proofs.EntryLaws.{above-none, length-payload_of, one-fits}
use Rattle.mg_indexed.proofs.FieldLaws.{length-footer_bytes}
use Rattle.mg_indexed.proofs.HandleLaws.{least-index_bytes}
use Rattle.mg_indexed.proofs.IndexLaws.{length-handles_of}
use Rattle.mg_table.proofs.IndexLaws.{length-frames, total}

-- ---- entries that rise

-- the key of the last entry, or this one where there is none
last_key : List ℕ → List Entry → List ℕ
last_key key [] = key
last_key key (entry ∷ entries) = last_key entry.key entries

pub rise_front : (previous : List ℕ) (xs ys : List Entry) → RiseAfter previous (map pair_of (xs ++ ys)) → RiseAfter previous (map pair_of xs)
rise_front previous [] ys rise = tt
rise_front previous (x ∷ xs) ys rise = (rise.0, rise_front x.key xs ys rise.1)

rise_behind : (previous : List ℕ) (xs ys : List Entry) → RiseAfter previous (map pair_of (xs ++ ys)) → RiseAfter (last_key previous xs) (map pair_of ys)
unfolding last_key
rise_behind previous [] ys rise = rise
rise_behind previous (x ∷ xs) ys rise = rise_behind x.key xs ys rise.1

-- one key is another, or stands before it
abbrev pub IsUpTo : List ℕ → List ℕ → Type 0
IsUpTo key other = (key ≡ other) ⊎ Precedes key other

last_above : (key : List ℕ) (entries : List Entry) → RiseAfter key (map pair_of entries) → IsUpTo key (last_key key entries)
unfolding last_key
last_above key [] rise = inl refl
last_above key (entry ∷ entries) rise = elim (last_above entry.key entries rise.1) [
  | inl same ↦ inr (subst (λ (k : List ℕ). Precedes key k) same rise.0.rises)
  | inr above ↦ inr (Precedes-trans key entry.key (last_key entry.key entries) rise.0.rises above)
]

pub above_both : (key previous next : List ℕ) → IsUpTo key previous → Precedes previous next → Precedes key next
above_both key previous next (inl same) above = subst (λ (k : List ℕ). Precedes k next) (sym same) above
above_both key previous next (inr below) above = Precedes-trans key previous next below above

-- ---- bounds

one_in_block : (previous : List ℕ) (xs : List Entry) → RiseAfter previous (map pair_of xs) → length xs ≡ 1 → length (block_body xs) ≤ 4096
one_in_block previous [] rise one = absurd (omega (arith, one))
one_in_block previous (x ∷ []) rise one = one-fits (pair_of x) rise.0.key (length-payload_of x)
one_in_block previous (x ∷ (y ∷ xs)) rise one = absurd (omega (arith, one))

-- a block's body has at most 4,096 bytes
pub most_bytes : (previous : List ℕ) (xs : List Entry) → RiseAfter previous (map pair_of xs) → Fits block_body xs → length (block_body xs) ≤ 4096
most_bytes previous xs rise fits = elim fits.small [
  | inl small ↦ small
  | inr one ↦ one_in_block previous xs rise one
]

-- a block's body has at least 17 bytes
pub least_bytes : (previous : List ℕ) (x : Entry) (xs : List Entry) → Follows previous (pair_of x) → 17 ≤ length (block_body (x ∷ xs))
least_bytes previous x xs follows =
    let first = pair_of x in
    let rises = above-none previous x.key follows.rises follows.key in
    omega (
      arith,
      length-append (item_of [] first) (items_after x.key (map pair_of xs)),
      length-item_of-pair [] first,
      length-payload_of x,
      (Extends-from_Precedes [] x.key rises follows.key).more,
      length-drop (shared_len [] x.key) x.key,
    )

pub most_in_frames : (previous : List ℕ) (blocks : List (List Entry)) → AreFilled block_body blocks → RiseAfter previous (map pair_of (items_of blocks))
    → total blocks ≤ 4116 * length blocks
most_in_frames previous [] filled rise = omega arith
most_in_frames previous (b ∷ blocks) filled rise =
    omega (
      arith,
      most_bytes previous b (rise_front previous b (items_of blocks) rise) filled.0,
      most_in_frames (last_key previous b) blocks filled.2 (rise_behind previous b (items_of blocks) rise),
    )

-- each entry has a byte at least
most_entries : (previous : List ℕ) (blocks : List (List Entry)) → AreFilled block_body blocks → RiseAfter previous (map pair_of (items_of blocks))
    → length (items_of blocks) ≤ 4096 * length blocks
most_entries previous [] filled rise = omega arith
most_entries previous (b ∷ blocks) filled rise =
    omega (
      arith,
      length-append b (items_of blocks),
      length-map b pair_of,
      length-items_after [] (map pair_of b),
      most_bytes previous b (rise_front previous b (items_of blocks) rise) filled.0,
      most_entries (last_key previous b) blocks filled.2 (rise_behind previous b (items_of blocks) rise),
    )

sizes_in_count : (entries : List Entry) → All IsEntry entries → sizes_of entries ≤ 1048826 * length entries
sizes_in_count [] each = omega arith
sizes_in_count (entry ∷ entries) each =
    omega (
      arith,
      (All-head IsEntry entry entries each).1.1,
      sum_by-cons (λ (e : Entry). e.size) entry entries,
      sizes_in_count entries (All-tail IsEntry entry entries each),
    )

-- ---- the index

pub length-handles_from : (at : ℕ) (blocks : List (List Entry)) → length (handles_from at blocks) ≡ length blocks
length-handles_from at blocks = length-handles_of first_key frame_length at blocks

-- an index that has room in a frame is that of few blocks
pub few_blocks : (blocks : List (List Entry)) → length (index_bytes table_keys (handles_from 0 blocks)) < 2 ^ 32 → 12 * length blocks < 2 ^ 32
few_blocks blocks few = omega (arith, few, least-index_bytes table_keys (handles_from 0 blocks), length-handles_from 0 blocks)

index_is : (key previous : List ℕ) (at : ℕ) (blocks : List (List Entry)) → IsUpTo key previous → AreFilled block_body blocks → RiseAfter previous (map pair_of (items_of blocks))
    → at + 4116 * length blocks < 2 ^ 62 → IsIndexFrom table_keys table_form key at (handles_from at blocks) (at + total blocks)
index_is key previous at [] up filled rise room = omega arith
index_is key previous at ([] ∷ blocks) up filled rise room = absurd (filled.0.some refl)
index_is key previous at ((x ∷ b) ∷ blocks) up filled rise room =
    let small = most_bytes previous (x ∷ b) (rise_front previous (x ∷ b) (items_of blocks) rise) filled.0 in
    let later = at + frame_length (x ∷ b) in
    let rest : IsIndexFrom table_keys table_form x.key later (handles_from later blocks) (later + total blocks) =
    index_is x.key (last_key x.key b) later blocks (last_above x.key b (rise_front x.key b (items_of blocks) rise.1)) filled.2
    (rise_behind x.key b (items_of blocks) rise.1) (omega (arith, small, room)) in
    let ends : later + total blocks ≡ at + total ((x ∷ b) ∷ blocks) = omega arith in
    let fits : IsFrameLength table_form (frame_length (x ∷ b)) = (omega (arith, least_bytes previous x b rise.0), omega (arith, small), omega (arith, small)) in (
      ((above_both key previous x.key up rise.0.rises, rise.0.key), refl, omega (arith, room), fits),
      subst (λ end. IsIndexFrom table_keys table_form x.key later (handles_from later blocks) end) ends rest,
    )

-- ---- a table

rises : (lo hi : ℕ) (entries : List Entry) (blocks : List (List Entry)) (filter : List ℕ) → IsTableOf lo hi entries blocks filter → RiseAfter [] (map pair_of (items_of blocks))
rises lo hi entries blocks filter parts = subst (λ (es : List Entry). RiseAfter [] (map pair_of es)) (sym parts.listed.whole) parts.listed.rising.rising

pub frames_end : (lo hi : ℕ) (entries : List Entry) (blocks : List (List Entry)) (filter : List ℕ) → IsTableOf lo hi entries blocks filter → total blocks ≤ 4116 * length blocks
frames_end lo hi entries blocks filter parts = most_in_frames [] blocks parts.listed.filled (rises lo hi entries blocks filter parts)

pub index_of_table : (lo hi : ℕ) (entries : List Entry) (blocks : List (List Entry)) (filter : List ℕ) → IsTableOf lo hi entries blocks filter
    → IsIndexFrom table_keys table_form [] 0 (handles_from 0 blocks) (footer_of lo hi blocks filter).index_at
index_of_table lo hi entries blocks filter parts =
    let ends : 0 + total blocks ≡ length (numbered_frames (map block_body blocks)) = omega (arith, length-frames blocks) in
    subst (λ end. IsIndexFrom table_keys table_form [] 0 (handles_from 0 blocks) end) ends
    (index_is [] [] 0 blocks (inl refl) parts.listed.filled (rises lo hi entries blocks filter parts) (omega (arith, few_blocks blocks parts.listed.few)))

pub filter_is_body : (hashed : List (List ℕ)) (filter : List ℕ) → IsFilterOf hashed filter → IsBodyLength (length filter)
filter_is_body hashed filter is =
    let same : 8 * length filter / 8 ≡ length filter = omega arith in
    subst IsBodyLength same (IsBodyLength-bits (length hashed) (8 * length filter) is.size).0

some_in_blocks : (blocks : List (List Entry)) → items_of blocks ≢ [] → (1 ≤ length blocks) × (1 ≤ length (items_of blocks))
some_in_blocks [] some = absurd (some refl)
some_in_blocks (b ∷ blocks) some = (omega arith, some_items (b ++ items_of blocks) some)
  where
    some_items : (entries : List Entry) → entries ≢ [] → 1 ≤ length entries
    some_items [] none = absurd (none refl)
    some_items (x ∷ entries) more = omega arith

pub footer_of_is_footer : (lo hi : ℕ) (entries : List Entry) (blocks : List (List Entry)) (filter : List ℕ) → IsTableOf lo hi entries blocks filter → IsFooter true (footer_of lo hi blocks filter)
footer_of_is_footer lo hi entries blocks filter parts =
    let rise = rises lo hi entries blocks filter parts in
    let few = few_blocks blocks parts.listed.few in
    let most = most_entries [] blocks parts.listed.filled rise in
    let ends = frames_end lo hi entries blocks filter parts in
    let some = some_in_blocks blocks (λ none. parts.listed.some (sym parts.listed.whole ∙ none)) in
    record {
      count = omega (arith, most, few);
      sum = omega (arith, most, few, sizes_in_count (items_of blocks) (subst (λ (es : List Entry). All IsEntry es) (sym parts.listed.whole) parts.listed.rising.each));
      low = parts.listed.from;
      high = parts.listed.to;
      index_at = omega (arith, ends, few, length-frames blocks);
      filter_at = omega (arith, ends, few, length-frames blocks, parts.listed.few);
      blocks = omega (arith, few);
      form = refl;
      some_items = some.1;
      some_blocks = some.0;
    }

-- ---- what stands before each frame

before_filter : List (List Entry) → List (List ℕ)
before_filter blocks = map block_body blocks ++ index_bytes table_keys (handles_from 0 blocks) ∷ []

count_before_filter : (blocks : List (List Entry)) → length (before_filter blocks) ≡ length blocks + 1
unfolding before_filter
count_before_filter blocks = omega (arith, length-append (map block_body blocks) (index_bytes table_keys (handles_from 0 blocks) ∷ []), length-map blocks block_body)

len_before_filter : (lo hi : ℕ) (blocks : List (List Entry)) (filter : List ℕ) → length (numbered_frames (before_filter blocks)) ≡ offset_of (footer_of lo hi blocks filter).filter_at
unfolding before_filter
len_before_filter lo hi blocks filter =
    let before = map block_body blocks in
    let index = index_bytes table_keys (handles_from 0 blocks) in
    omega (
      arith,
      ap length (numbered-more before index),
      length-append (numbered_frames before) (frame (length before) index),
      length-frame (length before) index,
    )

bodies_filter : (lo hi : ℕ) (blocks : List (List Entry)) (filter : List ℕ)
    → table_bodies lo hi blocks filter ≡ before_filter blocks ++ filter ∷ footer_bytes (footer_of lo hi blocks filter) ∷ []
unfolding before_filter
bodies_filter lo hi blocks filter =
    sym (append_assoc (map block_body blocks) (index_bytes table_keys (handles_from 0 blocks) ∷ []) (filter ∷ footer_bytes (footer_of lo hi blocks filter) ∷ []))

bodies_footer : (lo hi : ℕ) (blocks : List (List Entry)) (filter : List ℕ)
    → table_bodies lo hi blocks filter ≡ (before_filter blocks ++ filter ∷ []) ++ footer_bytes (footer_of lo hi blocks filter) ∷ []
bodies_footer lo hi blocks filter =
    bodies_filter lo hi blocks filter ∙ sym (append_assoc (before_filter blocks) (filter ∷ []) (footer_bytes (footer_of lo hi blocks filter) ∷ []))

-- the filter
pub reads_filter : (id : FileId) (lo hi : ℕ) (entries : List Entry) (blocks : List (List Entry)) (filter : List ℕ) → IsTableOf lo hi entries blocks filter
    → frame_body id (numbered_frames (table_bodies lo hi blocks filter)) (offset_of (footer_of lo hi blocks filter).filter_at) (length blocks + 1) ≡ Ok filter
reads_filter id lo hi entries blocks filter parts =
    let before = before_filter blocks in
    let footer = footer_bytes (footer_of lo hi blocks filter) in
    let many = count_before_filter blocks in
    ap (λ (bs : List (List ℕ)). frame_body id (numbered_frames bs) (offset_of (footer_of lo hi blocks filter).filter_at) (length blocks + 1)) (bodies_filter lo hi blocks filter)
    ∙ ap (λ (at : ℕ). frame_body id (numbered_frames (before ++ filter ∷ footer ∷ [])) at (length blocks + 1)) (sym (len_before_filter lo hi blocks filter))
    ∙ ap (λ (n : ℕ). frame_body id (numbered_frames (before ++ filter ∷ footer ∷ [])) (length (numbered_frames before)) n) (sym many)
    ∙ written_frame_is_read id before (footer ∷ []) filter (omega (arith, few_blocks blocks parts.listed.few, many)) (omega (arith, (filter_is_body (hashed_keys entries) filter parts.filtered).at_most))

-- the length of a table's file
pub file_ends : (lo hi : ℕ) (blocks : List (List Entry)) (filter : List ℕ)
    → length (numbered_frames (table_bodies lo hi blocks filter)) ≡ offset_of (footer_of lo hi blocks filter).filter_at + (length filter + 20) + 73
file_ends lo hi blocks filter =
    let before = before_filter blocks in
    let footer = footer_bytes (footer_of lo hi blocks filter) in
    ap length (ap numbered_frames (bodies_footer lo hi blocks filter) ∙ numbered-more (before ++ filter ∷ []) footer)
    ∙ length-append (numbered_frames (before ++ filter ∷ [])) (frame (length (before ++ filter ∷ [])) footer)
    ∙ omega (
      arith,
      length-frame (length (before ++ filter ∷ [])) footer,
      length-footer_bytes true (footer_of lo hi blocks filter) refl,
      ap length (numbered-more before filter),
      length-append (numbered_frames before) (frame (length before) filter),
      length-frame (length before) filter,
      len_before_filter lo hi blocks filter,
    )

-- the bytes of a table are a file with its footer and its index
pub is_indexed : (bytes : List ℕ) (lo hi : ℕ) (entries : List Entry) (is : IsTable bytes lo hi entries)
    → IsIndexed table_keys table_form bytes (footer_of lo hi is.blocks is.filter) (handles_from 0 is.blocks)
is_indexed bytes lo hi entries is =
    let blocks = is.blocks in
    let filter = is.filter in
    let footer = footer_of lo hi blocks filter in
    let index = index_bytes table_keys (handles_from 0 blocks) in
    let parts : table_bodies lo hi blocks filter ≡ (map block_body blocks ++ index ∷ filter ∷ []) ++ footer_bytes footer ∷ [] =
    sym (append_assoc (map block_body blocks) (index ∷ filter ∷ []) (footer_bytes footer ∷ [])) in
    record {
      blocks = map block_body blocks;
      filter = filter ∷ [];
      bytes_are = is.bytes_are ∙ ap numbered_frames parts;
      is_footer = footer_of_is_footer lo hi entries blocks filter is.parts;
      is_index = index_of_table lo hi entries blocks filter is.parts;
      few = is.parts.listed.few;
      frames = length-map blocks block_body;
      handles = length-handles_from 0 blocks;
      filters = refl;
      at = refl;
      ends = refl;
    }
