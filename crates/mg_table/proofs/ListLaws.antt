-- Bytes are the table of one list of entries over one interval.
use Rattle.std.proofs.Common.{true, ◌≡◌, ℕ, ◌+◌, ◌<◌, ◌^◌, Bool, List, [], ◌∷◌, ◌++◌, length, map, refl, sym, ap, ◌∙◌, arith, Ok}
use Rattle.std.proofs.lemmas.List.{length-append, length-map, map-append}
use Rattle.std.proofs.lemmas.List.Elements.{All-append, All-cons, All-head, All-nil, All-tail}
use Rattle.std.specs.List.{All}
use Rattle.mg_block.specs.View.{pairs_of}
use Rattle.mg_block.specs.declared.pair.Pair.{Pair}
use Rattle.mg_block.proofs.Spelling.{pairs_of-block_of}
use Rattle.mg_types.specs.declared.keys.Key.{Key}
use Rattle.mg_sealed.specs.Filling.{items_of}
use Rattle.mg_sealed.specs.Lists.{FitFrames}
use Rattle.mg_sealed.proofs.ListLaws.{one_list_of_frames, same_parts}
use Rattle.mg_table.specs.Entries.{block_body, first_key, pair_of, payload_of}
use Rattle.mg_types.specs.Items.{IsEntry}
use Rattle.mg_indexed.specs.Footer.{footer_bytes}
use Rattle.mg_table.specs.Index.{frame_length, handles_from}
use Rattle.mg_indexed.specs.Index.{index_bytes, IsIndexFrom}
use Rattle.mg_indexed.specs.TableKeys.{table_keys}
use Rattle.mg_indexed.specs.Forms.{table_form}
use Rattle.mg_table.specs.Lists.{OneTable}
use Rattle.mg_table.specs.Payload.{judged_payload, numbers_of}
use Rattle.mg_table.specs.Table.{footer_of, hashed_keys, table_bodies, IsTableOf}
use Rattle.mg_types.specs.declared.items.Entry.{Entry}
use Rattle.mg_table.specs.declared.entry.Payload.{Payload}
use Rattle.mg_indexed.specs.declared.footer.Footer.{Footer}
use Rattle.mg_indexed.proofs.FieldLaws.{footer_fits, length-footer_bytes, one_footer}
use Rattle.mg_table.proofs.LoadingLaws.{few_blocks, filter_is_body, footer_of_is_footer, index_of_table}
use Rattle.mg_table.proofs.PayloadLaws.{payload-read}

-- ---- the bodies of a table fit frames

-- a body that fits a frame
Small : List ℕ → Type 0
Small body = length body < 2 ^ 32

small_blocks : (key : List ℕ) (at : ℕ) (blocks : List (List Entry)) (end : ℕ) → IsIndexFrom table_keys table_form key at (handles_from at blocks) end → All Small (map block_body blocks)
unfolding Small
small_blocks key at [] end is = All-nil Small
small_blocks key at (b ∷ blocks) end is =
    All-cons Small (block_body b) (map block_body blocks) (omega (arith, is.0.3.2)) (small_blocks (first_key b) (at + frame_length b) blocks end is.1)

fit_frames : (lo hi : ℕ) (entries : List Entry) (blocks : List (List Entry)) (filter : List ℕ) → IsTableOf lo hi entries blocks filter → FitFrames (table_bodies lo hi blocks filter)
unfolding Small
fit_frames lo hi entries blocks filter parts =
    let before = map block_body blocks in
    let index = index_bytes table_keys (handles_from 0 blocks) in
    let footer = footer_bytes (footer_of lo hi blocks filter) in
    let handles = index_of_table lo hi entries blocks filter parts in
    let small' : length filter < 2 ^ 32 = omega (arith, (filter_is_body (hashed_keys entries) filter parts.filtered).at_most) in
    let small'' : length footer < 2 ^ 32 = omega (arith, length-footer_bytes true (footer_of lo hi blocks filter) refl) in
    record {
      few = omega (arith, few_blocks blocks parts.listed.few, length-append before (index ∷ filter ∷ footer ∷ []), length-map blocks block_body);
      small = All-append Small before (index ∷ filter ∷ footer ∷ []) (small_blocks [] 0 blocks _ handles)
          (All-cons Small index (filter ∷ footer ∷ []) parts.listed.few (All-cons Small filter (footer ∷ []) small' (All-cons Small footer [] small'' (All-nil Small))));
    }

-- ---- blocks

-- blocks of the same bodies have the same pairs
same_pairs : (blocks others : List (List Entry)) → map block_body blocks ≡ map block_body others → map pair_of (items_of blocks) ≡ map pair_of (items_of others)
same_pairs [] [] same = refl
same_pairs [] (c ∷ others) same = absurd cc
same_pairs (b ∷ blocks) [] same = absurd cc
same_pairs (b ∷ blocks) (c ∷ others) same =
    let body : block_body b ≡ block_body c = cc in
    let bodies : map block_body blocks ≡ map block_body others = cc in
    let first : map pair_of b ≡ map pair_of c = sym (pairs_of-block_of (map pair_of b)) ∙ ap pairs_of body ∙ pairs_of-block_of (map pair_of c) in
    map-append pair_of b (items_of blocks)
    ∙ ap (λ ps. ps ++ map pair_of (items_of blocks)) first
    ∙ ap (λ ps. map pair_of c ++ ps) (same_pairs blocks others bodies)
    ∙ sym (map-append pair_of c (items_of others))

entry_from : Key → ℕ → ℕ → Bool → Entry
entry_from key seq size gone = record { key = key; seq = seq; size = size; gone = gone }

-- an entry with the numbers of a payload
entry_of : Key → Payload → Entry
entry_of key numbers = entry_from key numbers.seq numbers.size numbers.gone

same_entry : (entry other : Entry) → IsEntry entry → IsEntry other → pair_of entry ≡ pair_of other → entry ≡ other
unfolding entry_of entry_from
same_entry entry other is is' same =
    let key : entry.key ≡ other.key = ap (λ (p : Pair). p.key) same in
    let payload : payload_of entry ≡ payload_of other = ap (λ (p : Pair). p.payload) same in
    let answers : Ok (numbers_of entry) ≡ Ok (numbers_of other) = sym (payload-read entry is) ∙ ap judged_payload payload ∙ payload-read other is' in
    let numbers : numbers_of entry ≡ numbers_of other = cc in
    ap (λ (k : Key). entry_of k (numbers_of entry)) key ∙ ap (entry_of other.key) numbers

same_entries : (entries others : List Entry) → All IsEntry entries → All IsEntry others → map pair_of entries ≡ map pair_of others → entries ≡ others
same_entries [] [] each each' same = refl
same_entries [] (other ∷ others) each each' same = absurd cc
same_entries (entry ∷ entries) [] each each' same = absurd cc
same_entries (entry ∷ entries) (other ∷ others) each each' same =
    let pair : pair_of entry ≡ pair_of other = cc in
    let pairs : map pair_of entries ≡ map pair_of others = cc in
    let first = same_entry entry other (All-head IsEntry entry entries each) (All-head IsEntry other others each') pair in
    let rest = same_entries entries others (All-tail IsEntry entry entries each) (All-tail IsEntry other others each') pairs in
    cc (first, rest)

-- ---- a table

pub one_table : OneTable
one_table bytes lo hi entries lo' hi' others is is' =
    let p = is.parts in
    let p' = is'.parts in
    let frames = one_list_of_frames (table_bodies lo hi is.blocks is.filter) (table_bodies lo' hi' is'.blocks is'.filter) (fit_frames lo hi entries is.blocks is.filter p)
    (fit_frames lo' hi' others is'.blocks is'.filter p') (sym is.bytes_are ∙ is'.bytes_are) in
    let parts = same_parts (map block_body is.blocks) (map block_body is'.blocks) _ _ refl frames in
    let tails = parts.1 in
    let footer : footer_bytes (footer_of lo hi is.blocks is.filter) ≡ footer_bytes (footer_of lo' hi' is'.blocks is'.filter) = cc in
    let one = footer_of lo hi is.blocks is.filter in
    let other = footer_of lo' hi' is'.blocks is'.filter in
    let same = one_footer true one other (footer_fits true one (footer_of_is_footer lo hi entries is.blocks is.filter p))
    (footer_fits true other (footer_of_is_footer lo' hi' others is'.blocks is'.filter p')) footer in
    let pairs : map pair_of entries ≡ map pair_of others = ap (map pair_of) (sym p.listed.whole) ∙ same_pairs is.blocks is'.blocks parts.0 ∙ ap (map pair_of) p'.listed.whole in
    (same_entries entries others p.listed.rising.each p'.listed.rising.each pairs, ap (λ (f : Footer). f.low) same, ap (λ (f : Footer). f.high) same)
