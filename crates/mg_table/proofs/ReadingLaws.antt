-- What is read of a table's blocks.
use Rattle.std.proofs.Common.{◌≡◌, ℕ, zero, suc, ◌+◌, ◌*◌, ◌<◌, ◌≤◌, ◌^◌, inl, List, [], ◌∷◌, ◌++◌, length, get_or, take, drop, map, refl, sym, ap, subst, ◌∙◌, arith, append_assoc, Option, Some, None, IfSome, Result, Ok, Err, MatchResult}
use Rattle.std.proofs.lemmas.Bool.{eq-eqb}
use Rattle.std.proofs.lemmas.List.{map-append, take-append-drop, take_more, length-map, length-take-le}
use Rattle.std.proofs.lemmas.List.Elements.{All-cons, All-head, All-nil, All-tail}
use Rattle.std.specs.List.{All}
use Rattle.mg_block.specs.Block.{block_of, IsBlock, Precedes, RiseAfter}
use Rattle.mg_block.proofs.Order.{Precedes-trans}
use Rattle.mg_frame.specs.Frames.{numbered_frames}
use Rattle.mg_types.specs.declared.faults.Fault.{Fault}
use Rattle.mg_types.specs.declared.faults.Fault.TheVariants.{NoMemory}
use Rattle.mg_types.specs.declared.names.FileId.{FileId}
use Rattle.mg_sealed.specs.Answers.{Answers, IsOutside}
use Rattle.mg_sealed.specs.Blocks as file
use Rattle.mg_sealed.specs.Filling.{Fits, AreFilled, items_of}
use Rattle.mg_sealed.specs.Reading.{frame_body}
use Rattle.mg_sealed.proofs.AnswerLaws.{refused}
use Rattle.mg_sealed.proofs.WrittenLaws.{written_frame_is_read}
use Rattle.mg_table.specs.Entries.{block_body, pair_of, AreEntries}
use Rattle.mg_types.specs.Items.{IsEntry}
use Rattle.mg_indexed.specs.Footer.{footer_bytes}
use Rattle.mg_table.specs.Index.{frame_length, handles_from}
use Rattle.mg_indexed.specs.Index.{index_bytes}
use Rattle.mg_indexed.specs.TableKeys.{table_keys}
use Rattle.mg_table.specs.Table.{footer_of, table_bodies, Represents}
use Rattle.mg_types.specs.declared.items.Entry.{Entry}
use Rattle.mg_indexed.specs.declared.handle.BlockHandle.{BlockHandle}
use Rattle.mg_table.specs.declared.table.Table.{Table}
use Rattle.mg_table.proofs.LoadingLaws.{few_blocks, length-handles_from, most_bytes, rise_front}
use Rattle.mg_table.proofs.IndexLaws.{length-frames, place_behind, total}

-- ---- the entries of one block

RiseAfter-below : (lower previous : List ℕ) (entries : List Entry) → Precedes lower previous → RiseAfter previous (map pair_of entries) → RiseAfter lower (map pair_of entries)
RiseAfter-below lower previous [] below rise = tt
RiseAfter-below lower previous (entry ∷ entries) below rise = (
  record { rises = Precedes-trans lower previous entry.key below rise.0.rises; key = rise.0.key; payload = rise.0.payload },
  rise.1,
)

pub RiseAfter-behind : (previous : List ℕ) (front more : List Entry) → RiseAfter previous (map pair_of (front ++ more)) → RiseAfter previous (map pair_of more)
RiseAfter-behind previous [] more rise = rise
RiseAfter-behind previous (entry ∷ front) more rise =
    RiseAfter-behind previous front more (RiseAfter-below previous entry.key (front ++ more) rise.0.rises rise.1)

All-before : {T : Type 0} (P : T → Type 0) (front more : List T) → All P (front ++ more) → All P front
All-before P [] more all = All-nil P
All-before P (x ∷ front) more all = All-cons P x front (All-head P x (front ++ more) all) (All-before P front more (All-tail P x (front ++ more) all))

pub All-behind : {T : Type 0} (P : T → Type 0) (front more : List T) → All P (front ++ more) → All P more
All-behind P [] more all = all
All-behind P (x ∷ front) more all = All-behind P front more (All-tail P x (front ++ more) all)

-- the entries of each block may be those of a table
pub block-entries : (blocks : List (List Entry)) (k : ℕ) (d : List Entry) → AreEntries (items_of blocks) → k < length blocks → AreEntries (get_or blocks k d)
block-entries [] k d are within = absurd (omega arith)
block-entries (block ∷ blocks) zero d are within = record {
  rising = rise_front [] block (items_of blocks) are.rising;
  each = All-before IsEntry block (items_of blocks) are.each;
}
block-entries (block ∷ blocks) (suc k) d are within =
    block-entries blocks k d
    (record { rising = RiseAfter-behind [] block (items_of blocks) are.rising; each = All-behind IsEntry block (items_of blocks) are.each })
    (omega arith)

pub filled-at : {T : Type 0} (block_of : List T → List ℕ) (blocks : List (List T)) (k : ℕ) (d : List T) → AreFilled block_of blocks → k < length blocks → Fits block_of (get_or blocks k d)
filled-at block_of [] k d filled within = absurd (omega arith)
filled-at block_of (block ∷ blocks) zero d filled within = filled.0
filled-at block_of (block ∷ blocks) (suc k) d filled within = filled-at block_of blocks k d filled.2 (omega arith)

-- ---- where blocks stand

pub handle-at : (at : ℕ) (blocks : List (List Entry)) (k : ℕ) (p : BlockHandle (List ℕ)) (d : List Entry) → k < length blocks
    → get_or (handles_from at blocks) k p ≡ place_behind (at + total (take k blocks)) (get_or blocks k d)
handle-at at [] k p d within = absurd (omega arith)
handle-at at (block ∷ blocks) zero p d within = ap (λ n. place_behind n block) (omega arith)
handle-at at (block ∷ blocks) (suc k) p d within =
    handle-at (at + frame_length block) blocks k p d (omega arith) ∙ ap (λ n. place_behind n (get_or blocks k d)) (omega arith)

-- ---- the frame of a block

parts-at : {T : Type 0} (xs : List T) (k : ℕ) (d : T) → k < length xs → xs ≡ take k xs ++ get_or xs k d ∷ drop (k + 1) xs
parts-at xs k d within =
    sym (take-append-drop (k + 1) xs)
    ∙ ap (λ front. front ++ drop (k + 1) xs) (take_more xs k d within)
    ∙ append_assoc (take k xs) (get_or xs k d ∷ []) (drop (k + 1) xs)

block-frame : (id : FileId) (blocks : List (List Entry)) (others : List (List ℕ)) (k : ℕ) (d : List Entry) → k < length blocks → 12 * length blocks < 2 ^ 32
    → length (block_body (get_or blocks k d)) ≤ 4096
    → frame_body id (numbered_frames (map block_body blocks ++ others)) (total (take k blocks)) k ≡ Ok (block_body (get_or blocks k d))
block-frame id blocks others k d within few small =
    let before = map block_body (take k blocks) in
    let body = block_body (get_or blocks k d) in
    let after = map block_body (drop (k + 1) blocks) ++ others in
    let bodies : map block_body blocks ++ others ≡ before ++ body ∷ after =
    ap (λ bs. map block_body bs ++ others) (parts-at blocks k d within)
    ∙ ap (λ bs. bs ++ others) (map-append block_body (take k blocks) (get_or blocks k d ∷ drop (k + 1) blocks))
    ∙ append_assoc before (body ∷ map block_body (drop (k + 1) blocks)) others in
    let count : length before ≡ k = length-map (take k blocks) block_body ∙ length-take-le k blocks (omega arith) in
    let read : frame_body id (numbered_frames (before ++ body ∷ after)) (length (numbered_frames before)) (length before) ≡ Ok body =
    written_frame_is_read id before after body (omega arith) (omega arith) in
    ap (λ bs. frame_body id (numbered_frames bs) (total (take k blocks)) k) bodies
    ∙ ap (λ n. frame_body id (numbered_frames (before ++ body ∷ after)) n k) (sym (length-frames (take k blocks)))
    ∙ ap (λ n. frame_body id (numbered_frames (before ++ body ∷ after)) (length (numbered_frames before)) n) (sym count)
    ∙ read

-- what is read of the block whose handle is this
abbrev pub read_at : {S : Type 0} → Table S → List ℕ → BlockHandle (List ℕ) → ℕ → Result (List ℕ) Fault
read_at table bytes handle k = file.block_body table.indexed.file.id bytes handle.at handle.len k

-- each block of a table is read at its handle
pub block-read : {S : Type 0} (told : S → Option (List ℕ)) (table : Table S) (entries : List Entry) (stands : Represents told table entries) (bytes : List ℕ)
    → told table.indexed.file.file ≡ Some bytes → (handle : BlockHandle (List ℕ)) (k : ℕ) → k < length table.indexed.index → handle ≡ get_or table.indexed.index k handle
    → (d : List Entry) → read_at table bytes handle k ≡ Ok (block_body (get_or stands.blocks k d))
unfolding file.block_body
block-read {S} told table entries stands bytes tells handle k within is d =
    let blocks = stands.blocks in
    let parts = stands.parts in
    let block = get_or blocks k d in
    let inside : k < length blocks = omega (arith, ap length stands.index, length-handles_from 0 blocks) in
    let are : AreEntries (items_of blocks) = subst AreEntries (sym parts.listed.whole) parts.listed.rising in
    let small = most_bytes [] block (block-entries blocks k d are inside).rising (filled-at block_body blocks k d parts.listed.filled inside) in
    let there : handle ≡ place_behind (total (take k blocks)) block =
    is ∙ ap (λ ps. get_or ps k handle) stands.index ∙ handle-at 0 blocks k handle d inside ∙ ap (λ n. place_behind n block) (omega arith) in
    let file = stands.file in
    let written : bytes ≡ numbered_frames (table_bodies table.indexed.footer.low table.indexed.footer.high blocks table.filter) =
    subst (λ o. IfSome o (λ bs. bs ≡ numbered_frames (table_bodies table.indexed.footer.low table.indexed.footer.high blocks table.filter))) tells file in
    let rest = index_bytes table_keys (handles_from 0 blocks) ∷ table.filter ∷ footer_bytes (footer_of table.indexed.footer.low table.indexed.footer.high blocks table.filter) ∷ [] in
    let frame : frame_body table.indexed.file.id bytes (total (take k blocks)) k ≡ Ok (block_body block) =
    ap (λ bs. frame_body table.indexed.file.id bs (total (take k blocks)) k) written ∙ block-frame table.indexed.file.id blocks rest k d inside (few_blocks blocks parts.listed.few) small in
    rw (there, frame, eq-eqb (length (block_body block) + 20) (length (block_body block) + 20) refl) refl

pub told-length : {S : Type 0} (told : S → Option (List ℕ)) (table : Table S) (entries : List Entry) (stands : Represents told table entries) (bytes : List ℕ)
    → told table.indexed.file.file ≡ Some bytes → table.indexed.file.len ≡ length bytes
told-length {S} told table entries stands bytes tells =
    let written : bytes ≡ numbered_frames (table_bodies table.indexed.footer.low table.indexed.footer.high stands.blocks table.filter) =
    subst (λ o. IfSome o (λ bs. bs ≡ numbered_frames (table_bodies table.indexed.footer.low table.indexed.footer.high stands.blocks table.filter))) tells stands.file in
    stands.len ∙ sym (ap length written)

-- each block of a table is the block of entries of it
pub block-is : {S : Type 0} (told : S → Option (List ℕ)) (table : Table S) (entries : List Entry) (stands : Represents told table entries) (k : ℕ) (d : List Entry)
    → k < length table.indexed.index → AreEntries (get_or stands.blocks k d)
block-is told table entries stands k d within =
    block-entries stands.blocks k d (subst AreEntries (sym stands.parts.listed.whole) stands.parts.listed.rising) (omega (arith, ap length stands.index, length-handles_from 0 stands.blocks))

-- ---- what was read

pub told-then : (told : Option (List ℕ)) (P Q : List ℕ → Type 0) → ((bytes : List ℕ) → told ≡ Some bytes → P bytes → Q bytes) → IfSome told P → IfSome told Q
told-then None P Q step known = tt
told-then (Some bytes) P Q step known = step bytes refl known

-- a block of a table is refused only from outside
pub block-refused : {S : Type 0} (told : S → Option (List ℕ)) (table : Table S) (entries : List Entry) (stands : Represents told table entries) (bytes : List ℕ)
    → told table.indexed.file.file ≡ Some bytes → (handle : BlockHandle (List ℕ)) (k : ℕ) → k < length table.indexed.index → handle ≡ get_or table.indexed.index k handle → (fault : Fault)
    → (table.indexed.file.len ≡ length bytes → Answers (read_at table bytes handle k) (Err fault)) → IsOutside fault
block-refused told table entries stands bytes tells handle k within is fault known =
    refused (block_body (get_or stands.blocks k [])) (read_at table bytes handle k) fault (block-read told table entries stands bytes tells handle k within is [])
    (known (told-length told table entries stands bytes tells))

-- what is read of one is the block of its entries
pub block-answered : {S : Type 0} (told : S → Option (List ℕ)) (table : Table S) (entries : List Entry) (stands : Represents told table entries) (bytes : List ℕ)
    → told table.indexed.file.file ≡ Some bytes → (handle : BlockHandle (List ℕ)) (k : ℕ) → k < length table.indexed.index → handle ≡ get_or table.indexed.index k handle → (frame : List ℕ)
    → (table.indexed.file.len ≡ length bytes → Answers (read_at table bytes handle k) (Ok frame)) → (d : List Entry)
    → IsBlock frame (map pair_of (get_or stands.blocks k d)) × All IsEntry (get_or stands.blocks k d)
block-answered told table entries stands bytes tells handle k within is frame known d =
    let read = block-read told table entries stands bytes tells handle k within is d in
    let answer : read_at table bytes handle k ≡ Ok frame = known (told-length told table entries stands bytes tells) in
    let same : frame ≡ block_body (get_or stands.blocks k d) = cc in
    let are = block-is told table entries stands k d within in
    (record { rising = are.rising; spelling = same }, are.each)

-- an answer that only want of memory keeps back
pub answers-from : {V : Type 0} (value other : V) (result : Result V Fault) → value ≡ other → MatchResult result (λ found. found ≡ other) (λ fault. fault ≡ NoMemory) → Answers (Ok value) result
answers-from value other (Ok found) same is = let e : value ≡ found = same ∙ sym is in cc
answers-from value other (Err fault) same is = inl (inl is)
