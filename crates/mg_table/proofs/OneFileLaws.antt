-- A list of entries over an interval has one table.
use Rattle.std.proofs.Common.{◌≡◌, ℕ, ◌+◌, List, [], ◌∷◌, ◌++◌, length, map, refl, sym, ap, ◌∙◌, subst, arith}
use Rattle.std.proofs.lemmas.List.{drop_at, length-append, map-append, take_at}
use Rattle.std.specs.List.{enumerate_from}
use Rattle.mg_block.specs.Block.{block_of, items_after}
use Rattle.mg_block.specs.View.{last_pair_after}
use Rattle.mg_block.proofs.Spelling.{items_after-append, pair_from}
use Rattle.mg_table.proofs.FilterLaws.{same_filter}
use Rattle.mg_frame.specs.BigEndian.{AreBytes, big_endian}
use Rattle.mg_frame.specs.Frame.{covered, digest, frame}
use Rattle.mg_frame.specs.Frames.{frames, numbered_frames}
use Rattle.mg_frame.proofs.BigEndianLaws.{AreBytes-drop, AreBytes-take}
use Rattle.mg_sealed.specs.Filling.{Grows}
use Rattle.mg_sealed.proofs.FillingLaws.{one_filling}
use Rattle.mg_sealed.proofs.WritingLaws.{frames_from-append}
use Rattle.mg_table.specs.Entries.{block_body, pair_of}
use Rattle.mg_indexed.specs.Footer.{footer_bytes}
use Rattle.mg_table.specs.Index.{handles_from}
use Rattle.mg_indexed.specs.Index.{index_bytes}
use Rattle.mg_indexed.specs.TableKeys.{table_keys}
use Rattle.mg_table.specs.Lists.{OneFileOfTable}
use Rattle.mg_table.specs.Table.{footer_of, hashed_keys, table_bodies}
use Rattle.mg_types.specs.declared.items.Entry.{Entry}

-- ---- the bytes of a body among frames

bytes_before : (xs ys : List ℕ) → AreBytes (xs ++ ys) → AreBytes xs
bytes_before xs ys small = subst AreBytes (take_at xs ys (length xs) refl) (AreBytes-take (length xs) (xs ++ ys) small)

bytes_behind : (xs ys : List ℕ) → AreBytes (xs ++ ys) → AreBytes ys
bytes_behind xs ys small = subst AreBytes (drop_at xs ys (length xs) refl) (AreBytes-drop (length xs) (xs ++ ys) small)

bytes_in_frame : (number : ℕ) (body rest : List ℕ) → AreBytes (frame number body ++ rest) → AreBytes body
unfolding frame covered
bytes_in_frame number body rest small =
    let whole = bytes_before (frame number body) rest small in
    bytes_behind (big_endian 4 (length body) ++ big_endian 8 number) body (bytes_before (covered number body) (digest (covered number body)) whole)

bytes_in_second : (number : ℕ) (first second : List ℕ) (more : List (List ℕ)) → AreBytes (frames (enumerate_from number (first ∷ (second ∷ more)))) → AreBytes second
unfolding frames
bytes_in_second number first second more small =
    bytes_in_frame (number + 1) second (frames (enumerate_from (number + 1 + 1) more))
    (bytes_behind (frame number first) (frames (enumerate_from (number + 1) (second ∷ more))) small)

-- the filter of a table is bytes
bytes_in_filter : (lo hi : ℕ) (blocks : List (List Entry)) (filter : List ℕ) → AreBytes (numbered_frames (table_bodies lo hi blocks filter)) → AreBytes filter
unfolding numbered_frames
bytes_in_filter lo hi blocks filter small =
    let before = map block_body blocks in
    let index = index_bytes table_keys (handles_from 0 blocks) in
    let footer = footer_bytes (footer_of lo hi blocks filter) in
    let ends = index ∷ filter ∷ footer ∷ [] in
    bytes_in_second (0 + length before) index filter (footer ∷ [])
    (bytes_behind (frames (enumerate_from 0 before)) (frames (enumerate_from (0 + length before) ends)) (subst AreBytes (frames_from-append 0 before ends) small))

-- ---- a table

grows : Grows block_body
grows entries more =
    let none = pair_from [] [] in
    let front = map pair_of entries in
    let behind = items_after (last_pair_after none front).key (map pair_of more) in
    let parts : block_body (entries ++ more) ≡ block_body entries ++ behind = ap block_of (map-append pair_of entries more) ∙ items_after-append none front (map pair_of more) in
    omega (arith, ap length parts, length-append (block_body entries) behind)

pub one_file_of_table : OneFileOfTable
one_file_of_table bytes others lo hi entries small small' is is' =
    let p = is.parts in
    let p' = is'.parts in
    let blocks = one_filling Entry block_body is.blocks is'.blocks grows p.listed.filled p'.listed.filled (p.listed.whole ∙ sym p'.listed.whole) in
    let filter = same_filter (hashed_keys entries) is.filter is'.filter (bytes_in_filter lo hi is.blocks is.filter (subst AreBytes is.bytes_are small))
    (bytes_in_filter lo hi is'.blocks is'.filter (subst AreBytes is'.bytes_are small')) p.filtered p'.filtered in
    is.bytes_are
    ∙ ap (λ bs. numbered_frames (table_bodies lo hi bs is.filter)) blocks
    ∙ ap (λ f. numbered_frames (table_bodies lo hi is'.blocks f)) filter
    ∙ sym is'.bytes_are
