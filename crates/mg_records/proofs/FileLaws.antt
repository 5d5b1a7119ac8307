-- The frames and the index of blocks, one block more at a time.
use Rattle.std.proofs.Common.{◌≡◌, ℕ, ◌+◌, ◌*◌, List, [], ◌∷◌, ◌++◌, length, refl, ap, ◌∙◌, arith, suc, false}
use Rattle.std.proofs.lemmas.List.{length-append}
use Rattle.std.proofs.lemmas.List.Sums.{sum_by-cons, sum_by_push}
use Rattle.std.specs.Prelude.{map}
use Rattle.std.specs.List.{enumerate_from}
use Rattle.mg_frame.specs.Frame.{frame}
use Rattle.mg_frame.specs.Frames.{frames, numbered_frames}
use Rattle.mg_frame.specs.BigEndian.{big_endian}
use Rattle.mg_frame.proofs.BigEndianLaws.{length-big_endian}
use Rattle.mg_frame.proofs.FrameLaws.{length-frame}
use Rattle.mg_sealed.proofs.WritingLaws.{numbered-more}
use Rattle.mg_indexed.specs.Footer.{footer_bytes}
use Rattle.mg_indexed.specs.Index.{handle_bytes, index_bytes}
use Rattle.mg_indexed.specs.NumberKeys.{number_keys}
use Rattle.mg_indexed.proofs.FieldLaws.{length-footer_bytes, length-item_bytes}
use Rattle.mg_indexed.proofs.IndexLaws.{length-handles_of, handles_of-push}
use Rattle.mg_records.specs.File.{block_of, first_number, frame_length, index_from, end_of, footer_of, bodies_of}
use Rattle.mg_records.specs.Record.{Kind}
use Rattle.mg_indexed.specs.declared.handle.BlockHandle.{BlockHandle}

pub length-index_from : {T : Type 0} (kind : Kind T) (at : ℕ) (blocks : List (List T)) → length (index_from kind at blocks) ≡ length blocks
length-index_from kind at blocks = length-handles_of (first_number kind) (frame_length kind) at blocks

pub index_from-push : {T : Type 0} (kind : Kind T) (at : ℕ) (blocks : List (List T)) (xs : List T) → index_from kind at (blocks ++ xs ∷ [])
    ≡ index_from kind at blocks ++ record { first = first_number kind xs; at = at + end_of kind blocks; len = frame_length kind xs } ∷ []
index_from-push kind at blocks xs = handles_of-push (first_number kind) (frame_length kind) at blocks xs

pub end_of-push : {T : Type 0} (kind : Kind T) (blocks : List (List T)) (xs : List T) → end_of kind (blocks ++ xs ∷ []) ≡ end_of kind blocks + frame_length kind xs
end_of-push kind blocks xs = sum_by_push (frame_length kind) blocks xs

frames_from-length : {T : Type 0} (kind : Kind T) (n : ℕ) (blocks : List (List T)) → length (frames (enumerate_from n (map (block_of kind) blocks))) ≡ end_of kind blocks
unfolding frames
frames_from-length kind n [] = refl
frames_from-length kind n (b ∷ blocks) =
    omega (
      arith,
      length-append (frame n (block_of kind b)) (frames (enumerate_from (n + 1) (map (block_of kind) blocks))),
      length-frame n (block_of kind b),
      frames_from-length kind (n + 1) blocks,
      sum_by-cons (frame_length kind) b blocks,
    )

-- the frames of blocks end where the index says
pub length-blocks : {T : Type 0} (kind : Kind T) (blocks : List (List T)) → length (numbered_frames (map (block_of kind) blocks)) ≡ end_of kind blocks
unfolding numbered_frames
length-blocks kind blocks = frames_from-length kind 0 blocks

length-handle_bytes : (handle : BlockHandle ℕ) → length (handle_bytes number_keys handle) ≡ 20
length-handle_bytes handle = omega (arith, length-item_bytes (big_endian 8 handle.first) handle.at handle.len, length-big_endian 8 handle.first)

pub length-index_bytes : (handles : List (BlockHandle ℕ)) → length (index_bytes number_keys handles) ≡ 20 * length handles
length-index_bytes [] = refl
length-index_bytes (e ∷ handles) =
    omega (arith, length-append (handle_bytes number_keys e) (index_bytes number_keys handles), length-handle_bytes e, length-index_bytes handles)

-- the length of a file
pub file_ends : {T : Type 0} (kind : Kind T) (blocks : List (List T)) → length (numbered_frames (bodies_of kind blocks)) ≡ end_of kind blocks + (length (index_bytes number_keys (index_from kind 0 blocks)) + 20) + 65
file_ends kind blocks =
    let index = index_bytes number_keys (index_from kind 0 blocks) in
    let footer = footer_bytes (footer_of kind blocks) in
    let before = map (block_of kind) blocks in
    ap length (numbered-more (before ++ index ∷ []) footer)
    ∙ length-append (numbered_frames (before ++ index ∷ [])) (frame (length (before ++ index ∷ [])) footer)
    ∙ omega (
      arith,
      length-frame (length (before ++ index ∷ [])) footer,
      length-footer_bytes false (footer_of kind blocks) refl,
      ap length (numbered-more before index),
      length-append (numbered_frames before) (frame (length before) index),
      length-frame (length before) index,
      length-blocks kind blocks,
    )
