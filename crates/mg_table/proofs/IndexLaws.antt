-- The index of blocks, with one more.
use Rattle.std.proofs.Common.{◌≡◌, ℕ, ◌+◌, List, [], ◌∷◌, ◌++◌, length, map, refl, ap, ◌∙◌, arith}
use Rattle.std.proofs.lemmas.List.{length-append}
use Rattle.std.proofs.lemmas.List.Sums.{sum_by-cons}
use Rattle.std.specs.List.{enumerate_from}
use Rattle.std.specs.Prelude.{sum_by}
use Rattle.mg_frame.specs.Frame.{frame}
use Rattle.mg_frame.specs.Frames.{frames, numbered_frames}
use Rattle.mg_frame.proofs.FrameLaws.{length-frame}
use Rattle.mg_table.specs.Entries.{block_body, first_key}
use Rattle.mg_table.specs.Index.{frame_length, handles_from}
use Rattle.mg_indexed.proofs.IndexLaws.{handles_of-push}
use Rattle.mg_types.specs.declared.items.Entry.{Entry}
use Rattle.mg_indexed.specs.declared.handle.BlockHandle.{BlockHandle}

-- the whole length of blocks' frames
abbrev pub total : List (List Entry) → ℕ
total [] = 0
total (entries ∷ blocks) = frame_length entries + total blocks

sum-total : (blocks : List (List Entry)) → sum_by frame_length blocks ≡ total blocks
sum-total [] = refl
sum-total (entries ∷ blocks) = omega (arith, sum_by-cons frame_length entries blocks, sum-total blocks)

frames-total : (n : ℕ) (blocks : List (List Entry)) → length (frames (enumerate_from n (map block_body blocks))) ≡ total blocks
unfolding frames
frames-total n [] = refl
frames-total n (entries ∷ blocks) =
    let rest = frames (enumerate_from (n + 1) (map block_body blocks)) in
    omega (arith, length-append (frame n (block_body entries)) rest, length-frame n (block_body entries), frames-total (n + 1) blocks)

pub length-frames : (blocks : List (List Entry)) → length (numbered_frames (map block_body blocks)) ≡ total blocks
unfolding numbered_frames
length-frames blocks = frames-total 0 blocks

-- ---- handles

-- where a block stands behind others
abbrev pub place_behind : ℕ → List Entry → BlockHandle (List ℕ)
place_behind at entries = record { first = first_key entries; at = at; len = frame_length entries }

pub handles_from-push : (at : ℕ) (blocks : List (List Entry)) (entries : List Entry)
    → handles_from at (blocks ++ entries ∷ []) ≡ handles_from at blocks ++ place_behind (at + total blocks) entries ∷ []
handles_from-push at blocks entries =
    handles_of-push first_key frame_length at blocks entries
    ∙ ap (λ k. handles_from at blocks ++ place_behind (at + k) entries ∷ []) (sum-total blocks)
