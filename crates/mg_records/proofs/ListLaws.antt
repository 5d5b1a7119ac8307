-- Files and lists of records determine each other.
use Rattle.std.proofs.Common.{◌≡◌, ℕ, ◌<◌, ◌^◌, List, [], ◌∷◌, ◌++◌, length, refl, sym, ap, ◌∙◌, arith, false}
use Rattle.std.proofs.lemmas.List.{length-append, length-map}
use Rattle.std.proofs.lemmas.List.Elements.{All-append, All-cons, All-nil}
use Rattle.std.specs.Prelude.{map}
use Rattle.std.specs.List.{All, AllByRecursion}
use Rattle.mg_frame.specs.Frames.{numbered_frames}
use Rattle.mg_sealed.specs.Filling.{AreFilled, items_of, Grows}
use Rattle.mg_sealed.specs.Lists.{FitFrames}
use Rattle.mg_sealed.proofs.FillingLaws.{one_filling}
use Rattle.mg_sealed.proofs.ListLaws.{one_list_of_frames, same_parts}
use Rattle.mg_indexed.specs.Footer.{footer_bytes}
use Rattle.mg_indexed.specs.Index.{index_bytes}
use Rattle.mg_indexed.specs.NumberKeys.{number_keys}
use Rattle.mg_indexed.proofs.FieldLaws.{length-footer_bytes}
use Rattle.mg_records.specs.File.{block_of, index_from, footer_of, bodies_of, AreBlocks}
use Rattle.mg_records.specs.Lists.{OneList, OneFileOfList}
use Rattle.mg_records.specs.Record.{Kind, IsLawful, IsRecord}
use Rattle.mg_records.proofs.BlockLaws.{block_of-append, each-left, each-right}
use Rattle.mg_records.proofs.FileLaws.{length-index_from, length-index_bytes}
use Rattle.mg_records.proofs.LoadingLaws.{most_bytes}
use Rattle.mg_records.proofs.ScanLaws.{same_records}

-- ---- one list

same_blocks : {T : Type 0} (kind : Kind T) → IsLawful kind → (blocks others : List (List T)) → AllByRecursion (IsRecord kind) (items_of blocks) → AllByRecursion (IsRecord kind) (items_of others)
    → map (block_of kind) blocks ≡ map (block_of kind) others → blocks ≡ others
same_blocks kind lawful [] [] fit fit' same = refl
same_blocks kind lawful [] (c ∷ others) fit fit' same = absurd cc
same_blocks kind lawful (b ∷ blocks) [] fit fit' same = absurd cc
same_blocks kind lawful (b ∷ blocks) (c ∷ others) fit fit' same =
    let body : block_of kind b ≡ block_of kind c = cc in
    let bodies : map (block_of kind) blocks ≡ map (block_of kind) others = cc in
    let first = same_records kind lawful c b (each-left (IsRecord kind) c (items_of others) fit') (each-left (IsRecord kind) b (items_of blocks) fit) (sym body) in
    let rest = same_blocks kind lawful blocks others (each-right (IsRecord kind) b (items_of blocks) fit) (each-right (IsRecord kind) c (items_of others) fit') bodies in
    cc (first, rest)

-- a body that fits a frame
Small : List ℕ → Type 0
Small body = length body < 2 ^ 32

small_blocks : {T : Type 0} (kind : Kind T) → IsLawful kind → (blocks : List (List T)) → AreFilled (block_of kind) blocks → AllByRecursion (IsRecord kind) (items_of blocks)
    → All Small (map (block_of kind) blocks)
unfolding Small
small_blocks kind lawful [] filled fit = All-nil Small
small_blocks kind lawful (b ∷ blocks) filled fit =
    let most = most_bytes kind lawful b (each-left (IsRecord kind) b (items_of blocks) fit) filled.0 in
    All-cons Small (block_of kind b) (map (block_of kind) blocks) (omega (arith, most)) (small_blocks kind lawful blocks filled.2 (each-right (IsRecord kind) b (items_of blocks) fit))

-- the bodies of a file fit frames
fit_frames : {T : Type 0} (kind : Kind T) → IsLawful kind → (blocks : List (List T)) → AreBlocks kind blocks → FitFrames (bodies_of kind blocks)
unfolding Small
fit_frames kind lawful blocks are =
    let index = index_bytes number_keys (index_from kind 0 blocks) in
    let footer = footer_bytes (footer_of kind blocks) in
    let before = map (block_of kind) blocks in
    let small : length index < 2 ^ 32 = omega (arith, are.few, length-index_bytes (index_from kind 0 blocks), length-index_from kind 0 blocks) in
    let small' : length footer < 2 ^ 32 = omega (arith, length-footer_bytes false (footer_of kind blocks) refl) in
    record {
      few = omega (arith, are.few, length-append (before ++ index ∷ []) (footer ∷ []), length-append before (index ∷ []), length-map blocks (block_of kind));
      small = All-append Small (before ++ index ∷ []) (footer ∷ [])
          (All-append Small before (index ∷ []) (small_blocks kind lawful blocks are.filled are.fit) (All-cons Small index [] small (All-nil Small)))
          (All-cons Small footer [] small' (All-nil Small));
    }

pub one_list : {T : Type 0} (kind : Kind T) → IsLawful kind → OneList kind
one_list kind lawful bytes records others is is' =
    let frames = one_list_of_frames (bodies_of kind is.blocks) (bodies_of kind is'.blocks) (fit_frames kind lawful is.blocks is.are) (fit_frames kind lawful is'.blocks is'.are)
    (sym is.spelling ∙ is'.spelling) in
    let front = same_parts (map (block_of kind) is.blocks ++ _ ∷ []) (map (block_of kind) is'.blocks ++ _ ∷ []) _ _ refl frames in
    let parts = same_parts (map (block_of kind) is.blocks) (map (block_of kind) is'.blocks) _ _ refl front.0 in
    let blocks = same_blocks kind lawful is.blocks is'.blocks is.are.fit is'.are.fit parts.0 in
    sym is.all ∙ ap items_of blocks ∙ is'.all

-- ---- one file

grows : {T : Type 0} (kind : Kind T) → Grows (block_of kind)
grows kind xs more = omega (arith, ap length (block_of-append kind xs more), length-append (block_of kind xs) (block_of kind more))

pub one_file_of_list : {T : Type 0} (kind : Kind T) → OneFileOfList kind
one_file_of_list {T} kind bytes others records is is' =
    let blocks = one_filling T (block_of kind) is.blocks is'.blocks (grows kind) is.are.filled is'.are.filled (is.all ∙ sym is'.all) in
    is.spelling ∙ ap (λ bs. numbered_frames (bodies_of kind bs)) blocks ∙ sym is'.spelling
