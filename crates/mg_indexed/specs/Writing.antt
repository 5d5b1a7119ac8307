-- A file in writing: the blocks that were closed, and what is put behind them.
use Rattle.std.specs.Prelude.{◌≡◌, ℕ, ◌+◌, ◌<◌, ◌≤◌, ◌^◌, Bool, true, false, List, [], ◌∷◌, ◌++◌, length, Option, Some, None}
use Rattle.mg_sealed.specs.Writing.{Written}
use Rattle.mg_indexed.specs.Footer.{footer_bytes}
use Rattle.mg_indexed.specs.Forms.{Form}
use Rattle.mg_indexed.specs.Index.{index_bytes, IsIndexFrom}
use Rattle.mg_indexed.specs.Keys.{Keys}
use Rattle.mg_indexed.specs.declared.footer.Footer.{Footer}
use Rattle.mg_indexed.specs.declared.footer.Summary.{Summary}
use Rattle.mg_indexed.specs.declared.handle.BlockHandle.{BlockHandle}

-- the frames of the blocks, and their handles
pub record Closed (D K : Type 0) : Type 0 where
  pub frames : Written D
  pub index : List (BlockHandle K)

-- how many bytes the body of an index has
abbrev pub index_length : {K : Type 0} → Keys K → List (BlockHandle K) → ℕ
index_length keys index = length (index_bytes keys index)

-- how many bytes it has more with a block of this first key
abbrev pub handle_length : {K : Type 0} → Keys K → K → ℕ
handle_length keys first = length (keys.bytes first) + 12

-- the handles are the index of the frames, and its body has room in a frame
pub record AreIndexed {D K : Type 0} (keys : Keys K) (form : Form) (closed : Closed D K) : Type 0 where
  pub right : IsIndexFrom keys form keys.lowest 0 closed.index closed.frames.len
  pub count : closed.frames.count ≡ length closed.index
  pub few : index_length keys closed.index < 2 ^ 32

-- what a footer may say of the items of a file
pub record IsSummary (summary : Summary) : Type 0 where
  pub some : 1 ≤ summary.count
  pub count : summary.count < 2 ^ 62
  pub sum : summary.sum < 2 ^ 62
  pub low : summary.low < 2 ^ 62
  pub high : summary.high < 2 ^ 62

-- the frames between the index and the footer: one of the filter, in a file that has one
abbrev pub filter_frames : Bool → List ℕ → List (List ℕ)
filter_frames true filter = filter ∷ []
filter_frames false filter = []

-- where a filter's frame stands, in a file that has one and whose index frame ends here
abbrev pub filter_place : Bool → ℕ → Option ℕ
filter_place true end = Some end
filter_place false end = None

-- the footer of a file with this summary, whose blocks end at an offset, and whose index has a body of so many bytes and so many handles
abbrev pub footer_from : Bool → Summary → ℕ → ℕ → ℕ → Footer
footer_from filtered summary index_at index_len blocks = record {
  count = summary.count;
  sum = summary.sum;
  low = summary.low;
  high = summary.high;
  index_at = index_at;
  filter_at = filter_place filtered (index_at + index_len + 20);
  blocks = blocks;
}

-- the bodies of the frames of a file: blocks, the index, a filter in a file that has one, and the footer
abbrev pub file_bodies : {K : Type 0} → Keys K → Bool → List (List ℕ) → List (BlockHandle K) → List ℕ → Footer → List (List ℕ)
file_bodies keys filtered blocks index filter footer = (blocks ++ index_bytes keys index ∷ filter_frames filtered filter) ++ footer_bytes footer ∷ []
