-- What is read of a file where it is loaded: its footer and its index.
use Rattle.std.specs.Prelude.{◌≡◌, ◌≢◌, ℕ, ◌+◌, ◌-◌, ◌<◌, ◌≤◌, ◌^◌, ◌⊎◌, Bool, List, [], ◌∷◌, ◌++◌, length, Ok, Err}
use Rattle.mg_frame.specs.Frame.{StandsAt}
use Rattle.mg_frame.specs.Frames.{numbered_frames}
use Rattle.mg_types.specs.declared.faults.Fault.{Fault}
use Rattle.mg_types.specs.declared.faults.Fault.TheVariants.{Malformed}
use Rattle.mg_types.specs.declared.names.FileId.{FileId}
use Rattle.mg_sealed.specs.Footer.{footer_body}
use Rattle.mg_sealed.specs.Reading.{frame_body, opened}
use Rattle.mg_sealed.specs.declared.reading.SealedFile.{SealedFile}
use Rattle.mg_indexed.specs.Footer.{footer_bytes, footer_size, index_end, others, IsFooter, IsFooterUnfit}
use Rattle.mg_indexed.specs.Forms.{Form}
use Rattle.mg_indexed.specs.Index.{index_bytes, IsIndexFrom, IsIndexUnfit}
use Rattle.mg_indexed.specs.Keys.{Keys}
use Rattle.mg_indexed.specs.declared.footer.Footer.{Footer}
use Rattle.mg_indexed.specs.declared.handle.BlockHandle.{BlockHandle}

-- The bytes are a file with this footer and this index: frames of blocks, the index, a filter where files of the kind have one, and the
-- footer.
pub record IsIndexed {K : Type 0} (keys : Keys K) (form : Form) (bytes : List ℕ) (footer : Footer) (index : List (BlockHandle K)) : Type 0 where
  pub blocks : List (List ℕ)
  pub filter : List (List ℕ)
  pub bytes_are : bytes ≡ numbered_frames ((blocks ++ index_bytes keys index ∷ filter) ++ footer_bytes footer ∷ [])
  pub is_footer : IsFooter form.filtered footer
  pub is_index : IsIndexFrom keys form keys.lowest 0 index footer.index_at
  pub few : length (index_bytes keys index) < 2 ^ 32
  pub frames : length blocks ≡ footer.blocks
  pub handles : length index ≡ footer.blocks
  pub filters : length filter + 1 ≡ others form.filtered
  pub at : footer.index_at ≡ length (numbered_frames blocks)
  pub ends : footer.index_at + length (index_bytes keys index) + 20 ≡ index_end footer.filter_at (length bytes)

-- the footer ends the file and says this
pub record IsFooterRead (filtered : Bool) (id : FileId) (bytes : List ℕ) (footer : Footer) : Type 0 where
  pub is_footer : IsFooter filtered footer
  pub body : footer_body id bytes (footer_size filtered) (others filtered) ≡ Ok (footer_bytes footer)
  pub stands : StandsAt bytes (length bytes - footer_size filtered) (footer.blocks + others filtered, footer_bytes footer)

-- the index stands where the footer says it, with as many handles as it says, and ends where the next frame begins
pub record IsIndexRead {K : Type 0} (keys : Keys K) (id : FileId) (bytes : List ℕ) (footer : Footer) (index : List (BlockHandle K)) : Type 0 where
  pub body : frame_body id bytes footer.index_at footer.blocks ≡ Ok (index_bytes keys index)
  pub stands : StandsAt bytes footer.index_at (footer.blocks, index_bytes keys index)
  pub ends : footer.index_at + length (index_bytes keys index) + 20 ≡ index_end footer.filter_at (length bytes)

-- what is kept of a file: its footer and its index
pub record Loaded (S K : Type 0) : Type 0 where
  pub file : SealedFile S
  pub footer : Footer
  pub index : List (BlockHandle K)

-- a footer and an index that may be kept of a file
pub record IsKept {K : Type 0} (keys : Keys K) (form : Form) (footer : Footer) (index : List (BlockHandle K)) : Type 0 where
  pub is_footer : IsFooter form.filtered footer
  pub right : IsIndexFrom keys form keys.lowest 0 index footer.index_at
  pub count : length index ≡ footer.blocks

-- what is wrong with the footer that ends these bytes: its frame, or what its body says
abbrev pub IsFooterRefused : Bool → FileId → List ℕ → Fault → Type 0
IsFooterRefused filtered id bytes fault =
    (footer_body id bytes (footer_size filtered) (others filtered) ≡ Err fault)
    ⊎ ((body : List ℕ) × (footer_body id bytes (footer_size filtered) (others filtered) ≡ Ok body)
    × IsFooterUnfit id (length bytes - footer_size filtered) filtered body fault)

-- what is wrong with the handles that an index has: how many they are, or where the next frame should stand
abbrev pub AreRefused : {K : Type 0} → Keys K → Form → FileId → List ℕ → Footer → List (BlockHandle K) → Fault → Type 0
AreRefused keys form id bytes footer handles fault =
    ((length handles ≢ footer.blocks) × (fault ≡ Malformed id footer.index_at))
    ⊎ ((length handles ≡ footer.blocks) × (footer.index_at + length (index_bytes keys handles) + 20 ≢ index_end footer.filter_at (length bytes))
    × (fault ≡ Malformed id (length bytes - footer_size form.filtered)))

-- what is wrong with the index where the footer says that it stands: its frame, what its body says, or the handles that it has
abbrev pub IsIndexRefused : {K : Type 0} → Keys K → Form → FileId → List ℕ → Footer → Fault → Type 0
IsIndexRefused {K} keys form id bytes footer fault =
    (frame_body id bytes footer.index_at footer.blocks ≡ Err fault)
    ⊎ ((body : List ℕ) × (frame_body id bytes footer.index_at footer.blocks ≡ Ok body)
    × (IsIndexUnfit keys form id footer.index_at body fault
    ⊎ ((handles : List (BlockHandle K)) × IsIndexFrom keys form keys.lowest 0 handles footer.index_at × (body ≡ index_bytes keys handles)
    × AreRefused keys form id bytes footer handles fault)))

-- Why a file of these bytes, of which this length is kept, is not loaded: its length; or, where that is right, its footer; or, with this
-- footer, its index.
abbrev pub IsRefused : {K S : Type 0} → Keys K → Form → FileId → S → ℕ → List ℕ → Fault → Type 0
IsRefused keys form id file len bytes fault =
    (opened id file len (footer_size form.filtered) bytes ≡ Err fault)
    ⊎ ((length bytes ≡ len) × (footer_size form.filtered ≤ len)
    × (IsFooterRefused form.filtered id bytes fault ⊎ ((footer : Footer) × IsFooterRead form.filtered id bytes footer × IsIndexRefused keys form id bytes footer fault)))
