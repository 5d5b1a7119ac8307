-- The footer of a file.
use Rattle.std.specs.Prelude.{◌≡◌, ℕ, ◌-◌, ◌<◌, ◌≤◌, ◌^◌, ◌⊎◌, Bool, true, false, List, [], ◌∷◌, ◌++◌, Option, Some, None, is_some}
use Rattle.mg_frame.specs.BigEndian.{big_endian}
use Rattle.mg_types.specs.declared.faults.Fault.{Fault}
use Rattle.mg_types.specs.declared.faults.Fault.TheVariants.{Malformed}
use Rattle.mg_types.specs.declared.names.FileId.{FileId}
use Rattle.mg_sealed.specs.Numbers.{AreKept, IsTooGreat}
use Rattle.mg_indexed.specs.declared.footer.Footer.{Footer}

-- the whole length of a footer's frame, with a filter's offset or without
abbrev pub footer_size : Bool → ℕ
footer_size true = 73
footer_size false = 65

-- how many frames stand between the blocks and the footer: the index, and a filter
abbrev pub others : Bool → ℕ
others true = 2
others false = 1

-- the offset of a filter, 0 where there is none
abbrev pub offset_of : Option ℕ → ℕ
offset_of (Some at) = at
offset_of None = 0

-- the offset of a filter in its field, where there is one
abbrev pub filter_field : Option ℕ → List ℕ
filter_field (Some at) = big_endian 8 at
filter_field None = []

-- the format 1, the number of items and the sum of their sizes
abbrev pub counts_bytes : ℕ → ℕ → List ℕ
counts_bytes count sum = big_endian 1 1 ++ (big_endian 8 count ++ big_endian 8 sum)

-- two numbers
abbrev pub span_bytes : ℕ → ℕ → List ℕ
span_bytes low high = big_endian 8 low ++ big_endian 8 high

-- the offsets of index and filter, and the number of blocks
abbrev pub offsets_bytes : ℕ → Option ℕ → ℕ → List ℕ
offsets_bytes index_at filter_at blocks = big_endian 8 index_at ++ (filter_field filter_at ++ big_endian 4 blocks)

-- the body of a footer
abbrev pub footer_bytes : Footer → List ℕ
footer_bytes footer =
    counts_bytes footer.count footer.sum ++ (span_bytes footer.low footer.high ++ offsets_bytes footer.index_at footer.filter_at footer.blocks)

-- the numbers fit their fields, and there is the offset of a filter or none
pub record IsInFields (filtered : Bool) (footer : Footer) : Type 0 where
  pub count : footer.count < 2 ^ 64
  pub sum : footer.sum < 2 ^ 64
  pub low : footer.low < 2 ^ 64
  pub high : footer.high < 2 ^ 64
  pub index_at : footer.index_at < 2 ^ 64
  pub filter_at : offset_of footer.filter_at < 2 ^ 64
  pub blocks : footer.blocks < 2 ^ 32
  pub form : is_some footer.filter_at ≡ filtered

-- the footer of a file with a filter or without
pub record IsFooter (filtered : Bool) (footer : Footer) : Type 0 where
  pub count : footer.count < 2 ^ 62
  pub sum : footer.sum < 2 ^ 62
  pub low : footer.low < 2 ^ 62
  pub high : footer.high < 2 ^ 62
  pub index_at : footer.index_at < 2 ^ 62
  pub filter_at : offset_of footer.filter_at < 2 ^ 62
  pub blocks : footer.blocks < 2 ^ 32
  pub form : is_some footer.filter_at ≡ filtered
  pub some_items : 1 ≤ footer.count
  pub some_blocks : 1 ≤ footer.blocks

-- the numbers of a footer that are below 2 ^ 62, in their order
abbrev pub footer_numbers : Footer → List ℕ
footer_numbers footer = footer.count ∷ footer.sum ∷ footer.low ∷ footer.high ∷ footer.index_at ∷ offset_of footer.filter_at ∷ []

-- what is wrong with a footer at this offset: first that it has no item, then its numbers, then that it has no block
abbrev pub AreFieldsUnfit : FileId → ℕ → Footer → Fault → Type 0
AreFieldsUnfit id at footer fault =
    ((footer.count ≡ 0) × (fault ≡ Malformed id at))
    ⊎ ((1 ≤ footer.count) × IsTooGreat id at (footer_numbers footer) fault)
    ⊎ ((1 ≤ footer.count) × AreKept (footer_numbers footer) × (footer.blocks ≡ 0) × (fault ≡ Malformed id at))

-- what is wrong with a body at the offset of a footer: it is not that of a footer in its fields, or it is that of one of which this is wrong
abbrev pub IsFooterUnfit : FileId → ℕ → Bool → List ℕ → Fault → Type 0
IsFooterUnfit id at filtered body fault =
    (((footer : Footer) → IsInFields filtered footer → body ≡ footer_bytes footer → ⊥) × (fault ≡ Malformed id at))
    ⊎ ((footer : Footer) × IsInFields filtered footer × (body ≡ footer_bytes footer) × AreFieldsUnfit id at footer fault)

-- where the index frame ends in a file of this length: where the filter stands, or the footer where there is none
abbrev pub index_end : Option ℕ → ℕ → ℕ
index_end (Some at) len = at
index_end None len = len - footer_size false
