-- What is read of one block of a file of records.
use Rattle.std.specs.Prelude.{◌≡◌, ℕ, ◌+◌, List, ◌∷◌, ◌++◌, drop, filter, nat_lt}
use Rattle.mg_types.specs.declared.faults.Fault.{Fault}
use Rattle.mg_sealed.specs.Filling.{Fits, items_of}
use Rattle.mg_records.specs.File.{block_of}
use Rattle.mg_records.specs.Lookup.{IsBlockAt, IsBlockOf, IsBlockRefused, IsBodyRefused, IsSpan}
use Rattle.mg_records.specs.Record.{Kind}
use Rattle.mg_records.specs.Writing.{Filed}
use Rattle.mg_records.specs.declared.block.Span.{Span}

-- the records above a number, of the blocks from this one on
abbrev pub records_from : {T : Type 0} → Kind T → ℕ → ℕ → List (List T) → List T
records_from kind after number blocks = filter (λ it. nat_lt after (kind.seq it)) (items_of (drop number blocks))

-- The page is the records above a number of the block of this number, and those of the blocks behind it follow it.
pub record IsPage {T : Type 0} (kind : Kind T) (after : ℕ) (blocks : List (List T)) (number : ℕ) (page : List T) : Type 0 where
  pub block : List T
  pub here : drop number blocks ≡ block ∷ drop (number + 1) blocks
  pub are : page ≡ filter (λ it. nat_lt after (kind.seq it)) block
  pub follow : page ++ records_from kind after (number + 1) blocks ≡ records_from kind after number blocks

-- The page is the records above a number of a block that may stand where the index has the block of this number.
pub record IsPageOf {T S : Type 0} (kind : Kind T) (filed : Filed S) (number after : ℕ) (page : List T) : Type 0 where
  pub block : List T
  pub span : Span
  pub is_span : IsSpan filed number span
  pub is_block : IsBlockOf kind span (block_of kind block) block
  pub fits : Fits (block_of kind) block
  pub are : page ≡ filter (λ it. nat_lt after (kind.seq it)) block

-- The page is the records above a number of the block whose frame stands where the index says.
pub record IsPageRead {T S : Type 0} (kind : Kind T) (bytes : List ℕ) (filed : Filed S) (number after : ℕ) (page : List T) : Type 0 where
  pub block : List T
  pub stands : IsBlockAt kind bytes filed number block
  pub fits : Fits (block_of kind) block
  pub are : page ≡ filter (λ it. nat_lt after (kind.seq it)) block

-- what is wrong with the block of this number, where the block before it is taken as full
abbrev pub IsPageRefused : {T S : Type 0} → Kind T → List ℕ → Filed S → ℕ → Fault → Type 0
IsPageRefused kind bytes filed number fault = (refused : IsBlockRefused bytes filed (IsBodyRefused kind 4096) fault) × (refused.number ≡ number)
