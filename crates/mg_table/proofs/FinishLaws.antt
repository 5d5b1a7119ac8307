-- Blocks that are closed, and the table that they make.
use Rattle.std.proofs.Common.{true, ◌≡◌, ◌≢◌, ℕ, ◌+◌, ◌^◌, ◌<◌, List, [], ◌∷◌, ◌++◌, length, map, Option, Some, IfSome, Result, Ok, Err, OnOk, inl, inr, refl, sym, ap, ◌∙◌, arith, append_assoc, subst}
use Rattle.std.proofs.lemmas.List.{length-map, map-append}
use Rattle.mg_bloom.specs.Bloom.{bit_count, key_words, IsBitCountFor}
use Rattle.mg_bloom.specs.Folding.{KeepsWords}
use Rattle.mg_frame.specs.Frames.{numbered_frames}
use Rattle.mg_types.specs.declared.faults.Fault.{Fault}
use Rattle.mg_types.specs.declared.items.Entry.{Entry}
use Rattle.mg_sealed.specs.Filling.{AreFilled, items_of}
use Rattle.mg_sealed.specs.Writing.{HasFrames}
use Rattle.mg_sealed.proofs.FilledLaws.{items_of-push}
use Rattle.mg_indexed.specs.Footer.{footer_bytes}
use Rattle.mg_indexed.specs.Index.{index_bytes}
use Rattle.mg_indexed.specs.TableKeys.{table_keys}
use Rattle.mg_indexed.specs.Writing.{file_bodies, footer_from, index_length, Closed}
use Rattle.mg_indexed.specs.declared.footer.Footer.{Footer}
use Rattle.mg_indexed.specs.declared.handle.BlockHandle.{BlockHandle}
use Rattle.mg_indexed.proofs.FieldLaws.{footer_is, handle_is}
use Rattle.mg_table.specs.Entries.{block_body, first_key, pair_of}
use Rattle.mg_table.specs.Index.{handles_from}
use Rattle.mg_table.specs.Table.{footer_of, hashed_keys, sizes_of, table_bodies, Represents}
use Rattle.mg_table.specs.Writing.{HasBlocks, IsWriting, Writing}
use Rattle.mg_table.specs.declared.table.Table.{Table}
use Rattle.mg_table.proofs.FilterLaws.{IsFilterOf-folded}
use Rattle.mg_table.proofs.IndexLaws.{length-frames, place_behind, handles_from-push, total}
use Rattle.mg_table.proofs.LoadingLaws.{length-handles_from}

-- ---- a block more is closed

pub closes : {D : Type 0} (drafted : D → Option (List ℕ)) (old new : Closed D (List ℕ)) (blocks : List (List Entry)) (entries : List Entry) (block : List ℕ) (handle : BlockHandle (List ℕ))
    → HasBlocks drafted old blocks → HasFrames drafted new.frames (map block_body blocks ++ block ∷ []) → new.index ≡ old.index ++ handle ∷ []
    → handle.first ≡ first_key entries → handle.at ≡ old.frames.len → handle.len ≡ length block + 20 → block ≡ block_body entries
    → HasBlocks drafted new (blocks ++ entries ∷ [])
closes drafted old new blocks entries block handle has frames pushed key at len is =
    let zero : total blocks ≡ 0 + total blocks = omega arith in
    let behind : handle ≡ place_behind (0 + total blocks) entries =
    handle_is handle (place_behind (0 + total blocks) entries) key (at ∙ has.frames.len ∙ length-frames blocks ∙ zero) (len ∙ ap (λ xs. length xs + 20) is) in
    record {
      frames = subst (HasFrames drafted new.frames) (ap (λ body. map block_body blocks ++ body ∷ []) is ∙ sym (map-append block_body blocks (entries ∷ []))) frames;
      index = pushed ∙ ap (λ ps. ps ++ handle ∷ []) has.index ∙ ap (λ (p : BlockHandle (List ℕ)). handles_from 0 blocks ++ p ∷ []) behind ∙ sym (handles_from-push 0 blocks entries);
    }

pub both_ok : {V : Type 0} (result : Result V Fault) (A B C : Type 0) → (A → B → C) → OnOk result A → OnOk result B → OnOk result C
both_ok (Ok value) A B C step a b = step a b
both_ok (Err fault) A B C step a b = tt

-- ---- the table

-- what is put behind the blocks, and what is kept of a table
pub record Finishes {D S : Type 0} (drafted : D → Option (List ℕ)) (told : S → Option (List ℕ)) (writer : Writing D) (closed : Closed D (List ℕ)) (table : Table S) : Type 0 where
  pub some : writer.block ≢ []
  pub few : index_length table_keys closed.index < 2 ^ 32
  pub lo : writer.lo < 2 ^ 62
  pub hi : writer.hi < 2 ^ 62
  pub filter_size : IsBitCountFor writer.count (bit_count table.filter)
  pub filter_words : KeepsWords writer.filter table.filter
  pub index : table.indexed.index ≡ closed.index
  pub footer : table.indexed.footer
      ≡ footer_from true (record { count = writer.count; sum = writer.sizes; low = writer.lo; high = writer.hi }) closed.frames.len (index_length table_keys closed.index) (length closed.index)
  pub sealed : (bodies : List (List ℕ)) → HasFrames drafted closed.frames bodies
      → (table.indexed.file.len ≡ length (numbered_frames (file_bodies table_keys true bodies closed.index table.filter table.indexed.footer)))
      × IfSome (told table.indexed.file.file) (λ bytes. bytes ≡ numbered_frames (file_bodies table_keys true bodies closed.index table.filter table.indexed.footer))

nil_behind : {T : Type 0} (xs ys : List T) → xs ++ ys ≡ [] → ys ≡ []
nil_behind [] ys none = none
nil_behind (x ∷ xs) ys none = absurd cc

pub finished : {D S : Type 0} (drafted : D → Option (List ℕ)) (told : S → Option (List ℕ)) (writer : Writing D) (closed : Closed D (List ℕ)) (table : Table S)
    (entries : List Entry) (blocks : List (List Entry)) (last : List Entry)
    → IsWriting drafted writer entries blocks last → HasBlocks drafted closed (blocks ++ last ∷ []) → Finishes drafted told writer closed table → Represents told table entries
finished drafted told writer closed table entries blocks last is has ends =
    let all = blocks ++ last ∷ [] in
    let bodies = map block_body all in
    let begun : last ≢ [] = λ none. ends.some (is.block ∙ ap (map pair_of) none) in
    let whole : items_of all ≡ entries = items_of-push blocks last ∙ is.parts in
    let filled : AreFilled block_body all = elim is.filled [ inl none ↦ absurd (begun none.1) | inr some ↦ some.1 ] in
    let footer : table.indexed.footer ≡ footer_of table.indexed.footer.low table.indexed.footer.high all table.filter =
    footer_is table.indexed.footer (footer_of table.indexed.footer.low table.indexed.footer.high all table.filter)
    (ap (λ (f : Footer). f.count) ends.footer ∙ is.count ∙ sym (ap length whole))
    (ap (λ (f : Footer). f.sum) ends.footer ∙ is.sizes ∙ sym (ap sizes_of whole)) refl refl
    (ap (λ (f : Footer). f.index_at) ends.footer ∙ has.frames.len)
    (ap (λ (f : Footer). f.filter_at) ends.footer ∙ ap (λ n. Some (n + length (index_bytes table_keys closed.index) + 20)) has.frames.len
    ∙ ap (λ ps. Some (length (numbered_frames bodies) + length (index_bytes table_keys ps) + 20)) has.index)
    (ap (λ (f : Footer). f.blocks) ends.footer ∙ ap length has.index ∙ length-handles_from 0 all) in
    let same : file_bodies table_keys true bodies closed.index table.filter table.indexed.footer ≡ table_bodies table.indexed.footer.low table.indexed.footer.high all table.filter =
    append_assoc bodies (index_bytes table_keys closed.index ∷ table.filter ∷ []) (footer_bytes table.indexed.footer ∷ [])
    ∙ ap (λ ps. bodies ++ index_bytes table_keys ps ∷ table.filter ∷ footer_bytes table.indexed.footer ∷ []) has.index
    ∙ ap (λ f. bodies ++ index_bytes table_keys (handles_from 0 all) ∷ table.filter ∷ footer_bytes f ∷ []) footer in
    let sealed = ends.sealed bodies has.frames in
    let Frames = λ (bs : List (List ℕ)). (table.indexed.file.len ≡ length (numbered_frames bs)) × IfSome (told table.indexed.file.file) (λ bytes. bytes ≡ numbered_frames bs) in
    let told_is = subst Frames same sealed in
    record {
      blocks = all;
      parts = record {
        listed = record {
          some = λ none. begun (nil_behind (items_of blocks) last (is.parts ∙ none));
          rising = is.rising;
          whole = whole;
          filled = filled;
          few = subst (λ (ps : List (BlockHandle (List ℕ))). length (index_bytes table_keys ps) < 2 ^ 32) has.index ends.few;
          from = omega (arith, ap (λ (f : Footer). f.low) ends.footer, ends.lo);
          to = omega (arith, ap (λ (f : Footer). f.high) ends.footer, ends.hi);
        };
        filtered = IsFilterOf-folded (hashed_keys entries) writer.count writer.filter table.filter (is.count ∙ sym (length-map entries (λ (e : Entry). key_words e.key)))
            ends.filter_size is.filter ends.filter_words;
      };
      footer = footer;
      index = ends.index ∙ has.index;
      len = told_is.0;
      file = told_is.1;
    }
