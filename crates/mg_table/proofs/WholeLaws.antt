-- Blocks that were read and are filled, behind a footer that counts them, are the bytes of a table.
use Rattle.std.proofs.Common.{◌≡◌, ℕ, ◌+◌, ◌-◌, ◌≤◌, inl, inr, cond, true, is_some, Option, Some, None, List, [], ◌∷◌, ◌++◌, length, map, drop, refl, sym, ap, ◌∙◌, subst, arith, Result, Ok, Err}
use Rattle.std.proofs.lemmas.Bool.{cases_eq, eq-eqb, ne_eqb}
use Rattle.std.proofs.lemmas.List.{drop_at, length-drop}
use Rattle.std.specs.List.{enumerate_from}
use Rattle.mg_frame.specs.Frame.{frame, StandsAt}
use Rattle.mg_frame.specs.Frames.{frames, numbered_frames}
use Rattle.mg_frame.proofs.BigEndianLaws.{drop_past}
use Rattle.mg_frame.proofs.FrameLaws.{length-frame}
use Rattle.mg_types.specs.declared.faults.Fault.{Fault}
use Rattle.mg_types.specs.declared.faults.Fault.TheVariants.{Malformed}
use Rattle.mg_types.specs.declared.items.Entry.{Entry}
use Rattle.mg_types.specs.declared.names.FileId.{FileId}
use Rattle.mg_sealed.specs.Blocks as sealed
use Rattle.mg_sealed.specs.Filling.{AreFilled, items_of}
use Rattle.mg_sealed.specs.Reading.{frame_body}
use Rattle.mg_table.specs.Entries.{block_body, first_key, AreEntries}
use Rattle.mg_indexed.specs.Footer.{footer_bytes, index_end, offset_of}
use Rattle.mg_table.specs.Index.{frame_length, handles_from}
use Rattle.mg_indexed.specs.Index.{index_bytes, IsIndexFrom}
use Rattle.mg_indexed.specs.TableKeys.{table_keys}
use Rattle.mg_indexed.specs.Forms.{table_form}
use Rattle.mg_table.specs.Loading.{IsRead}
use Rattle.mg_table.specs.Reading.{read_at, AreRead}
use Rattle.mg_table.specs.Scanning.{AreCounted, AreHeaded}
use Rattle.mg_table.specs.Table.{footer_of, sizes_of, IsTableBut}
use Rattle.mg_indexed.specs.declared.footer.Footer.{Footer}
use Rattle.mg_indexed.specs.declared.handle.BlockHandle.{BlockHandle}
use Rattle.mg_table.specs.declared.table.Table.{Table}
use Rattle.mg_table.proofs.IndexLaws.{length-frames, place_behind, total}
use Rattle.mg_table.proofs.CauseLaws.{read-length}
use Rattle.mg_indexed.proofs.FieldLaws.{footer_is, handle_is, length-footer_bytes, none_left}

-- ---- a block

-- a block that was read is a frame of the length that the index says
judged-ok : (id : FileId) (at len : ℕ) (r : Result (List ℕ) Fault) (body : List ℕ) → sealed.judged_block id at len r ≡ Ok body → length body + 20 ≡ len
judged-ok id at len (Err fault) body is = absurd cc
judged-ok id at len (Ok b) body is = elim (cases_eq (length b + 20) len) [
  | inl same ↦
      let v : Result (List ℕ) Fault = Ok b in
      let bad : Result (List ℕ) Fault = Err (Malformed id at) in
      let e : v ≡ Ok body = sym (ap (λ t. cond t v bad) (eq-eqb (length b + 20) len same)) ∙ is in
      let one : b ≡ body = cc in
      ap (λ (xs : List ℕ). length xs + 20) (sym one) ∙ same
  | inr other ↦
      let v : Result (List ℕ) Fault = Ok b in
      let bad : Result (List ℕ) Fault = Err (Malformed id at) in
      let e : bad ≡ Ok body = sym (ap (λ t. cond t v bad) (ne_eqb (length b + 20) len other)) ∙ is in
      absurd cc
]

block-length : (id : FileId) (bytes : List ℕ) (handle : BlockHandle (List ℕ)) (number : ℕ) (body : List ℕ) → read_at id bytes handle number ≡ Ok body → length body + 20 ≡ handle.len
unfolding sealed.block_body
block-length id bytes handle number body is = judged-ok id handle.at handle.len (frame_body id bytes handle.at number) body is

-- ---- frames one behind the other

-- frames of these bodies, of which the first has this number, stand one behind the other from this offset to the end of the bytes
AllStand : List ℕ → ℕ → ℕ → List (List ℕ) → Type 0
AllStand bytes at number [] = drop at bytes ≡ []
AllStand bytes at number (body ∷ bodies) = StandsAt bytes at (number, body) × AllStand bytes (at + (length body + 20)) (number + 1) bodies

all_stand : (bytes : List ℕ) (at number : ℕ) (bodies : List (List ℕ)) → AllStand bytes at number bodies → drop at bytes ≡ frames (enumerate_from number bodies)
unfolding AllStand frames
all_stand bytes at number [] stand = stand
all_stand bytes at number (body ∷ bodies) stand =
    let here = stand.0 in
    let long : length (frame number body) ≡ length body + 20 = length-frame number body in
    let behind : drop (at + (length body + 20)) bytes ≡ here.rest =
    sym (drop_past bytes at (length body + 20)) ∙ ap (drop (length body + 20)) here.spelled ∙ drop_at (frame number body) here.rest (length body + 20) long in
    here.spelled ∙ ap (λ xs. frame number body ++ xs) (sym behind ∙ all_stand bytes (at + (length body + 20)) (number + 1) bodies stand.1)

blocks_stand : (id : FileId) (bytes : List ℕ) (at number : ℕ) (key : List ℕ) (handles : List (BlockHandle (List ℕ))) (blocks : List (List Entry)) (end : ℕ) (more : List (List ℕ))
    → IsIndexFrom table_keys table_form key at handles end → AreRead id bytes number handles blocks → AllStand bytes end (number + length blocks) more → AllStand bytes at number (map block_body blocks ++ more)
unfolding AllStand
blocks_stand id bytes at number key [] [] end more index read rest =
    subst (λ (n : ℕ). AllStand bytes n number more) (sym index) (subst (λ (n : ℕ). AllStand bytes end n more) (omega arith) rest)
blocks_stand id bytes at number key [] (block ∷ blocks) end more index read rest = absurd read
blocks_stand id bytes at number key (handle ∷ handles) [] end more index read rest = absurd read
blocks_stand id bytes at number key (handle ∷ handles) (block ∷ blocks) end more index read rest =
    let here = block-length id bytes handle number (block_body block) read.0 in
    let next : at + handle.len ≡ at + (length (block_body block) + 20) = omega (arith, here) in
    let tail = blocks_stand id bytes (at + handle.len) (number + 1) handle.first handles blocks end more index.1 read.3
    (subst (λ (n : ℕ). AllStand bytes end n more) (omega arith) rest) in (
      subst (λ (n : ℕ). StandsAt bytes n (number, block_body block)) index.0.1 read.1,
      subst (λ (n : ℕ). AllStand bytes n (number + 1) (map block_body blocks ++ more)) next tail,
    )

-- the index is that of the blocks
handles-are : (id : FileId) (bytes : List ℕ) (at number : ℕ) (key : List ℕ) (handles : List (BlockHandle (List ℕ))) (blocks : List (List Entry)) (end : ℕ) → IsIndexFrom table_keys table_form key at handles end
    → AreRead id bytes number handles blocks → AreHeaded handles blocks → handles ≡ handles_from at blocks
handles-are id bytes at number key [] [] end index read headed = refl
handles-are id bytes at number key [] (block ∷ blocks) end index read headed = absurd read
handles-are id bytes at number key (handle ∷ handles) [] end index read headed = absurd read
handles-are id bytes at number key (handle ∷ handles) (block ∷ blocks) end index read headed =
    let here = block-length id bytes handle number (block_body block) read.0 in
    let first : handle ≡ place_behind at block = handle_is handle (place_behind at block) headed.0 index.0.1 (sym here) in
    let next : at + handle.len ≡ at + frame_length block = omega (arith, here) in
    ap (λ (p : BlockHandle (List ℕ)). p ∷ handles) first
    ∙ ap (λ ps. place_behind at block ∷ ps)
    (handles-are id bytes (at + handle.len) (number + 1) handle.first handles blocks end index.1 read.3 headed.1 ∙ ap (λ (n : ℕ). handles_from n blocks) next)

index-ends : (key : List ℕ) (at : ℕ) (blocks : List (List Entry)) (end : ℕ) → IsIndexFrom table_keys table_form key at (handles_from at blocks) end → end ≡ at + total blocks
index-ends key at [] end index = omega (arith, index)
index-ends key at (block ∷ blocks) end index =
    omega (arith, index-ends (first_key block) (at + frame_length block) blocks end index.1)

-- where a filter stands, the index ends there
index_end-some : (filter_at : Option ℕ) (len : ℕ) → is_some filter_at ≡ true → index_end filter_at len ≡ offset_of filter_at
index_end-some (Some at) len some = refl
index_end-some None len some = absurd cc

-- a filter stands where the index ends
filter_is : (filter_at : Option ℕ) (len : ℕ) → is_some filter_at ≡ true → (end : ℕ) {other : ℕ} → other ≡ index_end filter_at len → other ≡ end → filter_at ≡ Some end
filter_is (Some at) len some end ends same = ap (λ (n : ℕ). Some n) (sym ends ∙ same)
filter_is None len some end ends same = absurd cc

-- index, filter and footer stand behind the blocks, and end the bytes
tail_stands : {S : Type 0} (id : FileId) (bytes : List ℕ) (table : Table S) (number : ℕ) → IsRead id bytes table → number ≡ table.indexed.footer.blocks
    → AllStand bytes table.indexed.footer.index_at number (index_bytes table_keys table.indexed.index ∷ table.filter ∷ footer_bytes table.indexed.footer ∷ [])
unfolding AllStand
tail_stands id bytes table number is count =
    let f = table.indexed.footer in
    let body = footer_bytes f in
    let end = length bytes - 73 in
    let at = offset_of f.filter_at in
    let one = is.index.stands in
    let two = is.filter.stands in
    let three = is.footer.stands in
    let form = is.kept.is_footer.form in
    let at-two : at ≡ f.index_at + (length (index_bytes table_keys table.indexed.index) + 20) = sym (is.index.ends ∙ index_end-some f.filter_at (length bytes) form) ∙ omega arith in
    let at-three : end ≡ f.index_at + (length (index_bytes table_keys table.indexed.index) + 20) + (length table.filter + 20) = omega (arith, at-two, is.filter.ends) in
    let n-three : f.blocks + 2 ≡ number + 1 + 1 = omega (arith, count) in
    let past : length (drop (f.index_at + (length (index_bytes table_keys table.indexed.index) + 20) + (length table.filter + 20) + (length body + 20)) bytes) ≡ 0 =
    omega (arith, at-three, length-footer_bytes true f form, length-drop (f.index_at + (length (index_bytes table_keys table.indexed.index) + 20) + (length table.filter + 20) + (length body + 20)) bytes) in
    let one' = subst (λ (n : ℕ). StandsAt bytes f.index_at (n, index_bytes table_keys table.indexed.index)) (sym count) one in
    let two' = subst (λ (n : ℕ). StandsAt bytes (f.index_at + (length (index_bytes table_keys table.indexed.index) + 20)) (n, table.filter)) (ap (λ n. n + 1) (sym count))
    (subst (λ (at : ℕ). StandsAt bytes at (f.blocks + 1, table.filter)) at-two two) in
    let three' = subst (λ (n : ℕ). StandsAt bytes (f.index_at + (length (index_bytes table_keys table.indexed.index) + 20) + (length table.filter + 20)) (n, body)) n-three
    (subst (λ (at : ℕ). StandsAt bytes at (f.blocks + 2, body)) at-three three) in
    let none = none_left (drop (f.index_at + (length (index_bytes table_keys table.indexed.index) + 20) + (length table.filter + 20) + (length body + 20)) bytes) past in
    (one', (two', (three', none)))

some-counted : (entries : List Entry) (n : ℕ) → length entries ≡ n → 1 ≤ n → entries ≡ [] → ⊥
some-counted [] n count some none = absurd (omega (arith, count, some))
some-counted (entry ∷ entries) n count some none = cc

-- what was scanned of a file that was loaded is a table, but for the bits of its filter
pub is-whole : {S : Type 0} (id : FileId) (bytes : List ℕ) (table : Table S) (entries : List Entry) (blocks : List (List Entry)) → IsRead id bytes table
    → AreRead id bytes 0 table.indexed.index blocks → AreHeaded table.indexed.index blocks → AreFilled block_body blocks → entries ≡ items_of blocks → AreEntries entries
    → AreCounted table.indexed.footer entries → IsTableBut bytes table.indexed.footer.low table.indexed.footer.high entries table.filter
unfolding numbered_frames
is-whole id bytes table entries blocks is read headed filled items rising counted =
    let f = table.indexed.footer in
    let index = is.index in
    let handles = handles-are id bytes 0 0 [] table.indexed.index blocks f.index_at is.kept.right read headed in
    let count : length blocks ≡ f.blocks = read-length id bytes 0 table.indexed.index blocks read ∙ is.kept.count in
    let ends = index-ends [] 0 blocks f.index_at (subst (λ hs. IsIndexFrom table_keys table_form [] 0 hs f.index_at) handles is.kept.right) in
    let index_at : f.index_at ≡ length (numbered_frames (map block_body blocks)) = omega (arith, ends, length-frames blocks) in
    let long : length (index_bytes table_keys table.indexed.index) ≡ length (index_bytes table_keys (handles_from 0 blocks)) = ap (λ hs. length (index_bytes table_keys hs)) handles in
    let footer : f ≡ footer_of f.low f.high blocks table.filter =
    footer_is f (footer_of f.low f.high blocks table.filter) (sym counted.0 ∙ ap length items) (sym counted.1 ∙ ap sizes_of items) refl refl index_at
    (filter_is f.filter_at (length bytes) is.kept.is_footer.form _ index.ends (omega (arith, index_at, long))) (sym count) in
    let tail = tail_stands id bytes table (0 + length blocks) is (omega (arith, count)) in
    let stand = blocks_stand id bytes 0 0 [] table.indexed.index blocks f.index_at (index_bytes table_keys table.indexed.index ∷ table.filter ∷ footer_bytes f ∷ []) is.kept.right read tail in
    let spelled = all_stand bytes 0 0 (map block_body blocks ++ index_bytes table_keys table.indexed.index ∷ table.filter ∷ footer_bytes f ∷ []) stand in
    record {
      blocks = blocks;
      parts = record {
        some = some-counted entries f.count counted.0 is.kept.is_footer.some_items;
        rising = rising;
        whole = sym items;
        filled = filled;
        few = omega (arith, long, index.stands.fits.body_fits);
        from = is.kept.is_footer.low;
        to = is.kept.is_footer.high;
      };
      bytes_are = spelled
          ∙ ap (λ hs. frames (enumerate_from 0 (map block_body blocks ++ index_bytes table_keys hs ∷ table.filter ∷ footer_bytes f ∷ []))) handles
          ∙ ap (λ (g : Footer). frames (enumerate_from 0 (map block_body blocks ++ index_bytes table_keys (handles_from 0 blocks) ∷ table.filter ∷ footer_bytes g ∷ []))) footer;
    }
