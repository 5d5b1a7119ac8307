-- What a writer has, one record more at a time.
use Rattle.std.proofs.Common.{◌≡◌, ◌≢◌, ℕ, zero, suc, ◌+◌, ◌*◌, ◌<◌, ◌≤◌, ◌⊎◌, ◌^◌, List, [], ◌∷◌, ◌++◌, length, refl, sym, ap, ◌∙◌, subst, inl, inr, arith, append_assoc, Bool, false, Option, IfSome}
use Rattle.std.proofs.lemmas.List.{append-nil, length-append, map-append}
use Rattle.std.proofs.lemmas.List.Sums.{sum_by_push}
use Rattle.std.specs.Prelude.{sum_by, map}
use Rattle.std.specs.List.{AllByRecursion}
use Rattle.mg_frame.specs.Frames.{numbered_frames}
use Rattle.mg_sealed.specs.Writing.{Written, HasFrames}
use Rattle.mg_indexed.specs.Forms.{Form, IsFrameLength}
use Rattle.mg_indexed.specs.Index.{first_after}
use Rattle.mg_indexed.specs.NumberKeys.{number_keys}
use Rattle.mg_indexed.specs.Writing.{file_bodies, footer_from, index_length, Closed, IsSummary}
use Rattle.mg_indexed.specs.declared.footer.Summary.{Summary}
use Rattle.mg_indexed.proofs.FieldLaws.{footer_is as same_footer}
use Rattle.mg_indexed.proofs.HandleLaws.{first_after-push}
use Rattle.mg_records.specs.File.{block_of, first_number, last_number, index_from, end_of, AreRising, AreBlocks, footer_of, bodies_of}
use Rattle.mg_records.specs.Framed.{IsFramed}
use Rattle.mg_sealed.specs.Filling.{AreFilled, items_of}
use Rattle.mg_records.specs.Record.{Kind, IsLawful, IsRecord, record_bytes}
use Rattle.mg_records.specs.Indexes.{first_of}
use Rattle.mg_records.specs.Reading.{Agrees}
use Rattle.mg_records.proofs.RecordLaws.{length-record_bytes, most_in_record}
use Rattle.mg_records.specs.Writing.{Filed, Filing, HasRecords, IsBounded, IsClosing, IsOpen, Represents, IsPut, MayFollow}
use Rattle.mg_indexed.specs.declared.handle.BlockHandle.{BlockHandle}
use Rattle.mg_indexed.specs.declared.footer.Footer.{Footer}
use Rattle.mg_sealed.specs.declared.reading.SealedFile.{SealedFile}
use Rattle.mg_records.proofs.BlockLaws.{each-right, each-append, block_of-one, block_of-push, count_in_bytes, last_number_after-push, length-push, AreRising-push}
use Rattle.mg_sealed.proofs.FilledLaws.{alone-filled, filled-closed, filled-more, items_of-push, last_is_some, push-some}
use Rattle.mg_records.proofs.FileLaws.{length-index_from, index_from-push, length-blocks, end_of-push}

-- the block in writing has room for this record
pub record IsReady {T D : Type 0} (kind : Kind T) (drafted : D → Option (List ℕ)) (writer : Filing D) (it : T) (records : List T) : Type 0 where
  pub full : List (List T)
  pub last_block : List T
  pub all : records ≡ items_of full ++ last_block
  pub filled : AreFilled (block_of kind) (full ++ (last_block ++ it ∷ []) ∷ [])
  pub fit : AllByRecursion (IsRecord kind) records
  pub rise : AreRising kind records
  pub frames : HasFrames drafted writer.frames (map (block_of kind) full)
  pub index : writer.index ≡ index_from kind 0 full
  pub block : writer.block ≡ block_of kind last_block
  pub block_first : last_block ≢ [] → writer.block_first ≡ first_number kind last_block
  pub count : writer.records ≡ length records
  pub sum : writer.sum ≡ sum_by kind.size records
  pub first : writer.first ≡ first_number kind records
  pub last : writer.last ≡ last_number kind records

some_records : {T : Type 0} (xs : List T) → xs ≢ [] → 1 ≤ length xs
some_records [] some = absurd (some refl)
some_records (x ∷ xs) some = omega arith

-- a block with records has bytes
some_bytes : {T : Type 0} (kind : Kind T) → IsLawful kind → (xs : List T) → AllByRecursion (IsRecord kind) xs → xs ≢ [] → 1 ≤ length (block_of kind xs)
some_bytes kind lawful xs fit some = omega (arith, some_records xs some, count_in_bytes kind lawful xs fit)

filled_here : {T : Type 0} (kind : Kind T) → IsLawful kind → (full : List (List T)) (last_block : List T) (it : T) → AllByRecursion (IsRecord kind) last_block
    → ((full ≡ []) × (last_block ≡ [])) ⊎ AreFilled (block_of kind) (full ++ last_block ∷ [])
    → (block_of kind last_block ≡ []) ⊎ (length (block_of kind last_block) + length (record_bytes kind it) ≤ 4096)
    → AreFilled (block_of kind) (full ++ (last_block ++ it ∷ []) ∷ [])
filled_here {T} kind lawful full last_block it fit (inl none) room =
    let P : List (List T) → Type 0 = λ blocks. AreFilled (block_of kind) (blocks ++ (last_block ++ it ∷ []) ∷ []) in
    let Q : List T → Type 0 = λ xs. AreFilled (block_of kind) ((xs ++ it ∷ []) ∷ []) in
    subst P (sym none.0) (subst Q (sym none.1) (alone-filled (block_of kind) it))
filled_here kind lawful full last_block it fit (inr filled) (inl empty) =
    absurd (omega (arith, ap length empty, some_bytes kind lawful last_block fit (last_is_some (block_of kind) full last_block filled)))
filled_here kind lawful full last_block it fit (inr filled) (inr room) =
    filled-more (block_of kind) full last_block it filled
    (record { some = push-some last_block it; small = inl (omega (arith, room, length-push kind last_block it)) })

-- there is room where the block is empty, or stays within its limit
pub ready_here : {T D : Type 0} (kind : Kind T) → IsLawful kind → (drafted : D → Option (List ℕ)) (writer : Filing D) (it : T) (records : List T)
    → HasRecords kind drafted writer records → (writer.block ≡ []) ⊎ (length writer.block + length (record_bytes kind it) ≤ 4096) → IsReady kind drafted writer it records
ready_here kind lawful drafted writer it records has room =
    let fit : AllByRecursion (IsRecord kind) has.last_block = each-right (IsRecord kind) (items_of has.full) has.last_block (subst (AllByRecursion (IsRecord kind)) has.all has.fit) in
    let room' : (block_of kind has.last_block ≡ []) ⊎ (length (block_of kind has.last_block) + length (record_bytes kind it) ≤ 4096) =
    elim room [ inl empty ↦ inl (sym has.block ∙ empty) | inr less ↦ inr (omega (arith, less, ap length has.block)) ] in
    record {
      full = has.full;
      last_block = has.last_block;
      all = has.all;
      filled = filled_here kind lawful has.full has.last_block it fit has.filled room';
      fit = has.fit;
      rise = has.rise;
      frames = has.frames;
      index = has.index;
      block = has.block;
      block_first = λ _. has.block_first;
      count = has.count;
      sum = has.sum;
      first = has.first;
      last = has.last;
    }

-- the frames of the full blocks and of the last one
pub frames_closed : {T D : Type 0} (kind : Kind T) (drafted : D → Option (List ℕ)) (frames : Written D) (block : List ℕ) (full : List (List T)) (last_block : List T)
    → block ≡ block_of kind last_block → HasFrames drafted frames (map (block_of kind) full ++ block ∷ []) → HasFrames drafted frames (map (block_of kind) (full ++ last_block ∷ []))
frames_closed kind drafted frames block full last_block is has =
    let bodies : map (block_of kind) full ++ block ∷ [] ≡ map (block_of kind) (full ++ last_block ∷ []) =
    ap (λ body. map (block_of kind) full ++ body ∷ []) is ∙ sym (map-append (block_of kind) full (last_block ∷ [])) in
    subst (HasFrames drafted frames) bodies has

-- the index of the full blocks and of the last one
pub index_closed : {T D : Type 0} (kind : Kind T) (drafted : D → Option (List ℕ)) (frames : Written D) (index : List (BlockHandle ℕ)) (block : List ℕ) (block_first : ℕ) (full : List (List T)) (last_block : List T)
    → index ≡ index_from kind 0 full → block ≡ block_of kind last_block → block_first ≡ first_number kind last_block → HasFrames drafted frames (map (block_of kind) full)
    → index ++ record { first = block_first; at = frames.len; len = length block + 20 } ∷ [] ≡ index_from kind 0 (full ++ last_block ∷ [])
index_closed kind drafted frames index block block_first full last_block before is begins has =
    let at : frames.len ≡ 0 + end_of kind full = omega (arith, has.len, length-blocks kind full) in
    ap (λ handles. handles ++ record { first = block_first; at = frames.len; len = length block + 20 } ∷ []) before
    ∙ ap (λ n. index_from kind 0 full ++ record { first = n; at = frames.len; len = length block + 20 } ∷ []) begins
    ∙ ap (λ n. index_from kind 0 full ++ record { first = first_number kind last_block; at = n; len = length block + 20 } ∷ []) at
    ∙ ap (λ (body : List ℕ). index_from kind 0 full ++ record { first = first_number kind last_block; at = 0 + end_of kind full; len = length body + 20 } ∷ []) is
    ∙ sym (index_from-push kind 0 full last_block)

-- there is room in a new block
pub ready_new : {T D : Type 0} (kind : Kind T) (drafted : D → Option (List ℕ)) (old new : Filing D) (it : T) (records : List T)
    → HasRecords kind drafted old records → 1 ≤ length old.block → 4096 < length old.block + length (record_bytes kind it) → IsClosing drafted old new → IsReady kind drafted new it records
ready_new {T} kind drafted old new it records has some full closing =
    let filled : AreFilled (block_of kind) (has.full ++ has.last_block ∷ []) =
    elim has.filled [ inl none ↦ absurd (omega (arith, some, ap length has.block, ap length (ap (block_of kind) none.1))) | inr filled ↦ filled ] in
    let over : 4096 < length (block_of kind (has.last_block ++ it ∷ [])) = omega (arith, full, ap length has.block, length-push kind has.last_block it) in
    record {
      full = has.full ++ has.last_block ∷ [];
      last_block = [];
      all = has.all ∙ sym (items_of-push has.full has.last_block) ∙ sym (append-nil (items_of (has.full ++ has.last_block ∷ [])));
      filled = filled-closed (block_of kind) has.full has.last_block it filled over;
      fit = has.fit;
      rise = has.rise;
      frames = frames_closed kind drafted new.frames old.block has.full has.last_block has.block (closing.frames (map (block_of kind) has.full) has.frames);
      index = closing.index ∙ index_closed kind drafted old.frames old.index old.block old.block_first has.full has.last_block has.index has.block has.block_first has.frames;
      block = closing.block;
      block_first = λ none. absurd (none refl);
      count = closing.records ∙ has.count;
      sum = closing.sum ∙ has.sum;
      first = closing.first ∙ has.first;
      last = closing.last ∙ has.last;
    }

block_first_of : {T D : Type 0} (kind : Kind T) → IsLawful kind → (old new : Filing D) (it : T) (xs : List T) → AllByRecursion (IsRecord kind) xs → old.block ≡ block_of kind xs
    → (xs ≢ [] → old.block_first ≡ first_number kind xs) → IsPut kind old it new → new.block_first ≡ first_number kind (xs ++ it ∷ [])
block_first_of kind lawful old new it [] fit is begins put = put.block_begins is
block_first_of kind lawful old new it (x ∷ xs) fit is begins put =
    let some : x ∷ xs ≢ [] = λ e. cc in
    let bytes : old.block ≢ [] = λ e. omega (arith, ap length e, ap length is, some_bytes kind lawful (x ∷ xs) fit some) in
    put.block_goes_on bytes ∙ begins some

first_pushed : {T D : Type 0} (kind : Kind T) (old new : Filing D) (it : T) (records : List T) → old.records ≡ length records → old.first ≡ first_number kind records
    → IsPut kind old it new → new.first ≡ first_number kind (records ++ it ∷ [])
first_pushed kind old new it [] count first put = put.begins count
first_pushed kind old new it (x ∷ xs) count first put =
    let some : old.records ≢ 0 = λ e. omega (arith, e, count) in
    put.goes_on some ∙ first

follows : {T D : Type 0} (kind : Kind T) (writer : Filing D) (it : T) (records : List T) → writer.records ≡ length records → writer.last ≡ last_number kind records
    → MayFollow writer (kind.seq it) → (length records ≡ 0) ⊎ (last_number kind records < kind.seq it)
follows kind writer it records count last (inl none) = inl (sym count ∙ none)
follows kind writer it records count last (inr above) = inr (omega (arith, above, last))

-- the record was put into a block that has room for it
pub has_more : {T D : Type 0} (kind : Kind T) → IsLawful kind → (drafted : D → Option (List ℕ)) (old new : Filing D) (it : T) (records : List T) → IsRecord kind it
    → MayFollow old (kind.seq it) → IsReady kind drafted old it records → IsPut kind old it new → HasRecords kind drafted new (records ++ it ∷ [])
has_more kind lawful drafted old new it records fits follow ready put =
    let xs = ready.last_block ++ it ∷ [] in
    let all : records ++ it ∷ [] ≡ items_of ready.full ++ xs = ap (λ ys. ys ++ it ∷ []) ready.all ∙ append_assoc (items_of ready.full) ready.last_block (it ∷ []) in
    let fit : AllByRecursion (IsRecord kind) (records ++ it ∷ []) = each-append (IsRecord kind) records (it ∷ []) ready.fit (fits, tt) in
    record {
      full = ready.full;
      last_block = xs;
      all = all;
      filled = inr ready.filled;
      fit = fit;
      rise = AreRising-push kind records it ready.rise (follows kind old it records ready.count ready.last follow);
      frames = subst (λ frames. HasFrames drafted frames (map (block_of kind) ready.full)) (sym put.frames) ready.frames;
      index = put.index ∙ ready.index;
      block = put.block ∙ ap (λ bytes. bytes ++ record_bytes kind it) ready.block ∙ sym (block_of-push kind ready.last_block it);
      block_first = block_first_of kind lawful old new it ready.last_block
          (each-right (IsRecord kind) (items_of ready.full) ready.last_block (subst (AllByRecursion (IsRecord kind)) ready.all ready.fit)) ready.block ready.block_first put;
      count = omega (arith, put.records, ready.count, length-append records (it ∷ []));
      sum = omega (arith, put.sum, ready.sum, sum_by_push kind.size records it);
      first = first_pushed kind old new it records ready.count ready.first put;
      last = put.last ∙ sym (last_number_after-push kind 0 records it);
    }

-- the index item of the block in writing
abbrev pub item_of : {D : Type 0} → Filing D → BlockHandle ℕ
item_of writer = record { first = writer.block_first; at = writer.frames.len; len = length writer.block + 20 }

-- what the footer says of a writer's records
abbrev pub summary_of : {D : Type 0} → Filing D → Summary
summary_of writer = record { count = writer.records; sum = writer.sum; low = writer.first; high = writer.last }

are_blocks : {T D : Type 0} (kind : Kind T) (drafted : D → Option (List ℕ)) (writer : Filing D) (records : List T) → (has : HasRecords kind drafted writer records)
    → 0 < writer.records → 20 * (length writer.index + 1) < 2 ^ 32 → AreBlocks kind (has.full ++ has.last_block ∷ [])
are_blocks kind drafted writer records has some few =
    let in_blocks : records ≡ items_of (has.full ++ has.last_block ∷ []) = has.all ∙ sym (items_of-push has.full has.last_block) in
    let count : length records ≡ length (items_of has.full) + length has.last_block = ap length has.all ∙ length-append (items_of has.full) has.last_block in
    let filled : AreFilled (block_of kind) (has.full ++ has.last_block ∷ []) =
    elim has.filled [ inl none ↦ absurd (omega (arith, some, has.count, count, ap length has.block, ap length none.1, ap length (ap items_of none.0))) | inr filled ↦ filled ] in
    record {
      some = push-some has.full has.last_block;
      few = omega (arith, few, ap length has.index, length-index_from kind 0 has.full, length-append has.full (has.last_block ∷ []));
      filled = filled;
      fit = subst (AllByRecursion (IsRecord kind)) in_blocks has.fit;
      rise = subst (AreRising kind) in_blocks has.rise;
    }

footer_is : {T D : Type 0} (kind : Kind T) (drafted : D → Option (List ℕ)) (writer : Filing D) (at len count : ℕ) (records : List T) → (has : HasRecords kind drafted writer records)
    → at ≡ writer.frames.len + length writer.block + 20 → count ≡ length writer.index + 1
    → footer_from false (summary_of writer) at len count ≡ footer_of kind (has.full ++ has.last_block ∷ [])
footer_is {T} kind drafted writer at len count records has offset counted =
    let blocks = has.full ++ has.last_block ∷ [] in
    let in_blocks : records ≡ items_of blocks = has.all ∙ sym (items_of-push has.full has.last_block) in
    let ends : at ≡ end_of kind blocks = omega (arith, offset, has.frames.len, length-blocks kind has.full, ap length has.block, end_of-push kind has.full has.last_block) in
    let many : count ≡ length blocks = omega (arith, counted, ap length has.index, length-index_from kind 0 has.full, length-append has.full (has.last_block ∷ [])) in
    same_footer (footer_from false (summary_of writer) at len count) (footer_of kind blocks) (has.count ∙ ap length in_blocks) (has.sum ∙ ap (sum_by kind.size) in_blocks)
    (has.first ∙ ap (first_number kind) in_blocks) (has.last ∙ ap (last_number kind) in_blocks) ends refl many

-- a file that was written behind the frames of its blocks
pub record IsSealed {S : Type 0} (told : S → Option (List ℕ)) (file : SealedFile S) (bodies : List (List ℕ)) : Type 0 where
  pub bytes : IfSome (told file.file) (λ bytes. bytes ≡ numbered_frames bodies)
  pub len : file.len ≡ length (numbered_frames bodies)

-- a writer's file, whose last block was closed
pub finished : {T D S : Type 0} (kind : Kind T) (form : Form) → form.filtered ≡ false → (drafted : D → Option (List ℕ)) (told : S → Option (List ℕ)) (writer : Filing D) (closed : Closed D ℕ) (filed : Filed S) (records : List T)
    → HasRecords kind drafted writer records → 0 < writer.records → 20 * (length writer.index + 1) < 2 ^ 32
    → closed.index ≡ writer.index ++ item_of writer ∷ [] → closed.frames.len ≡ writer.frames.len + length writer.block + 20
    → ((bodies : List (List ℕ)) → HasFrames drafted writer.frames bodies → HasFrames drafted closed.frames (bodies ++ writer.block ∷ []))
    → filed.index ≡ closed.index → filed.footer ≡ footer_from form.filtered (summary_of writer) closed.frames.len (index_length number_keys closed.index) (length closed.index)
    → ((bodies : List (List ℕ)) → HasFrames drafted closed.frames bodies → IsSealed told filed.file (file_bodies number_keys form.filtered bodies closed.index [] filed.footer))
    → Represents kind told filed records
finished {T} {D} {S} kind form unfiltered drafted told writer closed filed records has some few indexed long framed index said is_sealed =
    let blocks = has.full ++ has.last_block ∷ [] in
    let bodies = map (block_of kind) has.full in
    let closed_is : closed.index ≡ index_from kind 0 blocks =
    indexed ∙ index_closed kind drafted writer.frames writer.index writer.block writer.block_first has.full has.last_block has.index has.block has.block_first has.frames in
    let many : length closed.index ≡ length writer.index + 1 = omega (arith, ap length indexed, length-append writer.index (item_of writer ∷ [])) in
    let footer : filed.footer ≡ footer_of kind blocks =
    said ∙ ap (λ (b : Bool). footer_from b (summary_of writer) closed.frames.len (index_length number_keys closed.index) (length closed.index)) unfiltered
    ∙ footer_is kind drafted writer closed.frames.len (index_length number_keys closed.index) (length closed.index) records has long many in
    let mapped : bodies ++ writer.block ∷ [] ≡ map (block_of kind) blocks =
    ap (λ body. bodies ++ body ∷ []) has.block ∙ sym (map-append (block_of kind) has.full (has.last_block ∷ [])) in
    let same : file_bodies number_keys form.filtered (bodies ++ writer.block ∷ []) closed.index [] filed.footer ≡ bodies_of kind blocks =
    ap (λ (b : Bool). file_bodies number_keys b (bodies ++ writer.block ∷ []) closed.index [] filed.footer) unfiltered
    ∙ ap (λ front. file_bodies number_keys false front closed.index [] filed.footer) mapped
    ∙ ap (λ (e : List (BlockHandle ℕ)). file_bodies number_keys false (map (block_of kind) blocks) e [] filed.footer) closed_is
    ∙ ap (λ (f : Footer). file_bodies number_keys false (map (block_of kind) blocks) (index_from kind 0 blocks) [] f) footer in
    let whole = subst (IsSealed told filed.file) same (is_sealed (bodies ++ writer.block ∷ []) (framed bodies has.frames)) in
    record {
      blocks = blocks;
      are = are_blocks kind drafted writer records has some few;
      all = items_of-push has.full has.last_block ∙ sym has.all;
      bytes = whole.bytes;
      len = whole.len;
      footer = footer;
      index = index ∙ closed_is;
    }

-- ---- what keeps a writer's numbers and its index right

first_there : {D : Type 0} (w : Filing D) (index : List (BlockHandle ℕ)) → (index ≡ [] → w.first ≡ w.block_first) → (index ≢ [] → w.first ≡ first_of index) → w.first ≡ first_of (index ++ item_of w ∷ [])
first_there w [] none some = none refl
first_there w (e ∷ index) none some = some (λ e. cc)

no_items : (index : List (BlockHandle ℕ)) (e : BlockHandle ℕ) → index ++ e ∷ [] ≡ [] → ⊥
no_items [] e is = cc
no_items (x ∷ index) e is = cc

-- the block in writing was put into the file
pub bounded_closed : {T D : Type 0} (kind : Kind T) (old new : Filing D) → IsBounded kind old → old.block ≢ [] → 20 * (length old.index + 2) < 2 ^ 32
    → new.index ≡ old.index ++ item_of old ∷ [] → new.block ≡ [] → new.records ≡ old.records → new.sum ≡ old.sum → new.first ≡ old.first → new.last ≡ old.last
    → IsBounded kind new
bounded_closed {T} {D} kind old new bounded some room index block records sum first last =
    let count : length new.index ≡ length old.index + 1 = ap length index ∙ length-append old.index (item_of old ∷ []) in
    let some_records : old.records ≢ 0 = λ e. some (bounded.none e).1 in
    record {
      blocks = omega (arith, room, count);
      block = omega (arith, ap length block);
      writing = record { records = []; fit = tt; body = block; small = inl (omega (arith, ap length block)) };
      counted = omega (arith, records, count, bounded.records);
      records = omega (arith, records, count, bounded.records);
      sum = omega (arith, sum, records, bounded.sum);
      none = λ e. absurd (some_records (sym records ∙ e));
      begins = λ more. absurd (more block);
      ends = λ _. omega (arith, ap (first_after 0) index, first_after-push 0 old.index (item_of old), (bounded.begins some).1, last);
      first = λ more. absurd (more block);
      first_later = λ _. first ∙ first_there old old.index (λ none. bounded.first some none) bounded.first_later ∙ ap first_of (sym index);
      first_small = omega (arith, first, bounded.first_small);
      last = omega (arith, last, bounded.last);
    }

some_blocks : (index : List (BlockHandle ℕ)) → index ≢ [] → 1 ≤ length index
some_blocks [] some = absurd (some refl)
some_blocks (e ∷ index) some = omega arith

none_when : (index : List (BlockHandle ℕ)) → length index ≡ 0 → index ≡ []
none_when [] none = refl
none_when (e ∷ index) none = absurd (omega (arith, none))

-- nothing was put into the block in writing
pub same_block : {T D : Type 0} (kind : Kind T) (w : Filing D) (block : List ℕ) → IsBounded kind w → w.block ≡ block
    → IsBounded kind (record { id = w.id; frames = w.frames; index = w.index; block = block; block_first = w.block_first; records = w.records; sum = w.sum; first = w.first; last = w.last })
same_block {T} {D} kind w block bounded is =
    subst (λ (b : List ℕ). let v : Filing D = record { id = w.id; frames = w.frames; index = w.index; block = b; block_first = w.block_first; records = w.records; sum = w.sum; first = w.first; last = w.last } in IsBounded kind v) is bounded

zero_or : (n : ℕ) → (n ≡ 0) ⊎ (n ≢ 0)
zero_or zero = inl refl
zero_or (suc n) = inr (λ e. omega (arith, e))

none_or : (xs : List ℕ) → (xs ≡ []) ⊎ (xs ≢ [])
none_or [] = inl refl
none_or (x ∷ xs) = inr (λ e. cc)

follow_last : {D : Type 0} (w : Filing D) (number : ℕ) → MayFollow w number → w.records ≢ 0 → w.last ≤ number
follow_last w number (inl none) some = absurd (some none)
follow_last w number (inr above) some = omega (arith, above)

-- a record was put into the block in writing
pub bounded_put : {T D : Type 0} (kind : Kind T) → IsLawful kind → (old new : Filing D) (it : T) → IsBounded kind old → IsRecord kind it → MayFollow old (kind.seq it)
    → (old.block ≡ []) ⊎ (length old.block + length (record_bytes kind it) ≤ 4096) → IsPut kind old it new → IsBounded kind new
bounded_put {T} {D} kind lawful old new it bounded fits follow room put =
    let index : length new.index ≡ length old.index = ap length put.index in
    let block : length new.block ≡ length old.block + length (record_bytes kind it) = ap length put.block ∙ length-append old.block (record_bytes kind it) in
    let bytes = length-record_bytes kind it in
    let most = most_in_record kind lawful it fits in
    let size = lawful.most_size it fits.fits in
    let some : 1 ≤ kind.seq it = fits.some in
    let small : kind.seq it < 2 ^ 62 = fits.small in
    let above : first_after 0 old.index < kind.seq it = elim follow [
      | inl none ↦ omega (arith, ap (first_after 0) (bounded.none none).0, some)
      | inr later ↦ elim (zero_or old.records) [
        | inl none ↦ omega (arith, ap (first_after 0) (bounded.none none).0, some)
        | inr more ↦ omega (arith, bounded.ends more, later)
      ]
    ] in
    let here : (first_after 0 new.index < new.block_first) × (new.block_first ≤ new.last) = elim (none_or old.block) [
      | inl none ↦ (omega (arith, ap (first_after 0) put.index, above, put.block_begins none), omega (arith, put.block_begins none, put.last))
      | inr more ↦ (
        omega (arith, ap (first_after 0) put.index, (bounded.begins more).0, put.block_goes_on more),
        omega (arith, put.block_goes_on more, put.last, (bounded.begins more).1, follow_last old (kind.seq it) follow (λ e. more (bounded.none e).1)),
      )
    ] in
    let first : new.index ≡ [] → new.first ≡ new.block_first = λ none. elim (none_or old.block) [
      | inl empty ↦
          (let zero : old.records ≡ 0 = omega (arith, bounded.counted, ap length empty, ap length (sym put.index ∙ none)) in
          put.begins zero ∙ sym (put.block_begins empty))
      | inr more ↦ put.goes_on (λ e. more (bounded.none e).1) ∙ bounded.first more (sym put.index ∙ none) ∙ sym (put.block_goes_on more)
    ] in
    let writing : IsOpen kind new.block = elim room [
      | inl none ↦ record {
        records = it ∷ [];
        fit = (fits, tt);
        body = put.block ∙ ap (λ bytes. bytes ++ record_bytes kind it) none ∙ sym (block_of-one kind it);
        small = inr refl;
      }
      | inr less ↦ record {
        records = bounded.writing.records ++ it ∷ [];
        fit = each-append (IsRecord kind) bounded.writing.records (it ∷ []) bounded.writing.fit (fits, tt);
        body = put.block ∙ ap (λ bytes. bytes ++ record_bytes kind it) bounded.writing.body ∙ sym (block_of-push kind bounded.writing.records it);
        small = inl (omega (arith, block, less));
      }
    ] in
    record {
      blocks = omega (arith, index, bounded.blocks);
      block = elim room [ inl none ↦ omega (arith, block, ap length none, most) | inr less ↦ omega (arith, block, less) ];
      writing = writing;
      counted = omega (arith, put.records, index, block, bytes, bounded.counted);
      records = elim room [
        | inl none ↦ omega (arith, put.records, index, bounded.counted, ap length none)
        | inr less ↦ omega (arith, put.records, index, bounded.counted, less, bytes)
      ];
      sum = omega (arith, put.sum, put.records, bounded.sum, size);
      none = λ e. absurd (omega (arith, put.records, e));
      begins = λ _. here;
      ends = λ _. omega (arith, here.0, here.1);
      first = λ _ none. first none;
      first_later = λ more.
          (let some' : old.records ≢ 0 = λ e. more (put.index ∙ (bounded.none e).0) in
          put.goes_on some' ∙ bounded.first_later (λ e. more (put.index ∙ e)) ∙ ap first_of (sym put.index));
      first_small = elim (zero_or old.records) [ inl none ↦ omega (arith, put.begins none, small) | inr more ↦ omega (arith, put.goes_on more, bounded.first_small) ];
      last = omega (arith, put.last, small);
    }

-- the block in writing has a frame as long as one of the kind may be
pub open_frame : {T : Type 0} (kind : Kind T) (form : Form) → IsFramed kind form → (block : List ℕ) → IsOpen kind block → block ≢ [] → IsFrameLength form (length block + 20)
open_frame kind form framed block writing some =
    subst (λ (n : ℕ). IsFrameLength form (n + 20)) (sym (ap length writing.body))
    (framed.frames writing.records writing.fit
    (record { some = λ none. some (writing.body ∙ ap (block_of kind) none); small = elim writing.small [ inl less ↦ inl (omega (arith, less, ap length writing.body)) | inr one ↦ inr one ] }))

-- ---- the file that a writer makes is kept

pub is_summary : {T D : Type 0} (kind : Kind T) (w : Filing D) → IsBounded kind w → 0 < w.records → IsSummary (summary_of w)
is_summary kind w bounded some = record {
  some = omega (arith, some);
  count = omega (arith, bounded.records, bounded.blocks);
  sum = omega (arith, bounded.sum, bounded.records, bounded.blocks);
  low = bounded.first_small;
  high = bounded.last;
}

-- with the block in writing
pub agrees_closed : {T D : Type 0} (kind : Kind T) (w : Filing D) (footer : Footer) (index : List (BlockHandle ℕ)) → IsBounded kind w → w.block ≢ [] → index ≡ w.index ++ item_of w ∷ []
    → footer.low ≡ w.first → footer.high ≡ w.last → Agrees footer index
agrees_closed kind w footer index bounded more is low high = record {
  first = ap first_of is ∙ sym (first_there w w.index (λ none. bounded.first more none) bounded.first_later) ∙ sym low;
  last = omega (arith, ap (first_after 0) is, first_after-push 0 w.index (item_of w), (bounded.begins more).1, high);
}

-- without one
pub agrees_open : {T D : Type 0} (kind : Kind T) (w : Filing D) (footer : Footer) (index : List (BlockHandle ℕ)) → IsBounded kind w → 0 < w.records → w.block ≡ [] → index ≡ w.index
    → footer.low ≡ w.first → footer.high ≡ w.last → Agrees footer index
agrees_open kind w footer index bounded some none is low high = record {
  first = ap first_of is ∙ sym (bounded.first_later (λ e. omega (arith, some, bounded.counted, ap length none, ap length e))) ∙ sym low;
  last = omega (arith, ap (first_after 0) is, bounded.ends (λ e. omega (arith, some, e)), high);
}

-- a writer that has records has some in the block in writing
pub some_in_writing : {T D : Type 0} (kind : Kind T) → IsLawful kind → (drafted : D → Option (List ℕ)) (w : Filing D) (records : List T) → HasRecords kind drafted w records → 0 < w.records → w.block ≢ []
some_in_writing {T} kind lawful drafted w records has some none = elim has.filled [
  | inl empty ↦ omega (arith, some, has.count, ap length has.all, length-append (items_of has.full) has.last_block, ap length (ap items_of empty.0), ap length empty.1)
  | inr filled ↦
      (let fit = each-right (IsRecord kind) (items_of has.full) has.last_block (subst (AllByRecursion (IsRecord kind)) has.all has.fit) in
      omega (arith, ap length none, ap length has.block, some_bytes kind lawful has.last_block fit (last_is_some (block_of kind) has.full has.last_block filled)))
]
