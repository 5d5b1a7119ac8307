-- Blocks that were read from the first one on are those of a file.
use Rattle.std.proofs.Common.{◌≡◌, ℕ, zero, suc, ◌+◌, ◌-◌, ◌<◌, List, [], ◌∷◌, ◌++◌, length, take, drop, refl, sym, ap, ◌∙◌, subst, arith, append_assoc, Option, None, Some, false}
use Rattle.std.proofs.lemmas.List.{append-nil, length-append, length-map, map-append, take_all, take_at}
use Rattle.std.proofs.Math.Seq.{take-add}
use Rattle.std.specs.Prelude.{filter, map, nat_lt, slice_index_or, sum_by, is_some}
use Rattle.std.specs.List.{AllByRecursion}
use Rattle.mg_frame.specs.Frame.{frame, StandsAt}
use Rattle.mg_frame.specs.Frames.{numbered_frames}
use Rattle.mg_frame.proofs.FrameLaws.{length-frame}
use Rattle.mg_sealed.specs.Filling.{Fits, AreFilled, items_of}
use Rattle.mg_sealed.proofs.FilledLaws.{items_of-push}
use Rattle.mg_sealed.proofs.WritingLaws.{numbered-more, numbered-none}
use Rattle.mg_indexed.specs.Footer.{footer_bytes, index_end}
use Rattle.mg_indexed.specs.Forms.{Form}
use Rattle.mg_indexed.specs.Index.{index_bytes, IsIndexFrom}
use Rattle.mg_indexed.specs.NumberKeys.{number_keys}
use Rattle.mg_indexed.specs.NumberKeyLaws.{number_lawful}
use Rattle.mg_indexed.proofs.FieldLaws.{footer_is, handle_is, length-footer_bytes}
use Rattle.mg_indexed.proofs.IndexLaws.{above_previous, rising}
use Rattle.mg_records.specs.File.{block_of, first_number, last_number, frame_length, index_from, end_of, AreRising, IsFile, footer_of}
use Rattle.mg_records.specs.Indexes.{first_of}
use Rattle.mg_records.specs.Lookup.{AreBlocksOf, Follows, IsBlockAt, last_length}
use Rattle.mg_records.specs.Reading.{IsKept, IsRead}
use Rattle.mg_records.specs.Record.{Kind, IsRecord}
use Rattle.mg_records.specs.Writing.{Filed}
use Rattle.mg_indexed.specs.declared.footer.Footer.{Footer}
use Rattle.mg_indexed.specs.declared.handle.BlockHandle.{BlockHandle}
use Rattle.mg_records.proofs.BlockLaws.{each-append, length-push}
use Rattle.mg_records.proofs.FileLaws.{end_of-push, index_from-push, length-index_bytes, length-index_from}
use Rattle.mg_records.proofs.LoadingLaws.{first_agrees}
use Rattle.mg_records.proofs.ScanLaws.{filter_all}
use Rattle.mg_records.proofs.WithinLaws.{first_is, last_below, last_on, rising_on, within_rising}

-- ---- frames one after the other

front_more : (bytes : List ℕ) (bodies : List (List ℕ)) (at : ℕ) (body : List ℕ) → take at bytes ≡ numbered_frames bodies → StandsAt bytes at (length bodies, body)
    → take (at + (length body + 20)) bytes ≡ numbered_frames (bodies ++ body ∷ [])
front_more bytes bodies at body front stands =
    let size = length body + 20 in
    take-add at size bytes
    ∙ ap (λ (xs : List ℕ). xs ++ take size (drop at bytes)) front
    ∙ ap (λ (xs : List ℕ). numbered_frames bodies ++ xs)
    (ap (take size) stands.spelled ∙ take_at (frame (length bodies) body) stands.rest size (length-frame (length bodies) body))
    ∙ sym (numbered-more bodies body)

-- ---- blocks that are filled, with one more

filled_push : {T : Type 0} (kind : Kind T) (blocks : List (List T)) (block : List T) → AreFilled (block_of kind) blocks → Fits (block_of kind) block → Follows kind (last_length kind blocks) block
    → AreFilled (block_of kind) (blocks ++ block ∷ [])
filled_push kind [] block filled fits follows = (fits, tt, tt)
filled_push kind (b ∷ []) [] filled fits follows = absurd (fits.some refl)
filled_push kind (b ∷ []) (x ∷ xs) filled fits follows = (filled.0, omega (arith, follows, length-push kind b x), (fits, tt, tt))
filled_push kind (b ∷ ([] ∷ blocks)) block filled fits follows = absurd (filled.2.0.some refl)
filled_push kind (b ∷ ((y ∷ ys) ∷ blocks)) block filled fits follows = (filled.0, filled.1, filled_push kind ((y ∷ ys) ∷ blocks) block filled.2 fits follows)

pub last_length-push : {T : Type 0} (kind : Kind T) (blocks : List (List T)) (block : List T) → last_length kind (blocks ++ block ∷ []) ≡ length (block_of kind block)
last_length-push kind [] block = refl
last_length-push kind (b ∷ []) block = refl
last_length-push kind (b ∷ (c ∷ blocks)) block = last_length-push kind (c ∷ blocks) block

-- ---- what is known of the first blocks

pub record IsFront {T S : Type 0} (kind : Kind T) (form : Form) (bytes : List ℕ) (filed : Filed S) (count : ℕ) (blocks : List (List T)) : Type 0 where
  pub many : length blocks ≡ count
  pub filled : AreFilled (block_of kind) blocks
  pub fit : AllByRecursion (IsRecord kind) (items_of blocks)
  pub rise : AreRising kind (items_of blocks)
  pub left : List (BlockHandle ℕ)
  pub previous : ℕ
  pub index_is : filed.index ≡ index_from kind 0 blocks ++ left
  pub right : IsIndexFrom number_keys form previous (end_of kind blocks) left filed.footer.index_at
  pub below : (d : BlockHandle ℕ) → count < length filed.index → last_number kind (items_of blocks) < (slice_index_or filed.index count d).first
  pub frames : take (end_of kind blocks) bytes ≡ numbered_frames (map (block_of kind) blocks)

slice_middle : (xs : List (BlockHandle ℕ)) (e : BlockHandle ℕ) (ys : List (BlockHandle ℕ)) (d : BlockHandle ℕ) → slice_index_or (xs ++ e ∷ ys) (length xs) d ≡ e
slice_middle [] e ys d = refl
slice_middle (x ∷ xs) e ys d = slice_middle xs e ys d

front_none : {T S : Type 0} (kind : Kind T) (form : Form) (bytes : List ℕ) (filed : Filed S) → IsKept form filed.footer filed.index → IsFront kind form bytes filed 0 []
front_none kind form bytes filed kept = record {
  many = refl;
  filled = tt;
  fit = tt;
  rise = tt;
  left = filed.index;
  previous = 0;
  index_is = refl;
  right = kept.whole.right;
  below = λ d within. omega (arith, above_previous number_keys form number_lawful 0 0 filed.index filed.footer.index_at kept.whole.right 0 d within);
  frames = sym numbered-none;
}

-- one block more, whose item follows in the index
front_with : {T S : Type 0} (kind : Kind T) (form : Form) (bytes : List ℕ) (filed : Filed S) (count : ℕ) (blocks : List (List T)) (block : List T) (left : List (BlockHandle ℕ)) → IsKept form filed.footer filed.index
    → (front : IsFront kind form bytes filed count blocks) → front.left ≡ left → IsBlockAt kind bytes filed count block → Fits (block_of kind) block → Follows kind (last_length kind blocks) block
    → IsFront kind form bytes filed (count + 1) (blocks ++ block ∷ [])
front_with {T} {S} kind form bytes filed count blocks block [] kept front none at fits follows =
    absurd (omega (arith, at.is_span.within, ap length front.index_is, length-append (index_from kind 0 blocks) front.left, ap length none, length-index_from kind 0 blocks, front.many))
front_with {T} {S} kind form bytes filed count blocks block (e ∷ left) kept front more at fits follows =
    let index_is : filed.index ≡ index_from kind 0 blocks ++ e ∷ left = front.index_is ∙ ap (λ es. index_from kind 0 blocks ++ es) more in
    let right : IsIndexFrom number_keys form front.previous (end_of kind blocks) (e ∷ left) filed.footer.index_at = subst (λ es. IsIndexFrom number_keys form front.previous (end_of kind blocks) es filed.footer.index_at) more front.right in
    let many_are : length (index_from kind 0 blocks) ≡ count = length-index_from kind 0 blocks ∙ front.many in
    let here : (d : BlockHandle ℕ) → slice_index_or filed.index count d ≡ e = λ d.
    ap (λ es. slice_index_or es count d) index_is ∙ ap (λ n. slice_index_or (index_from kind 0 blocks ++ e ∷ left) n d) (sym many_are) ∙ slice_middle (index_from kind 0 blocks) e left d in
    let span = at.span in
    let is = at.is_span in
    let block_is = at.is_block in
    let first : span.first ≡ e.first = is.first e ∙ ap (λ (x : BlockHandle ℕ). x.first) (here e) in
    let offset : span.at ≡ end_of kind blocks = is.at e ∙ ap (λ (x : BlockHandle ℕ). x.at) (here e) ∙ right.0.1 in
    let len : e.len ≡ frame_length kind block = sym (is.len e ∙ ap (λ (x : BlockHandle ℕ). x.len) (here e)) ∙ sym at.long ∙ ap (λ (b : List ℕ). length b + 20) block_is.spelling in
    let begins : first_number kind block ≡ span.first = first_is kind span.first span.end block block_is.some block_is.within in
    let handle : e ≡ record { first = first_number kind block; at = 0 + end_of kind blocks; len = frame_length kind block } =
    handle_is e (record { first = first_number kind block; at = 0 + end_of kind blocks; len = frame_length kind block }) (sym (begins ∙ first)) (omega (arith, right.0.1)) len in
    let ends = end_of-push kind blocks block in
    let items : items_of (blocks ++ block ∷ []) ≡ items_of blocks ++ block = items_of-push blocks block in
    let above : last_number kind (items_of blocks) < first_number kind block = omega (arith, front.below e is.within, ap (λ (x : BlockHandle ℕ). x.first) (here e), begins, first) in
    let rise = rising_on kind (items_of blocks) block front.rise (within_rising kind span.first (span.first + 1) span.end block block_is.within) (λ some. above) in
    record {
      many = omega (arith, front.many, length-append blocks (block ∷ []));
      filled = filled_push kind blocks block front.filled fits follows;
      fit = subst (AllByRecursion (IsRecord kind)) (sym items) (each-append (IsRecord kind) (items_of blocks) block front.fit block_is.fit);
      rise = subst (AreRising kind) (sym items) rise;
      left = left;
      previous = e.first;
      index_is = index_is ∙ ap (λ (x : BlockHandle ℕ). index_from kind 0 blocks ++ x ∷ left) handle
          ∙ sym (append_assoc (index_from kind 0 blocks) (record { first = first_number kind block; at = 0 + end_of kind blocks; len = frame_length kind block } ∷ []) left)
          ∙ ap (λ (es : List (BlockHandle ℕ)). es ++ left) (sym (index_from-push kind 0 blocks block));
      right = subst (λ (n : ℕ). IsIndexFrom number_keys form e.first n left filed.footer.index_at) (omega (arith, ends, len)) right.1;
      below = λ d within.
          let next : span.end ≡ (slice_index_or filed.index (count + 1) d).first = is.inner d within in
          let order : span.first < span.end = omega (arith, next, rising number_keys form number_lawful 0 0 filed.index filed.footer.index_at kept.whole.right count (count + 1) d (omega arith) within, is.first d) in
          let last = last_below kind 0 span.first (span.first + 1) span.end block (omega (arith, order)) (omega (arith, order)) block_is.within in
          omega (arith, last, next, ap (last_number kind) items, last_on kind 0 (items_of blocks) block block_is.some);
      frames = ap (λ (n : ℕ). take n bytes) (ends ∙ omega (arith, ap length block_is.spelling))
          ∙ front_more bytes (map (block_of kind) blocks) (end_of kind blocks) (block_of kind block) front.frames
          (subst (λ (n : ℕ). StandsAt bytes (end_of kind blocks) (n, block_of kind block)) (sym (length-map blocks (block_of kind) ∙ front.many))
          (subst (λ (b : List ℕ). StandsAt bytes (end_of kind blocks) (count, b)) block_is.spelling (subst (λ (n : ℕ). StandsAt bytes n (count, at.body)) offset at.stands)))
          ∙ ap numbered_frames (sym (map-append (block_of kind) blocks (block ∷ [])));
    }

-- the first blocks of a file
pub fronts : {T S : Type 0} (kind : Kind T) (form : Form) (bytes : List ℕ) (filed : Filed S) (count : ℕ) (blocks : List (List T)) → IsKept form filed.footer filed.index → AreBlocksOf kind bytes filed 0 count blocks
    → IsFront kind form bytes filed count blocks
fronts kind form bytes filed zero blocks kept none = subst (λ bs. IsFront kind form bytes filed 0 bs) (sym none) (front_none kind form bytes filed kept)
fronts {T} {S} kind form bytes filed (suc count) blocks kept more =
    let front = fronts kind form bytes filed count more.0 kept more.3 in
    let at : IsBlockAt kind bytes filed count more.1 = subst (λ (n : ℕ). IsBlockAt kind bytes filed n more.1) (omega arith) more.4 in
    let next : IsFront kind form bytes filed (count + 1) (more.0 ++ more.1 ∷ []) = front_with kind form bytes filed count more.0 more.1 front.left kept front refl at more.5 more.6 in
    subst (λ (n : ℕ). IsFront kind form bytes filed n blocks) (omega arith) (subst (λ bs. IsFront kind form bytes filed (count + 1) bs) (sym more.2) next)

-- ---- all blocks

none_left : (index xs left : List (BlockHandle ℕ)) → index ≡ xs ++ left → length index ≡ length xs → left ≡ []
none_left index xs [] is len = refl
none_left index xs (e ∷ left) is len = absurd (omega (arith, ap length is, length-append xs (e ∷ left), len))

no_filter : (place : Option ℕ) → is_some place ≡ false → place ≡ None
no_filter None is = refl
no_filter (Some at) is = absurd cc

-- the footer tells of the blocks that were read
footer_told : {T S : Type 0} (kind : Kind T) (form : Form) (filed : Filed S) (blocks : List (List T)) → IsKept form filed.footer filed.index → filed.footer.filter_at ≡ None → filed.index ≡ index_from kind 0 blocks → AreFilled (block_of kind) blocks
    → end_of kind blocks ≡ filed.footer.index_at → last_number kind (items_of blocks) ≡ filed.footer.high → length (items_of blocks) ≡ filed.footer.count → sum_by kind.size (items_of blocks) ≡ filed.footer.sum
    → filed.footer ≡ footer_of kind blocks
footer_told kind form filed blocks kept none index filled ends last many sum =
    footer_is filed.footer (footer_of kind blocks) (sym many) (sym sum) (sym kept.agrees.first ∙ ap first_of index ∙ first_agrees kind 0 blocks filled) (sym last) (sym ends) none
    (sym kept.whole.count ∙ ap length index ∙ length-index_from kind 0 blocks)

-- all blocks of a file, whose footer tells of them
pub whole_file : {T S : Type 0} (kind : Kind T) (form : Form) (bytes : List ℕ) (filed : Filed S) (blocks : List (List T)) → IsKept form filed.footer filed.index → IsRead form bytes filed
    → IsFront kind form bytes filed (length filed.index) blocks → last_number kind (items_of blocks) ≡ filed.footer.high → length (items_of blocks) ≡ filed.footer.count
    → sum_by kind.size (items_of blocks) ≡ filed.footer.sum → IsFile kind bytes (items_of blocks)
whole_file {T} {S} kind form bytes filed blocks kept read front last many sum =
    let none : front.left ≡ [] = none_left filed.index (index_from kind 0 blocks) front.left front.index_is (sym front.many ∙ sym (length-index_from kind 0 blocks)) in
    let index : filed.index ≡ index_from kind 0 blocks = front.index_is ∙ ap (λ es. index_from kind 0 blocks ++ es) none ∙ append-nil (index_from kind 0 blocks) in
    let ends : end_of kind blocks ≡ filed.footer.index_at = subst (λ es. IsIndexFrom number_keys form front.previous (end_of kind blocks) es filed.footer.index_at) none front.right in
    let unfiltered : filed.footer.filter_at ≡ None = no_filter filed.footer.filter_at read.footer.is_footer.form in
    let footer = footer_told kind form filed blocks kept unfiltered index front.filled ends last many sum in
    let count : filed.footer.blocks ≡ length (map (block_of kind) blocks) = sym kept.whole.count ∙ sym front.many ∙ sym (length-map blocks (block_of kind)) in
    let before = map (block_of kind) blocks in
    let body = index_bytes number_keys filed.index in
    let last_body = footer_bytes filed.footer in
    let one = front_more bytes before (end_of kind blocks) body front.frames
    (subst (λ (n : ℕ). StandsAt bytes n (length before, body)) (sym ends) (subst (λ (n : ℕ). StandsAt bytes filed.footer.index_at (n, body)) count read.index.stands)) in
    let offset_is : length bytes - 65 ≡ end_of kind blocks + (length body + 20) = omega (arith, read.index.ends, ap (λ (place : Option ℕ). index_end place (length bytes)) unfiltered, ends) in
    let many_frames : filed.footer.blocks + 1 ≡ length (before ++ body ∷ []) = omega (arith, count, length-append before (body ∷ [])) in
    let two = front_more bytes (before ++ body ∷ []) (end_of kind blocks + (length body + 20)) last_body one
    (subst (λ (n : ℕ). StandsAt bytes n (length (before ++ body ∷ []), last_body)) offset_is
    (subst (λ (n : ℕ). StandsAt bytes (length bytes - 65) (n, last_body)) many_frames read.footer.stands)) in
    let all : length bytes ≡ end_of kind blocks + (length body + 20) + (length last_body + 20) = omega (arith, offset_is, read.least, length-footer_bytes false filed.footer read.footer.is_footer.form) in
    record {
      blocks = blocks;
      are = record {
        some = λ e. omega (arith, kept.whole.is_footer.some_blocks, kept.whole.count, front.many, ap length e);
        few = omega (arith, read.index.stands.fits.body_fits, length-index_bytes filed.index, front.many);
        filled = front.filled;
        fit = front.fit;
        rise = front.rise;
      };
      all = refl;
      spelling = sym (take_all (length bytes) bytes (omega arith)) ∙ ap (λ (n : ℕ). take n bytes) all ∙ two
          ∙ ap (λ (es : List (BlockHandle ℕ)). numbered_frames ((before ++ index_bytes number_keys es ∷ []) ++ last_body ∷ [])) index
          ∙ ap (λ (f : Footer). numbered_frames ((before ++ index_bytes number_keys (index_from kind 0 blocks) ∷ []) ++ footer_bytes f ∷ [])) footer;
    }

-- ---- a whole scan

-- a scan from below the first number leaves out no record
pub none_out : {T S : Type 0} (kind : Kind T) (form : Form) (bytes : List ℕ) (filed : Filed S) (after : ℕ) (blocks : List (List T)) → IsKept form filed.footer filed.index → IsFront kind form bytes filed (length filed.index) blocks
    → after < filed.footer.low → filter (λ it. nat_lt after (kind.seq it)) (items_of blocks) ≡ items_of blocks
none_out {T} {S} kind form bytes filed after blocks kept front below =
    let none : front.left ≡ [] = none_left filed.index (index_from kind 0 blocks) front.left front.index_is (sym front.many ∙ sym (length-index_from kind 0 blocks)) in
    let index : filed.index ≡ index_from kind 0 blocks = front.index_is ∙ ap (λ es. index_from kind 0 blocks ++ es) none ∙ append-nil (index_from kind 0 blocks) in
    let first : filed.footer.low ≡ first_number kind (items_of blocks) = sym kept.agrees.first ∙ ap first_of index ∙ first_agrees kind 0 blocks front.filled in
    filter_all kind after (items_of blocks) front.rise (omega (arith, first, below))
