-- One block more, and the file that they make.
use Rattle.std.proofs.Common.{◌≡◌, ◌≢◌, ℕ, ◌+◌, ◌*◌, ◌<◌, ◌≤◌, ◌^◌, Bool, true, false, List, [], ◌∷◌, ◌++◌, length, refl, sym, ap, ◌∙◌, subst, arith, append_assoc, Option, Some, None, MatchOption}
use Rattle.std.proofs.lemmas.List.{length-append}
use Rattle.std.specs.Prelude.{is_some}
use Rattle.mg_frame.specs.Frame.{frame}
use Rattle.mg_frame.specs.Frames.{numbered_frames}
use Rattle.mg_frame.proofs.FrameLaws.{length-frame}
use Rattle.mg_sealed.specs.Writing.{HasFrames, Written}
use Rattle.mg_sealed.proofs.ListLaws.{same_parts}
use Rattle.mg_sealed.proofs.WritingLaws.{numbered-more}
use Rattle.mg_indexed.specs.Footer.{footer_bytes, footer_size, index_end, offset_of, others}
use Rattle.mg_indexed.specs.Forms.{Form, IsFrameLength}
use Rattle.mg_indexed.specs.Index.{first_after, handle_bytes, index_bytes, IsIndexFrom}
use Rattle.mg_indexed.specs.Keys.{Keys}
use Rattle.mg_indexed.specs.Loading.{IsIndexed, IsKept}
use Rattle.mg_indexed.specs.Writing.{file_bodies, filter_frames, filter_place, footer_from, handle_length, index_length, AreIndexed, Closed, IsSummary}
use Rattle.mg_indexed.specs.declared.footer.Footer.{Footer}
use Rattle.mg_indexed.specs.declared.footer.Summary.{Summary}
use Rattle.mg_indexed.specs.declared.handle.BlockHandle.{BlockHandle}
use Rattle.mg_indexed.proofs.FieldLaws.{footer_is, length-footer_bytes, length-item_bytes, small_footer}
use Rattle.mg_indexed.proofs.HandleLaws.{index_bytes-push, index_push, least-index_bytes}
use Rattle.mg_indexed.proofs.IndexLaws.{most_end}

-- ---- one block more

pub index_length-push : {K : Type 0} (keys : Keys K) (index : List (BlockHandle K)) (handle : BlockHandle K)
    → index_length keys (index ++ handle ∷ []) ≡ index_length keys index + handle_length keys handle.first
index_length-push keys index handle =
    ap length (index_bytes-push keys index handle) ∙ length-append (index_bytes keys index) (handle_bytes keys handle)
    ∙ ap (λ (n : ℕ). index_length keys index + n) (length-item_bytes (keys.bytes handle.first) handle.at handle.len)

-- so long are the blocks at most: 2 ^ 32 bytes for each of fewer than 2 ^ 32 / 12
pub most_length : {D K : Type 0} (keys : Keys K) (form : Form) (closed : Closed D K) → AreIndexed keys form closed → 12 * closed.frames.len ≤ 4294967296 * index_length keys closed.index
most_length keys form closed is =
    omega (arith, most_end keys form keys.lowest 0 closed.index closed.frames.len is.right, least-index_bytes keys closed.index)

pub closes : {D K : Type 0} (keys : Keys K) (form : Form) (old : Closed D K) (frames : Written D) (index : List (BlockHandle K)) (handle : BlockHandle K) → AreIndexed keys form old
    → keys.follows (first_after keys.lowest old.index) handle.first → handle.at ≡ old.frames.len → IsFrameLength form handle.len
    → index_length keys old.index + handle_length keys handle.first < 2 ^ 32
    → index ≡ old.index ++ handle ∷ [] → frames.len ≡ old.frames.len + handle.len → frames.count ≡ old.frames.count + 1
    → AreIndexed keys form (record { frames = frames; index = index })
closes {D} {K} keys form old frames index handle is follows at fits room pushed len count =
    let far : old.frames.len < 2 ^ 62 = omega (arith, most_length keys form old is, is.few) in
    record {
      right = subst (λ (hs : List (BlockHandle K)). IsIndexFrom keys form keys.lowest 0 hs frames.len) (sym pushed)
          (subst (λ (n : ℕ). IsIndexFrom keys form keys.lowest 0 (old.index ++ handle ∷ []) n) (sym len)
          (index_push keys form keys.lowest 0 old.index old.frames.len handle is.right (follows, at, far, fits)));
      count = omega (arith, count, is.count, ap length pushed, length-append old.index (handle ∷ []));
      few = omega (arith, ap (λ (hs : List (BlockHandle K)). index_length keys hs) pushed, index_length-push keys old.index handle, room);
    }

-- what was pushed is popped
pub popped : {T : Type 0} (xs pushed left : List T) (x : T) (last : Option T) → pushed ≡ xs ++ x ∷ []
    → MatchOption last ((pushed ≡ []) × (left ≡ [])) (λ y. pushed ≡ left ++ y ∷ []) → left ≡ xs
popped xs pushed left x None put pop = absurd (omega (arith, ap length put, ap length pop.0, length-append xs (x ∷ [])))
popped xs pushed left x (Some y) put pop = sym (same_parts xs left (x ∷ []) (y ∷ []) refl (sym put ∙ pop)).0

-- the closed blocks are as they were
pub stays : {D K : Type 0} (keys : Keys K) (form : Form) (old : Closed D K) (frames : Written D) (index : List (BlockHandle K)) → AreIndexed keys form old → frames.len ≡ old.frames.len
    → frames.count ≡ old.frames.count → index ≡ old.index → AreIndexed keys form (record { frames = frames; index = index })
stays {D} {K} keys form old frames index is len count same = record {
  right = subst (λ (hs : List (BlockHandle K)). IsIndexFrom keys form keys.lowest 0 hs frames.len) (sym same)
      (subst (λ (n : ℕ). IsIndexFrom keys form keys.lowest 0 old.index n) (sym len) is.right);
  count = omega (arith, count, is.count, ap length same);
  few = omega (arith, ap (λ (hs : List (BlockHandle K)). index_length keys hs) same, is.few);
}

-- ---- the file

-- frames that stand before the footer's
pub joined : (bodies : List (List ℕ)) (index : List ℕ) (filters : List (List ℕ)) (footer : List ℕ)
    → ((bodies ++ index ∷ []) ++ filters) ++ footer ∷ [] ≡ (bodies ++ index ∷ filters) ++ footer ∷ []
joined bodies index filters footer = ap (λ (xs : List (List ℕ)). xs ++ footer ∷ []) (append_assoc bodies (index ∷ []) filters)

pub some_place : (filtered : Bool) (end : ℕ) → is_some (filter_place filtered end) ≡ filtered
some_place true end = refl
some_place false end = refl

pub small_place : (filtered : Bool) (end : ℕ) → offset_of (filter_place filtered end) ≤ end
small_place true end = omega arith
small_place false end = omega arith

count_filters : (filtered : Bool) (filter : List ℕ) → length (filter_frames filtered filter) + 1 ≡ others filtered
count_filters true filter = refl
count_filters false filter = refl

-- where the index frame ends
ends_at : (filtered : Bool) (end : ℕ) (bodies : List (List ℕ)) (index filter footer bytes : List ℕ) → length (numbered_frames (bodies ++ index ∷ [])) ≡ end → length footer + 20 ≡ footer_size filtered
    → bytes ≡ numbered_frames ((bodies ++ index ∷ filter_frames filtered filter) ++ footer ∷ []) → end ≡ index_end (filter_place filtered end) (length bytes)
ends_at true end bodies index filter footer bytes long size is = refl
ends_at false end bodies index filter footer bytes long size is =
    let before = bodies ++ index ∷ [] in
    omega (
      arith,
      long,
      size,
      ap length (is ∙ numbered-more before footer),
      length-append (numbered_frames before) (frame (length before) footer),
      length-frame (length before) footer,
    )

one_handle_more : {T : Type 0} (xs : List T) → xs ≢ [] → 1 ≤ length xs
one_handle_more [] some = absurd (some refl)
one_handle_more (x ∷ xs) some = omega arith

-- the frames of a file, as they were put one behind the other
pub bodies_are : (bodies : List (List ℕ)) (index index' : List ℕ) (flag filtered : Bool) (filter footer footer' : List ℕ) → index ≡ index' → flag ≡ filtered → footer ≡ footer'
    → ((bodies ++ index ∷ []) ++ filter_frames flag filter) ++ footer ∷ [] ≡ (bodies ++ index' ∷ filter_frames filtered filter) ++ footer' ∷ []
bodies_are bodies index index' flag filtered filter footer footer' same form said =
    joined bodies index (filter_frames flag filter) footer
    ∙ ap (λ (b : Bool). (bodies ++ index ∷ filter_frames b filter) ++ footer ∷ []) form
    ∙ ap (λ (xs : List ℕ). (bodies ++ xs ∷ filter_frames filtered filter) ++ footer ∷ []) same
    ∙ ap (λ (xs : List ℕ). (bodies ++ index' ∷ filter_frames filtered filter) ++ xs ∷ []) said

-- the footer as it is put together
pub said_is : {D K : Type 0} (keys : Keys K) (closed : Closed D K) (summary : Summary) (flag filtered : Bool) (index_at : ℕ) (filter_at : Option ℕ) (blocks end : ℕ) (footer : Footer)
    → footer ≡ record { count = summary.count; sum = summary.sum; low = summary.low; high = summary.high; index_at = index_at; filter_at = filter_at; blocks = blocks }
    → index_at ≡ closed.frames.len → filter_at ≡ filter_place flag end → flag ≡ filtered → end ≡ closed.frames.len + index_length keys closed.index + 20 → blocks ≡ length closed.index
    → footer ≡ footer_from filtered summary closed.frames.len (index_length keys closed.index) (length closed.index)
said_is keys closed summary flag filtered index_at filter_at blocks end footer is at place form long count =
    footer_is footer (footer_from filtered summary closed.frames.len (index_length keys closed.index) (length closed.index)) (ap (λ (f : Footer). f.count) is) (ap (λ (f : Footer). f.sum) is)
    (ap (λ (f : Footer). f.low) is) (ap (λ (f : Footer). f.high) is) (ap (λ (f : Footer). f.index_at) is ∙ at)
    (ap (λ (f : Footer). f.filter_at) is ∙ place ∙ ap (λ (b : Bool). filter_place b end) form ∙ ap (λ (n : ℕ). filter_place filtered n) long)
    (ap (λ (f : Footer). f.blocks) is ∙ count)

-- a footer's body is short
pub short_footer : (filtered : Bool) (footer : Footer) (end : ℕ) (bytes : List ℕ) → bytes ≡ footer_bytes footer → footer.filter_at ≡ filter_place filtered end → length bytes ≤ 53
short_footer filtered footer end bytes is place =
    omega (arith, ap length is, length-footer_bytes filtered footer (ap is_some place ∙ some_place filtered end), small_footer filtered)

-- what is kept of the file
pub kept : {D K : Type 0} (keys : Keys K) (form : Form) (closed : Closed D K) (summary : Summary) (footer : Footer) → AreIndexed keys form closed → closed.index ≢ [] → IsSummary summary
    → footer ≡ footer_from form.filtered summary closed.frames.len (index_length keys closed.index) (length closed.index) → IsKept keys form footer closed.index
kept keys form closed summary footer is some told said =
    let end = closed.frames.len + index_length keys closed.index + 20 in
    let index_at : footer.index_at ≡ closed.frames.len = ap (λ (f : Footer). f.index_at) said in
    let filter_at : footer.filter_at ≡ filter_place form.filtered end = ap (λ (f : Footer). f.filter_at) said in
    let count : footer.blocks ≡ length closed.index = ap (λ (f : Footer). f.blocks) said in
    let most = most_length keys form closed is in
    record {
      is_footer = record {
        count = omega (arith, ap (λ (f : Footer). f.count) said, told.count);
        sum = omega (arith, ap (λ (f : Footer). f.sum) said, told.sum);
        low = omega (arith, ap (λ (f : Footer). f.low) said, told.low);
        high = omega (arith, ap (λ (f : Footer). f.high) said, told.high);
        index_at = omega (arith, index_at, most, is.few);
        filter_at = omega (arith, ap offset_of filter_at, small_place form.filtered end, most, is.few);
        blocks = omega (arith, count, least-index_bytes keys closed.index, is.few);
        form = ap is_some filter_at ∙ some_place form.filtered end;
        some_items = omega (arith, ap (λ (f : Footer). f.count) said, told.some);
        some_blocks = omega (arith, count, one_handle_more closed.index some);
      };
      right = subst (λ (n : ℕ). IsIndexFrom keys form keys.lowest 0 closed.index n) (sym index_at) is.right;
      count = sym count;
    }

-- what is put behind blocks makes them a file
pub finished : {D K : Type 0} (keys : Keys K) (form : Form) (drafted : D → Option (List ℕ)) (closed : Closed D K) (summary : Summary) (filter : List ℕ) (footer : Footer) (bodies : List (List ℕ))
    (bytes : List ℕ) → AreIndexed keys form closed → closed.index ≢ [] → IsSummary summary
    → footer ≡ footer_from form.filtered summary closed.frames.len (index_length keys closed.index) (length closed.index) → HasFrames drafted closed.frames bodies
    → bytes ≡ numbered_frames (file_bodies keys form.filtered bodies closed.index filter footer) → IsIndexed keys form bytes footer closed.index
finished keys form drafted closed summary filter footer bodies bytes is some told said has spelled =
    let index = index_bytes keys closed.index in
    let end = closed.frames.len + index_length keys closed.index + 20 in
    let index_at : footer.index_at ≡ closed.frames.len = ap (λ (f : Footer). f.index_at) said in
    let filter_at : footer.filter_at ≡ filter_place form.filtered end = ap (λ (f : Footer). f.filter_at) said in
    let count : footer.blocks ≡ length closed.index = ap (λ (f : Footer). f.blocks) said in
    let keeps = kept keys form closed summary footer is some told said in
    let long : length (numbered_frames (bodies ++ index ∷ [])) ≡ end =
    omega (arith, ap length (numbered-more bodies index), length-append (numbered_frames bodies) (frame (length bodies) index), length-frame (length bodies) index, has.len) in
    record {
      blocks = bodies;
      filter = filter_frames form.filtered filter;
      bytes_are = spelled;
      is_footer = keeps.is_footer;
      is_index = keeps.right;
      few = is.few;
      frames = sym has.count ∙ is.count ∙ sym count;
      handles = sym count;
      filters = count_filters form.filtered filter;
      at = index_at ∙ has.len;
      ends = ap (λ (n : ℕ). n + length index + 20) index_at
          ∙ ends_at form.filtered end bodies index filter (footer_bytes footer) bytes long (length-footer_bytes form.filtered footer keeps.is_footer.form) spelled
          ∙ ap (λ (place : Option ℕ). index_end place (length bytes)) (sym filter_at);
    }
