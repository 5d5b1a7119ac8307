-- What the bytes of a file are refused by, and that those of a file that was written are not.
use Rattle.std.proofs.Common.{◌≡◌, ℕ, ◌+◌, ◌-◌, ◌≤◌, ◌⊎◌, Bool, List, [], ◌∷◌, ◌++◌, length, sym, ap, ◌∙◌, subst, inl, inr, arith, append_assoc, Option, IfSome, Result, Ok, Err, MatchResult}
use Rattle.std.proofs.lemmas.List.{length-append}
use Rattle.mg_frame.specs.Frame.{frame}
use Rattle.mg_frame.specs.Frames.{numbered_frames}
use Rattle.mg_frame.proofs.FrameLaws.{length-frame}
use Rattle.mg_types.specs.declared.faults.Fault.{Fault}
use Rattle.mg_types.specs.declared.names.FileId.{FileId}
use Rattle.mg_sealed.specs.Answers.{Answers, IsOutside}
use Rattle.mg_sealed.specs.Footer.{footer_body, said_blocks}
use Rattle.mg_sealed.specs.Reading.{frame_body, opened}
use Rattle.mg_sealed.specs.declared.reading.SealedFile.{SealedFile}
use Rattle.mg_sealed.proofs.AnswerLaws.{ok_not_err, ok_same, opened-ok, opened_told, some_both, some_then}
use Rattle.mg_sealed.proofs.FooterLaws.{written_footer_is_read}
use Rattle.mg_sealed.proofs.NumberLaws.{not_too_great}
use Rattle.mg_sealed.proofs.WritingLaws.{numbered-more}
use Rattle.mg_sealed.proofs.WrittenLaws.{written_frame_is_read}
use Rattle.mg_indexed.specs.Footer.{footer_bytes, footer_numbers, footer_size, others, AreFieldsUnfit, IsFooter, IsFooterUnfit}
use Rattle.mg_indexed.specs.Forms.{Form}
use Rattle.mg_indexed.specs.Index.{index_bytes}
use Rattle.mg_indexed.specs.Keys.{Keys, IsLawful}
use Rattle.mg_indexed.specs.Loading.{AreRefused, IsFooterRead, IsFooterRefused, IsIndexed, IsIndexRead, IsIndexRefused, IsKept, IsRefused}
use Rattle.mg_indexed.specs.declared.footer.Footer.{Footer}
use Rattle.mg_indexed.specs.declared.handle.BlockHandle.{BlockHandle}
use Rattle.mg_indexed.proofs.FieldLaws.{few_others, footer_fits, footer_kept, length-footer_bytes, one_footer, said_blocks-footer, small_footer}
use Rattle.mg_indexed.proofs.HandleLaws.{index_not_unfit, one_index}
use Rattle.mg_indexed.proofs.LoadingSteps.{Under}

-- a file that was opened is called as it was, and has the length that is kept
pub opened_is : {S : Type 0} (file : SealedFile S) (id : FileId) (given : S) (len : ℕ) → file ≡ record { id = id; file = given; len = len } → (file.id ≡ id) × (file.len ≡ len)
opened_is {S} file id given len same = (ap (λ (f : SealedFile S). f.id) same, ap (λ (f : SealedFile S). f.len) same)

-- ---- the refusals, in the order of judging

pub file_refused : {K S : Type 0} (keys : Keys K) (form : Form) (told : Option (List ℕ)) (id : FileId) (file : S) (len size : ℕ) (fault : Fault) → size ≡ footer_size form.filtered
    → (let answer : Result (SealedFile S) Fault = Err fault in IfSome told (λ bytes. Answers (opened id file len size bytes) answer))
    → IfSome told (λ bytes. IsOutside fault ⊎ IsRefused keys form id file len bytes fault)
file_refused {K} {S} keys form told id file len size fault long read =
    let answer : Result (SealedFile S) Fault = Err fault in
    some_then told (λ bytes. Answers (opened id file len size bytes) answer) (λ bytes. IsOutside fault ⊎ IsRefused keys form id file len bytes fault)
    (λ bytes h. elim h [ inl outside ↦ inl outside | inr is ↦ inr (inl (subst (λ (n : ℕ). opened id file len n bytes ≡ Err fault) long is)) ]) read

pub footer_refused : {K S : Type 0} (keys : Keys K) (form : Form) (told : S → Option (List ℕ)) (file : SealedFile S) (id : FileId) (given : S) (len : ℕ) (fault : Fault)
    → file ≡ record { id = id; file = given; len = len } → footer_size form.filtered ≤ len → IfSome (told given) (λ bytes. length bytes ≡ len)
    → Under (told file.file) file.len (λ bytes. IsOutside fault ⊎ IsFooterRefused form.filtered file.id bytes fault)
    → IfSome (told given) (λ bytes. IsOutside fault ⊎ IsRefused keys form id given len bytes fault)
footer_refused keys form told file id given len fault same enough long is =
    some_then (told given) (λ bytes. (length bytes ≡ len) × (IsOutside fault ⊎ IsFooterRefused form.filtered id bytes fault)) (λ bytes. IsOutside fault ⊎ IsRefused keys form id given len bytes fault)
    (λ bytes h. elim h.1 [ inl outside ↦ inl outside | inr footer ↦ inr (inr (h.0, enough, inl footer)) ])
    (some_both (told given) (λ bytes. length bytes ≡ len) (λ bytes. IsOutside fault ⊎ IsFooterRefused form.filtered id bytes fault) long
    (opened_told told file id given len (λ i bytes. IsOutside fault ⊎ IsFooterRefused form.filtered i bytes fault) same long is))

pub index_refused : {K S : Type 0} (keys : Keys K) (form : Form) (told : S → Option (List ℕ)) (file : SealedFile S) (id : FileId) (given : S) (len : ℕ) (footer : Footer) (fault : Fault)
    → file ≡ record { id = id; file = given; len = len } → footer_size form.filtered ≤ len → IfSome (told given) (λ bytes. length bytes ≡ len)
    → Under (told file.file) file.len (λ bytes. IsFooterRead form.filtered file.id bytes footer)
    → Under (told file.file) file.len (λ bytes. IsOutside fault ⊎ IsIndexRefused keys form file.id bytes footer fault)
    → IfSome (told given) (λ bytes. IsOutside fault ⊎ IsRefused keys form id given len bytes fault)
index_refused keys form told file id given len footer fault same enough long ends is =
    some_then (told given) (λ bytes. (length bytes ≡ len) × (IsFooterRead form.filtered id bytes footer × (IsOutside fault ⊎ IsIndexRefused keys form id bytes footer fault)))
    (λ bytes. IsOutside fault ⊎ IsRefused keys form id given len bytes fault)
    (λ bytes h. elim h.1.1 [ inl outside ↦ inl outside | inr index ↦ inr (inr (h.0, enough, inr (footer, h.1.0, index))) ])
    (some_both (told given) (λ bytes. length bytes ≡ len) (λ bytes. IsFooterRead form.filtered id bytes footer × (IsOutside fault ⊎ IsIndexRefused keys form id bytes footer fault)) long
    (some_both (told given) (λ bytes. IsFooterRead form.filtered id bytes footer) (λ bytes. IsOutside fault ⊎ IsIndexRefused keys form id bytes footer fault)
    (opened_told told file id given len (λ i bytes. IsFooterRead form.filtered i bytes footer) same long ends)
    (opened_told told file id given len (λ i bytes. IsOutside fault ⊎ IsIndexRefused keys form i bytes footer fault) same long is)))

-- what is kept is what the bytes say
pub file_read : {K S : Type 0} (keys : Keys K) (form : Form) (told : S → Option (List ℕ)) (file : SealedFile S) (id : FileId) (given : S) (len : ℕ) (footer : Footer) (index : List (BlockHandle K))
    → file ≡ record { id = id; file = given; len = len } → IfSome (told given) (λ bytes. length bytes ≡ len)
    → Under (told file.file) file.len (λ bytes. IsFooterRead form.filtered file.id bytes footer)
    → Under (told file.file) file.len (λ bytes. IsIndexRead keys file.id bytes footer index)
    → IfSome (told given) (λ bytes. IsFooterRead form.filtered id bytes footer × IsIndexRead keys id bytes footer index)
file_read keys form told file id given len footer index same long ends is =
    some_both (told given) (λ bytes. IsFooterRead form.filtered id bytes footer) (λ bytes. IsIndexRead keys id bytes footer index)
    (opened_told told file id given len (λ i bytes. IsFooterRead form.filtered i bytes footer) same long ends)
    (opened_told told file id given len (λ i bytes. IsIndexRead keys i bytes footer index) same long is)

-- ---- the bytes of a file that was written

-- what stands before the footer
before_footer : {K : Type 0} (keys : Keys K) (form : Form) (bytes : List ℕ) (footer : Footer) (index : List (BlockHandle K)) → IsIndexed keys form bytes footer index → List (List ℕ)
before_footer keys form bytes footer index is = is.blocks ++ index_bytes keys index ∷ is.filter

count_before : {K : Type 0} (keys : Keys K) (form : Form) (bytes : List ℕ) (footer : Footer) (index : List (BlockHandle K)) (is : IsIndexed keys form bytes footer index)
    → length (before_footer keys form bytes footer index is) ≡ footer.blocks + others form.filtered
unfolding before_footer
count_before keys form bytes footer index is = omega (arith, length-append is.blocks (index_bytes keys index ∷ is.filter), is.frames, is.filters)

pub reads_footer : {K : Type 0} (keys : Keys K) (form : Form) (id : FileId) (bytes : List ℕ) (footer : Footer) (index : List (BlockHandle K)) → IsIndexed keys form bytes footer index
    → footer_body id bytes (footer_size form.filtered) (others form.filtered) ≡ Ok (footer_bytes footer)
unfolding before_footer
reads_footer keys form id bytes footer index is =
    let before = before_footer keys form bytes footer index is in
    let count = count_before keys form bytes footer index is in
    let size = length-footer_bytes form.filtered footer is.is_footer.form in
    let few = few_others form.filtered in
    let many : length before ≡ said_blocks (footer_bytes footer) + others form.filtered = omega (arith, count, said_blocks-footer footer is.is_footer.blocks) in
    ap (λ (b : List ℕ). footer_body id b (footer_size form.filtered) (others form.filtered)) is.bytes_are
    ∙ ap (λ (n : ℕ). footer_body id (numbered_frames (before ++ footer_bytes footer ∷ [])) n (others form.filtered)) (sym size)
    ∙ written_footer_is_read id before (footer_bytes footer) (others form.filtered) (omega (arith, count, few, is.is_footer.blocks)) (omega (arith, size, small_footer form.filtered)) many

pub reads_index : {K : Type 0} (keys : Keys K) (form : Form) (id : FileId) (bytes : List ℕ) (footer : Footer) (index : List (BlockHandle K)) → IsIndexed keys form bytes footer index
    → frame_body id bytes footer.index_at footer.blocks ≡ Ok (index_bytes keys index)
reads_index keys form id bytes footer index is =
    let body = index_bytes keys index in
    let after = is.filter ++ footer_bytes footer ∷ [] in
    let bodies = append_assoc is.blocks (body ∷ is.filter) (footer_bytes footer ∷ []) in
    ap (λ (b : List ℕ). frame_body id b footer.index_at footer.blocks) (is.bytes_are ∙ ap numbered_frames bodies)
    ∙ ap (λ (at : ℕ). frame_body id (numbered_frames (is.blocks ++ body ∷ after)) at footer.blocks) is.at
    ∙ ap (λ (n : ℕ). frame_body id (numbered_frames (is.blocks ++ body ∷ after)) (length (numbered_frames is.blocks)) n) (sym is.frames)
    ∙ written_frame_is_read id is.blocks after body (omega (arith, is.frames, is.is_footer.blocks)) is.few

-- a file is at least as long as its footer's frame
pub long_enough : {K : Type 0} (keys : Keys K) (form : Form) (bytes : List ℕ) (footer : Footer) (index : List (BlockHandle K)) → IsIndexed keys form bytes footer index → footer_size form.filtered ≤ length bytes
long_enough keys form bytes footer index is =
    let before = is.blocks ++ index_bytes keys index ∷ is.filter in
    let body = footer_bytes footer in
    omega (
      arith,
      ap length (is.bytes_are ∙ numbered-more before body),
      length-append (numbered_frames before) (frame (length before) body),
      length-frame (length before) body,
      length-footer_bytes form.filtered footer is.is_footer.form,
    )

no_fields_fault : (filtered : Bool) (id : FileId) (at : ℕ) (footer : Footer) (fault : Fault) → IsFooter filtered footer → AreFieldsUnfit id at footer fault → ⊥
no_fields_fault filtered id at footer fault is (inl none) = absurd (omega (arith, is.some_items, none.0))
no_fields_fault filtered id at footer fault is (inr (inl great)) = not_too_great id at (footer_numbers footer) fault (footer_kept filtered footer is) great.1
no_fields_fault filtered id at footer fault is (inr (inr none)) = absurd (omega (arith, is.some_blocks, none.2))

-- the body of a footer is not refused
footer_not_unfit : (filtered : Bool) (id : FileId) (at : ℕ) (body : List ℕ) (footer : Footer) (fault : Fault) → IsFooter filtered footer → body ≡ footer_bytes footer
    → IsFooterUnfit id at filtered body fault → ⊥
footer_not_unfit filtered id at body footer fault is spelled (inl none) = none.0 footer (footer_fits filtered footer is) spelled
footer_not_unfit filtered id at body footer fault is spelled (inr found) =
    no_fields_fault filtered id at footer fault is
    (subst (λ (f : Footer). AreFieldsUnfit id at f fault) (one_footer filtered found.0 footer found.1 (footer_fits filtered footer is) (sym found.2 ∙ spelled)) found.3)

-- the footer that is read is the one that was written
footer_is_read : {K : Type 0} (keys : Keys K) (form : Form) (id : FileId) (bytes : List ℕ) (read footer : Footer) (index : List (BlockHandle K)) → IsIndexed keys form bytes footer index
    → IsFooterRead form.filtered id bytes read → read ≡ footer
footer_is_read keys form id bytes read footer index is ends =
    one_footer form.filtered read footer (footer_fits form.filtered read ends.is_footer) (footer_fits form.filtered footer is.is_footer)
    (ok_same (footer_bytes read) (footer_bytes footer) (sym ends.body ∙ reads_footer keys form id bytes footer index is))

not_apart : {K : Type 0} (keys : Keys K) (form : Form) (id : FileId) (bytes : List ℕ) (footer : Footer) (index handles : List (BlockHandle K)) (fault : Fault) → IsIndexed keys form bytes footer index → handles ≡ index
    → AreRefused keys form id bytes footer handles fault → ⊥
not_apart keys form id bytes footer index handles fault is same (inl count) = count.0 (ap length same ∙ is.handles)
not_apart {K} keys form id bytes footer index handles fault is same (inr apart) =
    apart.1 (ap (λ (hs : List (BlockHandle K)). footer.index_at + length (index_bytes keys hs) + 20) same ∙ is.ends)

index_not_refused : {K : Type 0} (keys : Keys K) (form : Form) → IsLawful keys → (id : FileId) (bytes : List ℕ) (footer : Footer) (index : List (BlockHandle K)) (fault : Fault) → IsIndexed keys form bytes footer index
    → IsIndexRefused keys form id bytes footer fault → ⊥
index_not_refused keys form lawful id bytes footer index fault is (inl damaged) =
    ok_not_err (frame_body id bytes footer.index_at footer.blocks) (index_bytes keys index) fault (reads_index keys form id bytes footer index is) damaged
index_not_refused keys form lawful id bytes footer index fault is (inr body) =
    let spelled : body.0 ≡ index_bytes keys index = ok_same body.0 (index_bytes keys index) (sym body.1 ∙ reads_index keys form id bytes footer index is) in
    elim body.2 [
      | inl unfit ↦ index_not_unfit keys form lawful id footer.index_at body.0 index fault is.is_index spelled unfit
      | inr right ↦
          not_apart keys form id bytes footer index right.0 fault is (one_index keys form lawful right.0 index footer.index_at footer.index_at right.1 is.is_index (sym right.2 ∙ spelled)) right.3
    ]

-- a file that has the length that is kept is not refused
file_not_refused : {K S : Type 0} (keys : Keys K) (form : Form) → IsLawful keys → (id : FileId) (file : S) (len : ℕ) (bytes : List ℕ) (footer : Footer) (index : List (BlockHandle K)) (fault : Fault)
    → IsIndexed keys form bytes footer index → length bytes ≡ len → IsRefused keys form id file len bytes fault → ⊥
file_not_refused keys form lawful id file len bytes footer index fault is same (inl other) =
    ok_not_err (opened id file len (footer_size form.filtered) bytes) (record { id = id; file = file; len = len }) fault
    (opened-ok id file len (footer_size form.filtered) bytes same (long_enough keys form bytes footer index is)) other
file_not_refused keys form lawful id file len bytes footer index fault is same (inr (long, enough, inl (inl damaged))) =
    ok_not_err (footer_body id bytes (footer_size form.filtered) (others form.filtered)) (footer_bytes footer) fault (reads_footer keys form id bytes footer index is) damaged
file_not_refused keys form lawful id file len bytes footer index fault is same (inr (long, enough, inl (inr body))) =
    footer_not_unfit form.filtered id (length bytes - footer_size form.filtered) body.0 footer fault is.is_footer
    (ok_same body.0 (footer_bytes footer) (sym body.1 ∙ reads_footer keys form id bytes footer index is)) body.2
file_not_refused keys form lawful id file len bytes footer index fault is same (inr (long, enough, inr found)) =
    index_not_refused keys form lawful id bytes footer index fault is
    (subst (λ (f : Footer). IsIndexRefused keys form id bytes f fault) (footer_is_read keys form id bytes found.0 footer index is found.1) found.2)

-- what is kept of a file that was written is what was written
kept_is : {K : Type 0} (keys : Keys K) (form : Form) → IsLawful keys → (id : FileId) (bytes : List ℕ) (read footer : Footer) (handles index : List (BlockHandle K)) → IsIndexed keys form bytes footer index
    → IsKept keys form read handles → IsFooterRead form.filtered id bytes read → IsIndexRead keys id bytes read handles → (read ≡ footer) × (handles ≡ index)
kept_is keys form lawful id bytes read footer handles index is kept ends there =
    let same = footer_is_read keys form id bytes read footer index is ends in
    let body = ap (λ (f : Footer). frame_body id bytes f.index_at f.blocks) same ∙ reads_index keys form id bytes footer index is in (
      same,
      one_index keys form lawful handles index read.index_at footer.index_at kept.right is.is_index (ok_same (index_bytes keys handles) (index_bytes keys index) (sym there.body ∙ body)),
    )

pub loaded : {K : Type 0} (keys : Keys K) (form : Form) → IsLawful keys → (told : Option (List ℕ)) (id : FileId) (len : ℕ) (read : Footer) (handles : List (BlockHandle K)) → IsKept keys form read handles
    → IfSome told (λ bytes. IsFooterRead form.filtered id bytes read × IsIndexRead keys id bytes read handles)
    → IfSome told (λ bytes. (footer : Footer) (index : List (BlockHandle K)) → IsIndexed keys form bytes footer index → length bytes ≡ len → (read ≡ footer) × (handles ≡ index))
loaded {K} keys form lawful told id len read handles kept found =
    some_then told (λ bytes. IsFooterRead form.filtered id bytes read × IsIndexRead keys id bytes read handles)
    (λ bytes. (footer : Footer) (index : List (BlockHandle K)) → IsIndexed keys form bytes footer index → length bytes ≡ len → (read ≡ footer) × (handles ≡ index))
    (λ bytes h footer index is long. kept_is keys form lawful id bytes read footer handles index is kept h.0 h.1) found

-- a file that was written is refused for nothing that its bytes cause
pub not_loaded : {K S V : Type 0} (keys : Keys K) (form : Form) → IsLawful keys → (told : Option (List ℕ)) (id : FileId) (file : S) (len : ℕ) (result : Result V Fault) (fault : Fault)
    (P : Footer → List (BlockHandle K) → V → Type 0) → result ≡ Err fault
    → IfSome told (λ bytes. IsOutside fault ⊎ IsRefused keys form id file len bytes fault)
    → IfSome told (λ bytes. (footer : Footer) (index : List (BlockHandle K)) → IsIndexed keys form bytes footer index → length bytes ≡ len → MatchResult result (P footer index) (λ f. IsOutside f))
not_loaded {K} {S} {V} keys form lawful told id file len result fault P is why =
    some_then told (λ bytes. IsOutside fault ⊎ IsRefused keys form id file len bytes fault)
    (λ bytes. (footer : Footer) (index : List (BlockHandle K)) → IsIndexed keys form bytes footer index → length bytes ≡ len → MatchResult result (P footer index) (λ f. IsOutside f))
    (λ bytes h footer index indexed long. subst (λ (r : Result V Fault). MatchResult r (P footer index) (λ f. IsOutside f)) (sym is)
    (elim h [ inl outside ↦ outside | inr refused ↦ absurd (file_not_refused keys form lawful id file len bytes footer index fault indexed long refused) ])) why
