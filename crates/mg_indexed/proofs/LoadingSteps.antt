-- What is told of the footer and of the index of a file where they are read.
use Rattle.std.proofs.Common.{◌≡◌, ◌≢◌, ℕ, ◌+◌, ◌-◌, ◌^◌, ◌⊎◌, Bool, List, length, refl, sym, ap, ◌∙◌, subst, inl, inr, Option, IfSome, Result, Ok, Err}
use Rattle.mg_types.specs.declared.faults.Fault.{Fault}
use Rattle.mg_types.specs.declared.faults.Fault.TheVariants.{Malformed, NoMemory}
use Rattle.mg_types.specs.declared.names.FileId.{FileId}
use Rattle.mg_frame.specs.Frame.{StandsAt}
use Rattle.mg_sealed.specs.Answers.{Answers, IsOutside}
use Rattle.mg_sealed.specs.Blocks.{IsUnfitAt}
use Rattle.mg_sealed.specs.Footer.{footer_body, said_blocks}
use Rattle.mg_sealed.specs.Reading.{frame_body}
use Rattle.mg_sealed.proofs.AnswerLaws.{some_then, some_both}
use Rattle.mg_indexed.specs.Footer.{footer_bytes, footer_size, index_end, others, AreFieldsUnfit, IsFooter, IsFooterUnfit}
use Rattle.mg_indexed.specs.Forms.{Form}
use Rattle.mg_indexed.specs.Index.{index_bytes, IsIndexFrom, IsIndexUnfit}
use Rattle.mg_indexed.specs.Keys.{Keys}
use Rattle.mg_indexed.specs.Loading.{IsFooterRead, IsFooterRefused, IsIndexRead, IsIndexRefused}
use Rattle.mg_indexed.specs.declared.footer.Footer.{Footer}
use Rattle.mg_indexed.specs.declared.handle.BlockHandle.{BlockHandle}
use Rattle.mg_indexed.proofs.FieldLaws.{said_blocks-footer}

-- P is so of the told bytes, where they have the length that is kept
abbrev pub Under : Option (List ℕ) → ℕ → (List ℕ → Type 0) → Type 0
Under told len P = IfSome told (λ bytes. len ≡ length bytes → P bytes)

pub under_then : (told : Option (List ℕ)) (len : ℕ) (P Q : List ℕ → Type 0) → ((bytes : List ℕ) → len ≡ length bytes → P bytes → Q bytes) → Under told len P → Under told len Q
under_then told len P Q step known =
    some_then told (λ bytes. len ≡ length bytes → P bytes) (λ bytes. len ≡ length bytes → Q bytes) (λ bytes h same. step bytes same (h same)) known

pub under_both : (told : Option (List ℕ)) (len : ℕ) (P Q : List ℕ → Type 0) → Under told len P → Under told len Q → Under told len (λ bytes. P bytes × Q bytes)
under_both told len P Q one other =
    some_then told (λ bytes. (len ≡ length bytes → P bytes) × (len ≡ length bytes → Q bytes)) (λ bytes. len ≡ length bytes → P bytes × Q bytes) (λ bytes h same. (h.0 same, h.1 same))
    (some_both told (λ bytes. len ≡ length bytes → P bytes) (λ bytes. len ≡ length bytes → Q bytes) one other)

-- ---- the footer

pub footer_frame_refused : (filtered : Bool) (told : Option (List ℕ)) (id : FileId) (len size between : ℕ) (fault : Fault) → size ≡ footer_size filtered → between ≡ others filtered
    → Under told len (λ bytes. Answers (footer_body id bytes size between) (Err fault))
    → Under told len (λ bytes. IsOutside fault ⊎ IsFooterRefused filtered id bytes fault)
footer_frame_refused filtered told id len size between fault long many read =
    under_then told len (λ bytes. Answers (footer_body id bytes size between) (Err fault)) (λ bytes. IsOutside fault ⊎ IsFooterRefused filtered id bytes fault)
    (λ bytes same h. elim h [
      | inl outside ↦ inl outside
      | inr is ↦ inr (inl (subst (λ (n : ℕ). footer_body id bytes n (others filtered) ≡ Err fault) long (subst (λ (n : ℕ). footer_body id bytes size n ≡ Err fault) many is)))
    ]) read

-- a footer's frame that is read, by its size and the number of frames before it
footer_as : (id : FileId) (bytes : List ℕ) (size between size' between' : ℕ) (frame : List ℕ) → size ≡ size' → between ≡ between' → footer_body id bytes size between ≡ Ok frame
    → footer_body id bytes size' between' ≡ Ok frame
footer_as id bytes size between size' between' frame long many is =
    subst (λ (n : ℕ). footer_body id bytes n between' ≡ Ok frame) long (subst (λ (n : ℕ). footer_body id bytes size n ≡ Ok frame) many is)

pub footer_unfit : (filtered : Bool) (told : Option (List ℕ)) (id : FileId) (len size between : ℕ) (frame body : List ℕ) (fault : Fault) → size ≡ footer_size filtered → between ≡ others filtered
    → body ≡ frame → IsFooterUnfit id (len - size) filtered body fault
    → Under told len (λ bytes. footer_body id bytes size between ≡ Ok frame)
    → Under told len (λ bytes. IsOutside fault ⊎ IsFooterRefused filtered id bytes fault)
footer_unfit filtered told id len size between frame body fault long many is unfit read =
    under_then told len (λ bytes. footer_body id bytes size between ≡ Ok frame) (λ bytes. IsOutside fault ⊎ IsFooterRefused filtered id bytes fault)
    (λ bytes same h. inr (inr (
      frame,
      footer_as id bytes size between (footer_size filtered) (others filtered) frame long many h,
      subst (λ (n : ℕ). IsFooterUnfit id (length bytes - n) filtered frame fault) long (subst (λ (n : ℕ). IsFooterUnfit id (n - size) filtered frame fault) same
          (subst (λ (b : List ℕ). IsFooterUnfit id (len - size) filtered b fault) is unfit)),
    ))) read

pub footer_found : (filtered : Bool) (told : Option (List ℕ)) (id : FileId) (len size between : ℕ) (frame : List ℕ) (footer : Footer) → size ≡ footer_size filtered → between ≡ others filtered
    → IsFooter filtered footer → frame ≡ footer_bytes footer
    → Under told len (λ bytes. footer_body id bytes size between ≡ Ok frame)
    → Under told len (λ bytes. StandsAt bytes (len - size) (said_blocks frame + between, frame))
    → Under told len (λ bytes. IsFooterRead filtered id bytes footer)
footer_found filtered told id len size between frame footer long many is_footer is read stands =
    under_then told len (λ bytes. (footer_body id bytes size between ≡ Ok frame) × StandsAt bytes (len - size) (said_blocks frame + between, frame)) (λ bytes. IsFooterRead filtered id bytes footer)
    (λ bytes same h. record {
      is_footer = is_footer;
      body = footer_as id bytes size between (footer_size filtered) (others filtered) frame long many h.0 ∙ ap (λ (body : List ℕ). let r : Result (List ℕ) Fault = Ok body in r) is;
      stands = subst (λ (n : ℕ). StandsAt bytes (length bytes - n) (footer.blocks + others filtered, footer_bytes footer)) long
          (subst (λ (n : ℕ). StandsAt bytes (n - size) (footer.blocks + others filtered, footer_bytes footer)) same
          (subst (λ (n : ℕ). StandsAt bytes (len - size) (footer.blocks + n, footer_bytes footer)) many
          (subst (λ (n : ℕ). StandsAt bytes (len - size) (n + between, footer_bytes footer)) (said_blocks-footer footer is_footer.blocks)
          (subst (λ (b : List ℕ). StandsAt bytes (len - size) (said_blocks b + between, b)) is h.1))));
    }) (under_both told len (λ bytes. footer_body id bytes size between ≡ Ok frame) (λ bytes. StandsAt bytes (len - size) (said_blocks frame + between, frame)) read stands)

-- ---- the index

-- what follows where the frame of the index was read
index_then : (told : Option (List ℕ)) (id : FileId) (len : ℕ) (footer : Footer) (number : ℕ) (frame : List ℕ) (P : List ℕ → Type 0) → number ≡ footer.blocks
    → ((bytes : List ℕ) → len ≡ length bytes → frame_body id bytes footer.index_at footer.blocks ≡ Ok frame → P bytes)
    → Under told len (λ bytes. frame_body id bytes footer.index_at number ≡ Ok frame)
    → Under told len P
index_then told id len footer number frame P count step read =
    under_then told len (λ bytes. frame_body id bytes footer.index_at number ≡ Ok frame) P
    (λ bytes same h. step bytes same (subst (λ (n : ℕ). frame_body id bytes footer.index_at n ≡ Ok frame) count h)) read

pub index_frame_refused : {K : Type 0} (keys : Keys K) (form : Form) (told : Option (List ℕ)) (id : FileId) (len : ℕ) (footer : Footer) (number : ℕ) (fault : Fault) → number ≡ footer.blocks
    → Under told len (λ bytes. Answers (frame_body id bytes footer.index_at number) (Err fault))
    → Under told len (λ bytes. IsOutside fault ⊎ IsIndexRefused keys form id bytes footer fault)
index_frame_refused keys form told id len footer number fault count read =
    under_then told len (λ bytes. Answers (frame_body id bytes footer.index_at number) (Err fault)) (λ bytes. IsOutside fault ⊎ IsIndexRefused keys form id bytes footer fault)
    (λ bytes same h. elim h [
      | inl outside ↦ inl outside
      | inr is ↦ inr (inl (subst (λ (n : ℕ). frame_body id bytes footer.index_at n ≡ Err fault) count is))
    ]) read

pub index_unfit : {K : Type 0} (keys : Keys K) (form : Form) (told : Option (List ℕ)) (id : FileId) (len : ℕ) (footer : Footer) (number : ℕ) (frame body : List ℕ) (fault : Fault) → number ≡ footer.blocks
    → body ≡ frame → (fault ≡ NoMemory) ⊎ IsIndexUnfit keys form id footer.index_at body fault
    → Under told len (λ bytes. frame_body id bytes footer.index_at number ≡ Ok frame)
    → Under told len (λ bytes. IsOutside fault ⊎ IsIndexRefused keys form id bytes footer fault)
index_unfit keys form told id len footer number frame body fault count is (inl memory) read =
    index_then told id len footer number frame (λ bytes. IsOutside fault ⊎ IsIndexRefused keys form id bytes footer fault) count (λ bytes same whole. inl (inl memory)) read
index_unfit keys form told id len footer number frame body fault count is (inr unfit) read =
    index_then told id len footer number frame (λ bytes. IsOutside fault ⊎ IsIndexRefused keys form id bytes footer fault) count
    (λ bytes same whole. inr (inr (frame, whole, inl (subst (λ (b : List ℕ). IsIndexUnfit keys form id footer.index_at b fault) is unfit)))) read

pub index_miscounted : {K : Type 0} (keys : Keys K) (form : Form) (told : Option (List ℕ)) (id : FileId) (len : ℕ) (footer : Footer) (number : ℕ) (frame : List ℕ) (index : List (BlockHandle K)) → number ≡ footer.blocks
    → IsIndexFrom keys form keys.lowest 0 index footer.index_at → frame ≡ index_bytes keys index → length index ≢ footer.blocks
    → Under told len (λ bytes. frame_body id bytes footer.index_at number ≡ Ok frame)
    → Under told len (λ bytes. IsOutside (Malformed id footer.index_at) ⊎ IsIndexRefused keys form id bytes footer (Malformed id footer.index_at))
index_miscounted keys form told id len footer number frame index count right is other read =
    index_then told id len footer number frame (λ bytes. IsOutside (Malformed id footer.index_at) ⊎ IsIndexRefused keys form id bytes footer (Malformed id footer.index_at)) count
    (λ bytes same whole. inr (inr (frame, whole, inr (index, right, is, inl (other, refl))))) read

pub index_apart : {K : Type 0} (keys : Keys K) (form : Form) (told : Option (List ℕ)) (id : FileId) (len : ℕ) (footer : Footer) (number size : ℕ) (frame : List ℕ) (index : List (BlockHandle K)) → number ≡ footer.blocks
    → size ≡ footer_size form.filtered → IsIndexFrom keys form keys.lowest 0 index footer.index_at → frame ≡ index_bytes keys index → length index ≡ footer.blocks
    → footer.index_at + length frame + 20 ≢ index_end footer.filter_at len
    → Under told len (λ bytes. frame_body id bytes footer.index_at number ≡ Ok frame)
    → Under told len (λ bytes. IsOutside (Malformed id (len - size)) ⊎ IsIndexRefused keys form id bytes footer (Malformed id (len - size)))
index_apart keys form told id len footer number size frame index count long right is many apart read =
    index_then told id len footer number frame (λ bytes. IsOutside (Malformed id (len - size)) ⊎ IsIndexRefused keys form id bytes footer (Malformed id (len - size))) count
    (λ bytes same whole. inr (inr (
      frame,
      whole,
      inr (
        index,
        right,
        is,
        inr (
          many,
          subst (λ (n : ℕ). footer.index_at + length (index_bytes keys index) + 20 ≢ index_end footer.filter_at n) same
              (subst (λ (b : List ℕ). footer.index_at + length b + 20 ≢ index_end footer.filter_at len) is apart),
          ap (λ (n : ℕ). Malformed id (n - size)) same ∙ ap (λ (n : ℕ). Malformed id (length bytes - n)) long,
        ),
      ),
    ))) read

pub index_found : {K : Type 0} (keys : Keys K) (told : Option (List ℕ)) (id : FileId) (len : ℕ) (footer : Footer) (number : ℕ) (frame : List ℕ) (index : List (BlockHandle K)) → number ≡ footer.blocks
    → frame ≡ index_bytes keys index → footer.index_at + length frame + 20 ≡ index_end footer.filter_at len
    → Under told len (λ bytes. frame_body id bytes footer.index_at number ≡ Ok frame)
    → Under told len (λ bytes. StandsAt bytes footer.index_at (number, frame))
    → Under told len (λ bytes. IsIndexRead keys id bytes footer index)
index_found keys told id len footer number frame index count is ends read stands =
    under_then told len (λ bytes. (frame_body id bytes footer.index_at number ≡ Ok frame) × StandsAt bytes footer.index_at (number, frame)) (λ bytes. IsIndexRead keys id bytes footer index)
    (λ bytes same h. record {
      body = ap (λ (n : ℕ). frame_body id bytes footer.index_at n) (sym count) ∙ h.0 ∙ ap (λ (body : List ℕ). let r : Result (List ℕ) Fault = Ok body in r) is;
      stands = subst (λ (n : ℕ). StandsAt bytes footer.index_at (n, index_bytes keys index)) count (subst (λ (b : List ℕ). StandsAt bytes footer.index_at (number, b)) is h.1);
      ends = ap (λ (b : List ℕ). footer.index_at + length b + 20) (sym is) ∙ ends ∙ ap (λ (n : ℕ). index_end footer.filter_at n) same;
    }) (under_both told len (λ bytes. frame_body id bytes footer.index_at number ≡ Ok frame) (λ bytes. StandsAt bytes footer.index_at (number, frame)) read stands)

-- ---- where a refusal stands

fields_unfit_at : (id : FileId) (at : ℕ) (footer : Footer) (fault : Fault) → AreFieldsUnfit id at footer fault → IsUnfitAt id at fault
fields_unfit_at id at footer fault (inl none) = inr none.1
fields_unfit_at id at footer fault (inr (inl great)) = inl (great.1.number, 2 ^ 62, great.1.fault_is)
fields_unfit_at id at footer fault (inr (inr none)) = inr none.3

pub footer_unfit_at : (id : FileId) (at : ℕ) (filtered : Bool) (body : List ℕ) (fault : Fault) → IsFooterUnfit id at filtered body fault → IsUnfitAt id at fault
footer_unfit_at id at filtered body fault (inl form) = inr form.1
footer_unfit_at id at filtered body fault (inr said) = fields_unfit_at id at said.0 fault said.3
