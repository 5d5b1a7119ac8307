-- What is read of a file of records where it is loaded, and that it is not refused.
use Rattle.std.proofs.Common.{◌≡◌, ℕ, ◌-◌, ◌≤◌, ◌⊎◌, List, length, refl, sym, ap, ◌∙◌, subst, inl, inr, arith, Option, Some, None, IfSome, Result, Err, MatchResult, Bool, false}
use Rattle.mg_frame.specs.Frames.{numbered_frames}
use Rattle.mg_types.specs.declared.faults.Fault.{Fault}
use Rattle.mg_types.specs.declared.faults.Fault.TheVariants.{Malformed}
use Rattle.mg_types.specs.declared.names.FileId.{FileId}
use Rattle.mg_sealed.specs.Answers.{IsOutside}
use Rattle.mg_sealed.specs.declared.reading.SealedFile.{SealedFile}
use Rattle.mg_sealed.proofs.AnswerLaws.{some_both, some_then}
use Rattle.mg_indexed.specs.Footer.{footer_size}
use Rattle.mg_indexed.specs.Forms.{Form}
use Rattle.mg_indexed.specs.Loading.{IsFooterRead, IsIndexed, IsIndexRead, IsKept as AreKept, IsRefused as IsUnloaded}
use Rattle.mg_indexed.specs.NumberKeys.{number_keys}
use Rattle.mg_indexed.specs.declared.footer.Footer.{Footer}
use Rattle.mg_indexed.specs.declared.handle.BlockHandle.{BlockHandle}
use Rattle.mg_records.specs.File.{IsFile, bodies_of, footer_of, index_from}
use Rattle.mg_records.specs.Framed.{IsFramed}
use Rattle.mg_records.specs.Reading.{Agrees, IsKept, IsRead}
use Rattle.mg_records.specs.Record.{Kind, IsLawful}
use Rattle.mg_records.specs.Refusals.{IsRefused}
use Rattle.mg_records.specs.Writing.{Filed, Represents}
use Rattle.mg_records.proofs.LoadingLaws.{agree_of, indexed_of}

-- what was read of a file, where the bytes are those of one with this footer and this index
abbrev pub IsSame : {S : Type 0} → Form → ℕ → Filed S → List ℕ → Type 0
IsSame form len filed bytes = (footer : Footer) (index : List (BlockHandle ℕ)) → IsIndexed number_keys form bytes footer index → length bytes ≡ len → (filed.footer ≡ footer) × (filed.index ≡ index)

-- what is kept of a file of records is that of these records
file_holds : {T S : Type 0} (kind : Kind T) → IsLawful kind → (form : Form) → IsFramed kind form → (told : S → Option (List ℕ)) (id : FileId) (file : S) (len : ℕ) (bytes : List ℕ) (filed : Filed S) (records : List T)
    → told file ≡ Some bytes → filed.file ≡ record { id = id; file = file; len = len } → IsSame form len filed bytes → IsFile kind bytes records → length bytes ≡ len → Represents kind told filed records
file_holds {T} {S} kind lawful form framed told id file len bytes filed records tells is same spelled long =
    let read = same (footer_of kind spelled.blocks) (index_from kind 0 spelled.blocks) (indexed_of kind lawful form framed bytes spelled.blocks spelled.are spelled.spelling) long in
    let opt : told filed.file.file ≡ Some bytes = ap (λ (f : SealedFile S). told f.file) is ∙ tells in
    record {
      blocks = spelled.blocks;
      are = spelled.are;
      all = spelled.all;
      bytes = subst (λ o. IfSome o (λ b. b ≡ numbered_frames (bodies_of kind spelled.blocks))) (sym opt) spelled.spelling;
      len = ap (λ (f : SealedFile S). f.len) is ∙ sym long ∙ ap length spelled.spelling;
      footer = read.0;
      index = read.1;
    }

loaded_from : {T S : Type 0} (kind : Kind T) → IsLawful kind → (form : Form) → IsFramed kind form → (told : S → Option (List ℕ)) (id : FileId) (file : S) (len : ℕ) (filed : Filed S) (known : Option (List ℕ))
    → told file ≡ known → filed.file ≡ record { id = id; file = file; len = len } → IfSome known (IsSame form len filed)
    → IfSome known (λ bytes. (records : List T) → IsFile kind bytes records → length bytes ≡ len → Represents kind told filed records)
loaded_from kind lawful form framed told id file len filed None tells is same = tt
loaded_from kind lawful form framed told id file len filed (Some bytes) tells is same =
    λ records spelled long. file_holds kind lawful form framed told id file len bytes filed records tells is same spelled long

pub loaded : {T S : Type 0} (kind : Kind T) → IsLawful kind → (form : Form) → IsFramed kind form → (told : S → Option (List ℕ)) (id : FileId) (file : S) (len : ℕ) (filed : Filed S)
    → filed.file ≡ record { id = id; file = file; len = len } → IfSome (told file) (IsSame form len filed)
    → IfSome (told file) (λ bytes. (records : List T) → IsFile kind bytes records → length bytes ≡ len → Represents kind told filed records)
loaded kind lawful form framed told id file len filed is same = loaded_from kind lawful form framed told id file len filed (told file) refl is same

-- a file of records is refused for nothing that its bytes cause
pub not_loaded : {T V : Type 0} (kind : Kind T) → IsLawful kind → (form : Form) → IsFramed kind form → (told : Option (List ℕ)) (len : ℕ) (result : Result V Fault) (fault : Fault) (P : List T → V → Type 0)
    → result ≡ Err fault → IfSome told (λ bytes. (footer : Footer) (index : List (BlockHandle ℕ)) → IsIndexed number_keys form bytes footer index → length bytes ≡ len → IsOutside fault)
    → IfSome told (λ bytes. (records : List T) → IsFile kind bytes records → length bytes ≡ len → MatchResult result (P records) (λ f. IsOutside f))
not_loaded {T} {V} kind lawful form framed told len result fault P is outside =
    some_then told (λ bytes. (footer : Footer) (index : List (BlockHandle ℕ)) → IsIndexed number_keys form bytes footer index → length bytes ≡ len → IsOutside fault)
    (λ bytes. (records : List T) → IsFile kind bytes records → length bytes ≡ len → MatchResult result (P records) (λ f. IsOutside f))
    (λ bytes h records spelled long. subst (λ (r : Result V Fault). MatchResult r (P records) (λ f. IsOutside f)) (sym is)
    (h (footer_of kind spelled.blocks) (index_from kind 0 spelled.blocks) (indexed_of kind lawful form framed bytes spelled.blocks spelled.are spelled.spelling) long)) outside

-- footer and index of a file of records agree
pub not_apart : {T S : Type 0} (kind : Kind T) → IsLawful kind → (form : Form) → IsFramed kind form → (told : Option (List ℕ)) (len : ℕ) (filed : Filed S) (fault : Fault)
    → (Agrees filed.footer filed.index → ⊥) → IfSome told (IsSame form len filed) → IfSome told (λ bytes. (records : List T) → IsFile kind bytes records → length bytes ≡ len → IsOutside fault)
not_apart {T} {S} kind lawful form framed told len filed fault apart same =
    some_then told (IsSame form len filed) (λ bytes. (records : List T) → IsFile kind bytes records → length bytes ≡ len → IsOutside fault)
    (λ bytes h records spelled long.
    let read = h (footer_of kind spelled.blocks) (index_from kind 0 spelled.blocks) (indexed_of kind lawful form framed bytes spelled.blocks spelled.are spelled.spelling) long in
    let agree = agree_of kind spelled.blocks spelled.are in
    absurd (apart (subst (λ (f : Footer). Agrees f filed.index) (sym read.0) (subst (λ es. Agrees (footer_of kind spelled.blocks) es) (sym read.1) agree)))) same

-- ---- what is read

least_len : (form : Form) (len : ℕ) → form.filtered ≡ false → footer_size form.filtered ≤ len → 65 ≤ len
least_len form len unfiltered least = omega (arith, ap footer_size unfiltered, least)

-- what is kept is what the bytes say
pub file_read : {S : Type 0} (form : Form) → form.filtered ≡ false → (told : Option (List ℕ)) (id : FileId) (file : S) (len : ℕ) (filed : Filed S) → filed.file ≡ record { id = id; file = file; len = len }
    → footer_size form.filtered ≤ len → IsKept form filed.footer filed.index → IfSome told (λ bytes. length bytes ≡ len)
    → IfSome told (λ bytes. IsFooterRead form.filtered id bytes filed.footer × IsIndexRead number_keys id bytes filed.footer filed.index) → IfSome told (λ bytes. IsRead form bytes filed)
file_read {S} form unfiltered told id file len filed is least kept long read =
    let id_is : id ≡ filed.file.id = sym (ap (λ (f : SealedFile S). f.id) is) in
    let len_is : filed.file.len ≡ len = ap (λ (f : SealedFile S). f.len) is in
    let enough = least_len form len unfiltered least in
    some_then told (λ bytes. (length bytes ≡ len) × (IsFooterRead form.filtered id bytes filed.footer × IsIndexRead number_keys id bytes filed.footer filed.index)) (λ bytes. IsRead form bytes filed)
    (λ bytes h. record {
      len = len_is ∙ sym h.0;
      least = omega (arith, enough, h.0);
      footer = subst (λ (i : FileId). IsFooterRead false i bytes filed.footer) id_is (subst (λ (b : Bool). IsFooterRead b id bytes filed.footer) unfiltered h.1.0);
      index = subst (λ (i : FileId). IsIndexRead number_keys i bytes filed.footer filed.index) id_is h.1.1;
      kept = kept;
    })
    (some_both told (λ bytes. length bytes ≡ len) (λ bytes. IsFooterRead form.filtered id bytes filed.footer × IsIndexRead number_keys id bytes filed.footer filed.index) long read)

-- ---- refusals

pub unloaded : {S : Type 0} (form : Form) (told : Option (List ℕ)) (id : FileId) (file : S) (len : ℕ) (fault : Fault)
    → IfSome told (λ bytes. IsOutside fault ⊎ IsUnloaded number_keys form id file len bytes fault) → IfSome told (λ bytes. IsOutside fault ⊎ IsRefused form id file len bytes fault)
unloaded form told id file len fault why =
    some_then told (λ bytes. IsOutside fault ⊎ IsUnloaded number_keys form id file len bytes fault) (λ bytes. IsOutside fault ⊎ IsRefused form id file len bytes fault)
    (λ bytes h. elim h [ inl outside ↦ inl outside | inr refused ↦ inr (inl refused) ]) why

pub apart_refused : {S : Type 0} (form : Form) → form.filtered ≡ false → (told : Option (List ℕ)) (id : FileId) (file : S) (len : ℕ) (filed : Filed S) (fault : Fault)
    → IfSome told (λ bytes. length bytes ≡ len) → IfSome told (λ bytes. IsFooterRead form.filtered id bytes filed.footer × IsIndexRead number_keys id bytes filed.footer filed.index)
    → AreKept number_keys form filed.footer filed.index → (Agrees filed.footer filed.index → ⊥) → fault ≡ Malformed id (len - 65)
    → IfSome told (λ bytes. IsOutside fault ⊎ IsRefused form id file len bytes fault)
apart_refused form unfiltered told id file len filed fault long read kept apart is =
    some_then told (λ bytes. (length bytes ≡ len) × (IsFooterRead form.filtered id bytes filed.footer × IsIndexRead number_keys id bytes filed.footer filed.index))
    (λ bytes. IsOutside fault ⊎ IsRefused form id file len bytes fault)
    (λ bytes h.
    let ends = subst (λ (b : Bool). IsFooterRead b id bytes filed.footer) unfiltered h.1.0 in
    inr (inr (h.0, (filed.footer, filed.index, ends, h.1.1, kept, apart, is ∙ ap (λ (n : ℕ). Malformed id (n - 65)) (sym h.0)))))
    (some_both told (λ bytes. length bytes ≡ len) (λ bytes. IsFooterRead form.filtered id bytes filed.footer × IsIndexRead number_keys id bytes filed.footer filed.index) long read)
