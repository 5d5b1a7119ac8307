-- What is known of a file where its port tells that it is a table.
use Rattle.std.proofs.Common.{◌≡◌, ℕ, ◌+◌, List, length, refl, sym, ap, ◌∙◌, subst, Option, Some, None, IfSome, Result, Ok, Err, MatchResult}
use Rattle.mg_frame.specs.Frames.{numbered_frames}
use Rattle.mg_types.specs.declared.faults.Fault.{Fault}
use Rattle.mg_types.specs.declared.names.FileId.{FileId}
use Rattle.mg_sealed.specs.Answers.{Answers, IsOutside}
use Rattle.mg_sealed.specs.Reading.{frame_body}
use Rattle.mg_sealed.specs.declared.reading.SealedFile.{SealedFile}
use Rattle.mg_indexed.specs.Footer.{offset_of}
use Rattle.mg_table.specs.Index.{handles_from}
use Rattle.mg_indexed.specs.Loading as indexed
use Rattle.mg_indexed.specs.Loading.{IsIndexed}
use Rattle.mg_indexed.specs.declared.handle.BlockHandle.{BlockHandle}
use Rattle.mg_indexed.specs.Forms.{table_form}
use Rattle.mg_indexed.specs.TableKeys.{table_keys}
use Rattle.mg_table.specs.Loading.{Knows}
use Rattle.mg_table.specs.Table.{footer_of, table_bodies, IsTable, IsTableOf, Represents}
use Rattle.mg_types.specs.declared.items.Entry.{Entry}
use Rattle.mg_indexed.specs.declared.footer.Footer.{Footer}
use Rattle.mg_table.specs.declared.table.Table.{Table}
use Rattle.mg_table.proofs.LoadingLaws.{reads_filter, file_ends, is_indexed}

-- something of the interval, the blocks and the filter of a table
abbrev pub Of : Type 1
Of = ℕ → ℕ → List (List Entry) → List ℕ → Type 0

pub knows_then : (told : Option (List ℕ)) (len : ℕ) (C D : Of)
    → ((lo hi : ℕ) (entries : List Entry) (blocks : List (List Entry)) (filter : List ℕ) → IsTableOf lo hi entries blocks filter → C lo hi blocks filter → D lo hi blocks filter)
    → Knows told len C → Knows told len D
knows_then None len C D step known = tt
knows_then (Some bytes) len C D step known = λ lo hi entries is same. step lo hi entries is.blocks is.filter is.parts (known lo hi entries is same)

pub knows_both : (told : Option (List ℕ)) (len : ℕ) (C D : Of) → Knows told len C → Knows told len D → Knows told len (λ lo hi blocks filter. C lo hi blocks filter × D lo hi blocks filter)
knows_both None len C D one other = tt
knows_both (Some bytes) len C D one other = λ lo hi entries is same. (one lo hi entries is same, other lo hi entries is same)

-- ---- what is read

pub knows_filter : (told : Option (List ℕ)) (id : FileId) (len at many number : ℕ) (result : Result (List ℕ) Fault) → number ≡ many + 1
    → IfSome told (λ bytes. len ≡ length bytes → Answers (frame_body id bytes at number) result)
    → Knows told len (λ lo hi blocks filter. at ≡ offset_of (footer_of lo hi blocks filter).filter_at → many ≡ length blocks → Answers (Ok filter) result)
knows_filter None id len at many number result count known = tt
knows_filter (Some bytes) id len at many number result count known = λ lo hi entries is same there counted.
    let reads : frame_body id bytes at number ≡ Ok is.filter =
    ap (λ (b : List ℕ). frame_body id b at number) is.bytes_are
    ∙ ap (λ (n : ℕ). frame_body id (numbered_frames (table_bodies lo hi is.blocks is.filter)) at n) (count ∙ ap (λ (n : ℕ). n + 1) counted)
    ∙ ap (λ (n : ℕ). frame_body id (numbered_frames (table_bodies lo hi is.blocks is.filter)) n (length is.blocks + 1)) there
    ∙ reads_filter id lo hi entries is.blocks is.filter is.parts in
    subst (λ (a : Result (List ℕ) Fault). Answers a result) reads (known (sym same))

pub knows_length : (told : Option (List ℕ)) (len : ℕ) → Knows told len (λ lo hi blocks filter. len ≡ offset_of (footer_of lo hi blocks filter).filter_at + (length filter + 20) + 73)
knows_length None len = tt
knows_length (Some bytes) len = λ lo hi entries is same. sym same ∙ ap length is.bytes_are ∙ file_ends lo hi is.blocks is.filter

-- ---- what a load answers

-- what a load of footer and index promises of a file is known of each table that it is
pub knows_loaded : {S : Type 0} (told : Option (List ℕ)) (len : ℕ) (result : Result (indexed.Loaded S (List ℕ)) Fault)
    → IfSome told (λ bytes. (footer : Footer) (index : List (BlockHandle (List ℕ))) → IsIndexed table_keys table_form bytes footer index → length bytes ≡ len →
    MatchResult result (λ loaded. (loaded.footer ≡ footer) × (loaded.index ≡ index)) (λ fault. IsOutside fault))
    → Knows told len (λ lo hi blocks filter. MatchResult result (λ loaded. (loaded.footer ≡ footer_of lo hi blocks filter) × (loaded.index ≡ handles_from 0 blocks)) (λ fault. IsOutside fault))
knows_loaded None len result known = tt
knows_loaded (Some bytes) len result known = λ lo hi entries is same. known (footer_of lo hi is.blocks is.filter) (handles_from 0 is.blocks) (is_indexed bytes lo hi entries is) same

-- what a load promises of a file
abbrev pub Loaded : {S : Type 0} → (S → Option (List ℕ)) → Option (List ℕ) → ℕ → Result (Table S) Fault → Type 0
Loaded told known len result =
    IfSome known (λ bytes. (lo hi : ℕ) (entries : List Entry) → IsTable bytes lo hi entries → length bytes ≡ len →
    MatchResult result (λ table. Represents told table entries × (table.indexed.footer.low ≡ lo) × (table.indexed.footer.high ≡ hi)) (λ fault. IsOutside fault))

-- an error that comes from outside, whatever the table is
pub outside_err : {S : Type 0} (told : S → Option (List ℕ)) (known : Option (List ℕ)) (len : ℕ) (result : Result (Table S) Fault) (fault : Fault) → result ≡ Err fault
    → Knows known len (λ _ _ _ _. IsOutside fault) → Loaded told known len result
outside_err told None len result fault is knows = tt
outside_err {S} told (Some bytes) len result fault is knows = λ lo hi entries table same.
    subst (λ (r : Result (Table S) Fault). MatchResult r (λ t. Represents told t entries × (t.indexed.footer.low ≡ lo) × (t.indexed.footer.high ≡ hi)) (λ f. IsOutside f)) (sym is) (knows lo hi entries table same)

-- what is kept of a file is what its table says
abbrev pub Keeps : {S : Type 0} → Table S → Of
Keeps table lo hi blocks filter = (table.indexed.footer ≡ footer_of lo hi blocks filter) × ((table.indexed.index ≡ handles_from 0 blocks) × (table.filter ≡ filter))

-- the bytes of a table, over the interval and the filter of its footer
stands : {S : Type 0} (told : S → Option (List ℕ)) (table : Table S) (bytes : List ℕ) (lo hi : ℕ) (entries : List Entry) (is : IsTable bytes lo hi entries)
    → told table.indexed.file.file ≡ Some bytes → length bytes ≡ table.indexed.file.len → Keeps table lo hi is.blocks is.filter → Represents told table entries × (table.indexed.footer.low ≡ lo) × (table.indexed.footer.high ≡ hi)
stands told table bytes lo hi entries is tells same keeps =
    let from : table.indexed.footer.low ≡ lo = ap (λ (f : Footer). f.low) keeps.0 in
    let to : table.indexed.footer.high ≡ hi = ap (λ (f : Footer). f.high) keeps.0 in
    let filter : table.filter ≡ is.filter = keeps.1.1 in
    let parts : IsTableOf table.indexed.footer.low table.indexed.footer.high entries is.blocks table.filter =
    subst (λ (n : ℕ). IsTableOf n table.indexed.footer.high entries is.blocks table.filter) (sym from)
    (subst (λ (n : ℕ). IsTableOf lo n entries is.blocks table.filter) (sym to) (subst (λ (f : List ℕ). IsTableOf lo hi entries is.blocks f) (sym filter) is.parts)) in
    let footer : table.indexed.footer ≡ footer_of table.indexed.footer.low table.indexed.footer.high is.blocks table.filter =
    keeps.0 ∙ ap (λ (n : ℕ). footer_of n hi is.blocks is.filter) (sym from) ∙ ap (λ (n : ℕ). footer_of table.indexed.footer.low n is.blocks is.filter) (sym to) in
    let bytes_are : bytes ≡ numbered_frames (table_bodies table.indexed.footer.low table.indexed.footer.high is.blocks table.filter) =
    is.bytes_are
    ∙ ap (λ (n : ℕ). numbered_frames (table_bodies n hi is.blocks is.filter)) (sym from)
    ∙ ap (λ (n : ℕ). numbered_frames (table_bodies table.indexed.footer.low n is.blocks is.filter)) (sym to)
    ∙ ap (λ (f : List ℕ). numbered_frames (table_bodies table.indexed.footer.low table.indexed.footer.high is.blocks f)) (sym filter) in (
      record {
        blocks = is.blocks;
        parts = parts;
        footer = footer;
        index = keeps.1.0;
        len = sym same ∙ ap length bytes_are;
        file = subst (λ (o : Option (List ℕ)). IfSome o (λ b. b ≡ numbered_frames (table_bodies table.indexed.footer.low table.indexed.footer.high is.blocks table.filter))) (sym tells) bytes_are;
      },
      from,
      to,
    )

loads_known : {S : Type 0} (told : S → Option (List ℕ)) (file : S) (known : Option (List ℕ)) (table : Table S) (len : ℕ) → told file ≡ known
    → table.indexed.file.file ≡ file → table.indexed.file.len ≡ len → Knows known len (Keeps table) → Loaded told known len (Ok table)
loads_known told file None table len tells handle same knows = tt
loads_known told file (Some bytes) table len tells handle same knows = λ lo hi entries is long.
    stands told table bytes lo hi entries is (ap told handle ∙ tells) (long ∙ sym same) (knows lo hi entries is long)

pub loads : {S : Type 0} (told : S → Option (List ℕ)) (file : S) (table : Table S) (len : ℕ)
    → table.indexed.file.file ≡ file → table.indexed.file.len ≡ len → Knows (told file) len (Keeps table) → Loaded told (told file) len (Ok table)
loads told file table len handle same knows = loads_known told file (told file) table len refl handle same knows

-- what is known of the file that was opened is known of the one that was given
pub known_before : {S : Type 0} (told : S → Option (List ℕ)) (file : SealedFile S) (id : FileId) (given : S) (len : ℕ) (C : Of) → file ≡ record { id = id; file = given; len = len }
    → Knows (told file.file) file.len C → Knows (told given) len C
known_before {S} told file id given len C same known = subst (λ (f : SealedFile S). Knows (told f.file) f.len C) same known
