-- The blocks of a file, where its index says that they stand.
use Rattle.std.proofs.Common.{◌≡◌, ◌≢◌, ℕ, ◌+◌, ◌-◌, ◌<◌, ◌≤◌, ◌^◌, ◌⊎◌, cond, Bool, true, false, List, [], ◌∷◌, ◌++◌, length, drop, refl, sym, ap, ◌∙◌, subst, arith, append_assoc, suc, zero, Option, Some, None, IfSome, inl, inr, Result, Ok, Err, MatchResult, slice_index_or}
use Rattle.std.proofs.lemmas.List.{append-nil, length-append, length-map, map-append, drop_at, drop_all}
use Rattle.std.proofs.lemmas.Bool.{eq-eqb}
use Rattle.std.proofs.lemmas.List.Elements.{filter-append}
use Rattle.std.proofs.lemmas.List.Sums.{sum_by-cons}
use Rattle.std.specs.Prelude.{sum_by, filter, map, nat_lt, IsSome, IfErr, IfOk}
use Rattle.std.specs.List.{AllByRecursion}
use Rattle.mg_frame.specs.Frames.{numbered_frames}
use Rattle.mg_types.specs.declared.faults.Fault.{Fault}
use Rattle.mg_types.specs.declared.faults.Fault.TheVariants.{Malformed, NoMemory}
use Rattle.mg_types.specs.declared.names.FileId.{FileId}
use Rattle.mg_sealed.specs.Answers.{Answers, IsOutside}
use Rattle.mg_sealed.specs.Filling.{Fits, AreFilled, items_of}
use Rattle.mg_sealed.specs.Reading.{frame_body}
use Rattle.mg_sealed.specs.Blocks.{block_body, judged_block, IsUnfitAt}
use Rattle.mg_sealed.proofs.AnswerLaws.{answered, refused, some_any, some_both, some_then}
use Rattle.mg_sealed.proofs.WrittenLaws.{written_frame_is_read}
use Rattle.mg_indexed.specs.Footer.{footer_bytes}
use Rattle.mg_indexed.specs.Index.{index_bytes, BeginUpTo}
use Rattle.mg_indexed.specs.NumberKeys.{number_keys}
use Rattle.mg_records.specs.File.{block_of, first_number, last_number, last_number_after, frame_length, index_from, end_of, RiseAfter, AreRising, AreBlocks, footer_of, bodies_of, record_of}
use Rattle.mg_records.specs.Record.{Kind, IsLawful, IsRecord}
use Rattle.mg_records.specs.Lookup.{Follows, IsBlock, IsBlockFault, IsBlockOf, IsBlockRefused, IsBlockUnfit, IsBodyRefused, IsSpan, IsUnfitFor, IsWithin, StartsAt, AreTotals}
use Rattle.mg_records.specs.declared.block.Span.{Span}
use Rattle.mg_records.proofs.WithinLaws.{last_on, within_before, within_last}
use Rattle.mg_records.proofs.RecordLaws.{some_bytes_of}
use Rattle.mg_records.specs.Writing.{Filed, Represents}
use Rattle.mg_indexed.specs.declared.footer.Footer.{Footer}
use Rattle.mg_indexed.specs.declared.handle.BlockHandle.{BlockHandle}
use Rattle.mg_records.proofs.BlockLaws.{each-left, each-right, length-push}
use Rattle.mg_records.proofs.FileLaws.{length-index_from, length-blocks}
use Rattle.mg_records.proofs.HandleLaws.{not_above}
use Rattle.mg_records.proofs.LoadingLaws.{most_bytes}
use Rattle.mg_records.proofs.ScanLaws.{block_not_refused, block_not_unfit, filter-pass, filter_all, record_of-later}

-- ---- where a block stands

-- the blocks before one, that one, and those behind it
pub record Parts {T : Type 0} (blocks : List (List T)) (number : ℕ) : Type 0 where
  pub before : List (List T)
  pub block : List T
  pub later : List (List T)
  pub all : blocks ≡ before ++ block ∷ later
  pub many : length before ≡ number

pub parts : {T : Type 0} (blocks : List (List T)) (number : ℕ) → number < length blocks → Parts blocks number
parts [] number within = absurd (omega (arith, within))
parts (b ∷ blocks) zero within = record { before = []; block = b; later = blocks; all = refl; many = refl }
parts (b ∷ blocks) (suc number) within =
    let rest = parts blocks number (omega (arith, within)) in
    record { before = b ∷ rest.before; block = rest.block; later = rest.later; all = ap (λ bs. b ∷ bs) rest.all; many = ap suc rest.many }

-- the index says of a block its first number, where the frames before it end, and its length
pub handle_is : {T : Type 0} (kind : Kind T) (at : ℕ) (before : List (List T)) (block : List T) (later : List (List T)) (d : BlockHandle ℕ)
    → slice_index_or (index_from kind at (before ++ block ∷ later)) (length before) d
    ≡ record { first = first_number kind block; at = at + end_of kind before; len = frame_length kind block }
handle_is kind at [] block later d = ap (λ n. record { first = first_number kind block; at = n; len = frame_length kind block }) (omega arith)
handle_is kind at (b ∷ before) block later d =
    handle_is kind (at + frame_length kind b) before block later d
    ∙ ap (λ n. record { first = first_number kind block; at = n; len = frame_length kind block }) (omega (arith, sum_by-cons (frame_length kind) b before))

items_of-parts : {T : Type 0} (before : List (List T)) (block : List T) (later : List (List T)) → items_of (before ++ block ∷ later) ≡ items_of before ++ (block ++ items_of later)
items_of-parts [] block later = refl
items_of-parts (b ∷ before) block later = ap (λ xs. b ++ xs) (items_of-parts before block later) ∙ sym (append_assoc b (items_of before) (block ++ items_of later))

filled-parts : {T : Type 0} (kind : Kind T) (before : List (List T)) (block : List T) (later : List (List T)) → AreFilled (block_of kind) (before ++ block ∷ later)
    → Fits (block_of kind) block × AreFilled (block_of kind) later
filled-parts kind [] block later filled = (filled.0, filled.2)
filled-parts kind (b ∷ before) block later filled = filled-parts kind before block later filled.2

pub fits-parts : {T : Type 0} (kind : Kind T) (before : List (List T)) (block : List T) (later : List (List T)) → AllByRecursion (IsRecord kind) (items_of (before ++ block ∷ later))
    → AllByRecursion (IsRecord kind) block
fits-parts {T} kind before block later fit =
    each-left (IsRecord kind) block (items_of later) (each-right (IsRecord kind) (items_of before) (block ++ items_of later)
    (subst (λ xs. AllByRecursion (IsRecord kind) xs) (items_of-parts before block later) fit))

-- what stands at the offset of a block is its body
pub reads_block : {T : Type 0} (kind : Kind T) → IsLawful kind → (id : FileId) (bytes : List ℕ) (before : List (List T)) (block : List T) (later : List (List T))
    → AreBlocks kind (before ++ block ∷ later) → bytes ≡ numbered_frames (bodies_of kind (before ++ block ∷ later))
    → frame_body id bytes (end_of kind before) (length before) ≡ Ok (block_of kind block)
reads_block {T} kind lawful id bytes before block later are is =
    let bodies : List (List T) → List (List ℕ) = map (block_of kind) in
    let blocks = before ++ block ∷ later in
    let index = index_bytes number_keys (index_from kind 0 blocks) in
    let footer = footer_bytes (footer_of kind blocks) in
    let behind = index ∷ footer ∷ [] in
    let many : length (bodies before) ≡ length before = length-map before (block_of kind) in
    let few : length before < 2 ^ 32 = omega (arith, are.few, length-append before (block ∷ later)) in
    let small = most_bytes kind lawful block (fits-parts kind before block later are.fit) (filled-parts kind before block later are.filled).0 in
    let split : bodies_of kind blocks ≡ bodies before ++ (block_of kind block ∷ (bodies later ++ behind)) =
    append_assoc (bodies blocks) (index ∷ []) (footer ∷ []) ∙ ap (λ xs. xs ++ behind) (map-append (block_of kind) before (block ∷ later)) ∙ append_assoc (bodies before) (block_of kind block ∷ bodies later) behind in
    let whole = written_frame_is_read id (bodies before) (bodies later ++ behind) (block_of kind block) (omega (arith, few, many)) (omega (arith, small)) in
    ap (λ (b : List ℕ). frame_body id b (end_of kind before) (length before)) (is ∙ ap numbered_frames split)
    ∙ ap (λ (at : ℕ). frame_body id (numbered_frames (bodies before ++ (block_of kind block ∷ (bodies later ++ behind)))) at (length before)) (sym (length-blocks kind before))
    ∙ ap (λ (n : ℕ). frame_body id (numbered_frames (bodies before ++ (block_of kind block ∷ (bodies later ++ behind)))) (length (numbered_frames (bodies before))) n) (sym many)
    ∙ whole

told_both : {A B : Type 0} (o : Option A) (P Q : A → Type 0) → ((a : A) → P a → Q a → B) → IsSome o → IfSome o P → IfSome o Q → B
told_both None P Q step some p q = let e : false ≡ true = some in absurd cc
told_both (Some a) P Q step some p q = step a p q

judged_long : (id : FileId) (at len : ℕ) (body : List ℕ) → length body + 20 ≡ len → judged_block id at len (Ok body) ≡ Ok body
judged_long id at len body is = ap (λ b. cond b (Ok body) (Err (Malformed id at))) (eq-eqb (length body + 20) len is)

-- the body that is read of the block of a number
reads_body : {T : Type 0} (kind : Kind T) → IsLawful kind → (id : FileId) (bytes : List ℕ) (blocks : List (List T)) (number : ℕ) (p : Parts blocks number) → AreBlocks kind blocks
    → bytes ≡ numbered_frames (bodies_of kind blocks) → (handle : BlockHandle ℕ) → handle ≡ record { first = first_number kind p.block; at = end_of kind p.before; len = frame_length kind p.block }
    → block_body id bytes handle.at handle.len number ≡ Ok (block_of kind p.block)
unfolding block_body
reads_body {T} kind lawful id bytes blocks number p are is handle handle_is =
    let reads : frame_body id bytes (end_of kind p.before) number ≡ Ok (block_of kind p.block) =
    ap (λ (n : ℕ). frame_body id bytes (end_of kind p.before) n) (sym p.many)
    ∙ reads_block kind lawful id bytes p.before p.block p.later (subst (λ bs. AreBlocks kind bs) p.all are) (is ∙ ap (λ bs. numbered_frames (bodies_of kind bs)) p.all) in
    ap (λ (e : BlockHandle ℕ). judged_block id e.at e.len (frame_body id bytes e.at number)) handle_is
    ∙ ap (judged_block id (end_of kind p.before) (frame_length kind p.block)) reads
    ∙ judged_long id (end_of kind p.before) (frame_length kind p.block) (block_of kind p.block) refl

block_here : {T : Type 0} (kind : Kind T) (blocks : List (List T)) (number : ℕ) (body : List ℕ) (p : Parts blocks number) → body ≡ block_of kind p.block → IsBlock kind blocks number body
block_here kind blocks number body p is = record { before = p.before; block = p.block; later = p.later; all = p.all; many = p.many; spelling = is }

block_or_outside : {T : Type 0} (kind : Kind T) (blocks : List (List T)) (number : ℕ) (p : Parts blocks number) (result : Result (List ℕ) Fault) → Answers (Ok (block_of kind p.block)) result
    → MatchResult result (λ body. IsBlock kind blocks number body) (λ fault. IsOutside fault)
block_or_outside kind blocks number p (Ok body) answer = block_here kind blocks number body p (answered (block_of kind p.block) body (Ok (block_of kind p.block)) refl answer)
block_or_outside kind blocks number p (Err fault) answer = refused (block_of kind p.block) (Ok (block_of kind p.block)) fault refl answer

-- what the index has of a block of a file
handle_at : {T S : Type 0} (kind : Kind T) (told : S → Option (List ℕ)) (filed : Filed S) (records : List T) (holds : Represents kind told filed records) (number : ℕ) (p : Parts holds.blocks number) (d : BlockHandle ℕ)
    → slice_index_or filed.index number d ≡ record { first = first_number kind p.block; at = end_of kind p.before; len = frame_length kind p.block }
handle_at kind told filed records holds number p d =
    ap (λ es. slice_index_or es number d) holds.index
    ∙ ap (λ bs. slice_index_or (index_from kind 0 bs) number d) p.all
    ∙ ap (λ n. slice_index_or (index_from kind 0 (p.before ++ p.block ∷ p.later)) n d) (sym p.many)
    ∙ handle_is kind 0 p.before p.block p.later d
    ∙ ap (λ n. record { first = first_number kind p.block; at = n; len = frame_length kind p.block }) (omega arith)

pub no_handle : BlockHandle ℕ
no_handle = record { first = 0; at = 0; len = 0 }

pub blocks_many : {T S : Type 0} (kind : Kind T) (told : S → Option (List ℕ)) (filed : Filed S) (records : List T) (holds : Represents kind told filed records) → length filed.index ≡ length holds.blocks
blocks_many kind told filed records holds = ap length holds.index ∙ length-index_from kind 0 holds.blocks

-- what is read of the block of a number
pub block_read : {T S : Type 0} (kind : Kind T) → IsLawful kind → (told : S → Option (List ℕ)) (filed : Filed S) (records : List T) (holds : Represents kind told filed records)
    (number : ℕ) (span : Span) (result : Result (List ℕ) Fault) → IsSome (told filed.file.file) → IsSpan filed number span
    → IfSome (told filed.file.file) (λ bytes. filed.file.len ≡ length bytes → Answers (block_body filed.file.id bytes span.at span.len number) result)
    → MatchResult result (λ body. IsBlock kind holds.blocks number body) (λ fault. IsOutside fault)
block_read {T} {S} kind lawful told filed records holds number span result some is known =
    let p = parts holds.blocks number (omega (arith, is.within, blocks_many kind told filed records holds)) in
    let handle = handle_at kind told filed records holds number p no_handle in
    let at : span.at ≡ end_of kind p.before = is.at no_handle ∙ ap (λ (e : BlockHandle ℕ). e.at) handle in
    let len : span.len ≡ frame_length kind p.block = is.len no_handle ∙ ap (λ (e : BlockHandle ℕ). e.len) handle in
    let known' = subst (λ (n : ℕ). IfSome (told filed.file.file) (λ bytes. filed.file.len ≡ length bytes → Answers (block_body filed.file.id bytes (end_of kind p.before) n number) result)) len
    (subst (λ (n : ℕ). IfSome (told filed.file.file) (λ bytes. filed.file.len ≡ length bytes → Answers (block_body filed.file.id bytes n span.len number) result)) at known) in
    block_or_outside kind holds.blocks number p result
    (told_both (told filed.file.file) (λ bytes. bytes ≡ numbered_frames (bodies_of kind holds.blocks))
    (λ bytes. filed.file.len ≡ length bytes → Answers (block_body filed.file.id bytes (end_of kind p.before) (frame_length kind p.block) number) result)
    (λ bytes spelling known. subst (λ (a : Result (List ℕ) Fault). Answers a result)
    (reads_body kind lawful filed.file.id bytes holds.blocks number p holds.are spelling (record { first = first_number kind p.block; at = end_of kind p.before; len = frame_length kind p.block }) refl)
    (known (holds.len ∙ ap length (sym spelling))))
    some holds.bytes known')

rise_tail : {T : Type 0} (kind : Kind T) (x : T) (xs : List T) → RiseAfter kind x xs → AreRising kind xs
rise_tail kind x [] rise = tt
rise_tail kind x (y ∷ xs) rise = rise.1

rise_behind : {T : Type 0} (kind : Kind T) (xs ys : List T) → AreRising kind (xs ++ ys) → AreRising kind ys
rise_behind kind [] ys rise = rise
rise_behind kind (x ∷ xs) ys rise = rise_behind kind xs ys (rise_tail kind x (xs ++ ys) rise)

-- ---- a block of a file is right

pub fills : {T : Type 0} (kind : Kind T) (before : ℕ) (block : List T) → 4096 ≤ before → block ≢ [] → Follows kind before block
fills kind before [] over some = tt
fills kind before (x ∷ xs) over some = omega (arith, over, some_bytes_of kind x)

within_block : {T : Type 0} (kind : Kind T) (block : List T) (later : List (List T)) (end : ℕ) → block ≢ [] → AreRising kind (block ++ items_of later) → (later ≡ [] → end ≡ last_number kind block + 1)
    → ((next : List T) (more : List (List T)) → later ≡ next ∷ more → (next ≢ []) × (end ≡ first_number kind next)) → IsWithin kind (first_number kind block) (first_number kind block + 1) end block
within_block kind [] later end some rise outer inner = absurd (some refl)
within_block kind (x ∷ xs) [] end some rise outer inner = (omega arith, omega arith, within_last kind x xs end (outer refl) (subst (λ ys. RiseAfter kind x ys) (append-nil xs) rise))
within_block kind (x ∷ xs) ([] ∷ later) end some rise outer inner = absurd ((inner [] later refl).0 refl)
within_block kind (x ∷ xs) ((y ∷ ys) ∷ later) end some rise outer inner =
    (omega arith, omega arith, within_before kind x xs y (ys ++ items_of later) end (inner (y ∷ ys) later refl).1 rise)

filled_next : {T : Type 0} (kind : Kind T) (next : List T) (more : List (List T)) → AreFilled (block_of kind) (next ∷ more) → next ≢ []
filled_next kind next more filled = filled.0.some

-- a block of a file is what its span says
pub right_block : {T S : Type 0} (kind : Kind T) (told : S → Option (List ℕ)) (filed : Filed S) (records : List T) (holds : Represents kind told filed records) (number : ℕ) (span : Span) (body : List ℕ)
    → IsSpan filed number span → (b : IsBlock kind holds.blocks number body) → IsBlockOf kind span body b.block × Fits (block_of kind) b.block
right_block {T} {S} kind told filed records holds number span body is b =
    let p : Parts holds.blocks number = record { before = b.before; block = b.block; later = b.later; all = b.all; many = b.many } in
    let handle = handle_at kind told filed records holds number p no_handle in
    let first : span.first ≡ first_number kind b.block = is.first no_handle ∙ ap (λ (e : BlockHandle ℕ). e.first) handle in
    let filled = filled-parts kind b.before b.block b.later (subst (λ bs. AreFilled (block_of kind) bs) b.all holds.are.filled) in
    let rise = rise_behind kind (items_of b.before) (b.block ++ items_of b.later) (subst (λ xs. AreRising kind xs) (ap items_of b.all ∙ items_of-parts b.before b.block b.later) holds.are.rise) in
    let many : length filed.index ≡ length b.before + (1 + length b.later) = omega (arith, blocks_many kind told filed records holds, ap length b.all, length-append b.before (b.block ∷ b.later)) in
    let outer : b.later ≡ [] → span.end ≡ last_number kind b.block + 1 = λ none.
    (let all : items_of holds.blocks ≡ items_of b.before ++ b.block = ap items_of b.all ∙ items_of-parts b.before b.block b.later ∙ ap (λ bs. items_of b.before ++ (b.block ++ items_of bs)) none
    ∙ ap (λ xs. items_of b.before ++ xs) (append-nil b.block) in
    let last : last_number kind (items_of holds.blocks) ≡ last_number kind b.block = ap (last_number kind) all ∙ last_on kind 0 (items_of b.before) b.block filled.0.some in
    omega (arith, is.outer (omega (arith, many, b.many, ap length none)), ap (λ (f : Footer). f.high) holds.footer, last)) in
    let inner : (next : List T) (more : List (List T)) → b.later ≡ next ∷ more → (next ≢ []) × (span.end ≡ first_number kind next) = λ next more later.
    (let all : holds.blocks ≡ (b.before ++ b.block ∷ []) ++ next ∷ more = b.all ∙ ap (λ bs. b.before ++ b.block ∷ bs) later ∙ sym (append_assoc b.before (b.block ∷ []) (next ∷ more)) in
    let q : Parts holds.blocks (number + 1) = record { before = b.before ++ b.block ∷ []; block = next; later = more; all = all; many = omega (arith, b.many, length-append b.before (b.block ∷ [])) } in
    let within : number + 1 < length filed.index = omega (arith, many, b.many, ap length later) in (
      filled_next kind next more (subst (λ bs. AreFilled (block_of kind) bs) later filled.1),
      is.inner no_handle within ∙ ap (λ (e : BlockHandle ℕ). e.first) (handle_at kind told filed records holds (number + 1) q no_handle),
    )) in
    let within = within_block kind b.block b.later span.end filled.0.some rise outer inner in (
      record {
        some = filled.0.some;
        fit = fits-parts kind b.before b.block b.later (subst (λ bs. AllByRecursion (IsRecord kind) (items_of bs)) b.all holds.are.fit);
        within = subst (λ (n : ℕ). IsWithin kind n (n + 1) span.end b.block) (sym first) within;
        spelling = b.spelling;
      },
      filled.0,
    )

-- the answers on a block that is right
pub no_unfit_for : {T : Type 0} (kind : Kind T) → IsLawful kind → (number : ℕ) (span : Span) (body : List ℕ) (block : List T) (fault : Fault) → IsBlockOf kind span body block → Fits (block_of kind) block
    → IsUnfitFor kind number span body fault → ⊥
no_unfit_for kind lawful number span body block fault right fits (inl unfilled) =
    block_not_refused kind lawful 4096 span body block fault right fits (fills kind 4096 block (omega arith) right.some) (inl unfilled)
no_unfit_for kind lawful number span body block fault right fits (inr unfit) = block_not_unfit kind lawful span body block fault right unfit.0

-- the last block before the one of this number is closed by it, or there is none that a scan read
abbrev pub IsBehind : {T : Type 0} → Kind T → List (List T) → ℕ → ℕ → ℕ → ℕ → Type 0
IsBehind {T} kind blocks start number before last = ((before ≡ 4096) × (number ≡ start))
    ⊎ ((earlier : List (List T)) × (block : List T) × (later : List (List T)) × (blocks ≡ earlier ++ block ∷ later) × (length earlier + 1 ≡ number)
    × (before ≡ length (block_of kind block)) × (last ≡ last_number kind block))

closed-parts : {T : Type 0} (kind : Kind T) (earlier : List (List T)) (block next : List T) (later : List (List T)) → AreFilled (block_of kind) (earlier ++ block ∷ (next ∷ later)) → Follows kind (length (block_of kind block)) next
closed-parts kind [] block [] later filled = tt
closed-parts kind [] block (x ∷ next) later filled = omega (arith, filled.1, length-push kind block x)
closed-parts kind (b ∷ earlier) block next later filled = closed-parts kind earlier block next later filled.2

same_front : {T : Type 0} (xs ys : List (List T)) (x y : List T) (us vs : List (List T)) → xs ++ x ∷ us ≡ ys ++ y ∷ vs → length xs ≡ length ys → (x ≡ y) × (us ≡ vs)
same_front [] [] x y us vs is len = (cc, cc)
same_front [] (b ∷ ys) x y us vs is len = absurd (omega (arith, len))
same_front (a ∷ xs) [] x y us vs is len = absurd (omega (arith, len))
same_front (a ∷ xs) (b ∷ ys) x y us vs is len = let rest : xs ++ x ∷ us ≡ ys ++ y ∷ vs = cc in same_front xs ys x y us vs rest (omega (arith, len))

elim_behind : {T : Type 0} (kind : Kind T) (blocks : List (List T)) (number before : ℕ) (body : List ℕ) → AreFilled (block_of kind) blocks → (earlier : List (List T)) (block : List T) (later : List (List T))
    → blocks ≡ earlier ++ block ∷ later → length earlier + 1 ≡ number → before ≡ length (block_of kind block) → (b : IsBlock kind blocks number body) → Follows kind before b.block
elim_behind {T} kind blocks number before body filled earlier block [] all many long b =
    absurd (omega (arith, many, ap length all, length-append earlier (block ∷ []), ap length b.all, length-append b.before (b.block ∷ b.later), b.many))
elim_behind {T} kind blocks number before body filled earlier block (next ∷ later) all many long b =
    let all' : blocks ≡ (earlier ++ block ∷ []) ++ next ∷ later = all ∙ sym (append_assoc earlier (block ∷ []) (next ∷ later)) in
    let same = same_front (earlier ++ block ∷ []) b.before next b.block later b.later (sym all' ∙ b.all) (omega (arith, many, b.many, length-append earlier (block ∷ []))) in
    let closed = closed-parts kind earlier block next later (subst (λ bs. AreFilled (block_of kind) bs) all filled) in
    subst (λ (n : ℕ). Follows kind n b.block) (sym long) (subst (λ (xs : List T). Follows kind (length (block_of kind block)) xs) same.0 closed)

pub follows_behind : {T : Type 0} (kind : Kind T) (blocks : List (List T)) (start number before last : ℕ) (body : List ℕ) → AreFilled (block_of kind) blocks → IsBehind kind blocks start number before last
    → (b : IsBlock kind blocks number body) → Follows kind before b.block
follows_behind kind blocks start number before last body filled (inl none) b =
    fills kind before b.block (omega (arith, none.0)) (filled-parts kind b.before b.block b.later (subst (λ bs. AreFilled (block_of kind) bs) b.all filled)).0.some
follows_behind {T} kind blocks start number before last body filled (inr behind) b = elim_behind kind blocks number before body filled behind.0 behind.1 behind.2 behind.3 behind.4 behind.5 b

-- ---- the records before a block and behind it

later_is_above : {T : Type 0} (kind : Kind T) (x : T) (xs : List T) (y : T) (ys : List T) → RiseAfter kind x (xs ++ y ∷ ys) → kind.seq x < kind.seq y
later_is_above kind x [] y ys rise = rise.0
later_is_above kind x (z ∷ xs) y ys rise = omega (arith, rise.0, later_is_above kind z xs y ys rise.1)

before_is_below : {T : Type 0} (kind : Kind T) (number : ℕ) (xs : List T) (y : T) (ys : List T) → AreRising kind (xs ++ y ∷ ys) → kind.seq y ≤ number
    → AllByRecursion (λ x. kind.seq x < number) xs
before_is_below kind number [] y ys rise under = tt
before_is_below kind number (x ∷ xs) y ys rise under =
    (omega (arith, later_is_above kind x xs y ys rise, under), before_is_below kind number xs y ys (rise_tail kind x (xs ++ y ∷ ys) rise) under)

all_above : {T : Type 0} (kind : Kind T) (number : ℕ) (x : T) (xs : List T) → number ≤ kind.seq x → RiseAfter kind x xs → AllByRecursion (λ y. number < kind.seq y) xs
all_above kind number x [] under rise = tt
all_above kind number x (y ∷ xs) under rise = (omega (arith, under, rise.0), all_above kind number y xs (omega (arith, under, rise.0)) rise.1)

all_within : {T : Type 0} (kind : Kind T) (x : T) (xs : List T) → RiseAfter kind x xs
    → (kind.seq x ≤ last_number_after kind (kind.seq x) xs) × AllByRecursion (λ y. kind.seq y ≤ last_number_after kind (kind.seq x) xs) xs
all_within kind x [] rise = (omega arith, tt)
all_within kind x (y ∷ xs) rise =
    let rest = all_within kind y xs rise.1 in
    (omega (arith, rise.0, rest.0), (rest.0, rest.1))

-- ---- records that are not of a number

passed : {T : Type 0} (kind : Kind T) (number : ℕ) (xs ys : List T) → AllByRecursion (λ x. kind.seq x < number) xs → record_of kind number (xs ++ ys) ≡ record_of kind number ys
passed kind number [] ys below = refl
passed kind number (x ∷ xs) ys below =
    record_of-later kind number x (xs ++ ys) (λ e. absurd (omega (arith, e, below.0))) ∙ passed kind number xs ys below.1

none_above : {T : Type 0} (kind : Kind T) (number : ℕ) (xs : List T) → AllByRecursion (λ x. number < kind.seq x) xs → record_of kind number xs ≡ None
none_above kind number [] above = refl
none_above kind number (x ∷ xs) above = record_of-later kind number x xs (λ e. absurd (omega (arith, e, above.0))) ∙ none_above kind number xs above.1

none_behind : {T : Type 0} (kind : Kind T) (number : ℕ) (xs ys : List T) → AllByRecursion (λ y. number < kind.seq y) ys → record_of kind number (xs ++ ys) ≡ record_of kind number xs
none_behind kind number [] ys above = none_above kind number ys above
none_behind kind number (x ∷ xs) ys above = grind (arith, none_behind kind number xs ys above)

pub none_below_first : {T : Type 0} (kind : Kind T) (number : ℕ) (xs : List T) → AreRising kind xs → number < first_number kind xs → record_of kind number xs ≡ None
none_below_first kind number [] rise below = refl
none_below_first kind number (x ∷ xs) rise below = none_above kind number (x ∷ xs) (below, all_above kind number x xs (omega (arith, below)) rise)

none_after : {T : Type 0} (kind : Kind T) (number last : ℕ) (xs : List T) → AllByRecursion (λ x. kind.seq x ≤ last) xs → last < number → record_of kind number xs ≡ None
none_after kind number last [] within above = refl
none_after kind number last (x ∷ xs) within above =
    record_of-later kind number x xs (λ e. absurd (omega (arith, e, within.0, above))) ∙ none_after kind number last xs within.1 above

pub none_above_last : {T : Type 0} (kind : Kind T) (number : ℕ) (xs : List T) → AreRising kind xs → last_number kind xs < number → record_of kind number xs ≡ None
none_above_last kind number [] rise above = refl
none_above_last kind number (x ∷ xs) rise above = none_after kind number (last_number kind (x ∷ xs)) (x ∷ xs) (all_within kind x xs rise) above

none_over : {T : Type 0} (kind : Kind T) (after last : ℕ) (xs : List T) → AllByRecursion (λ x. kind.seq x ≤ last) xs → last ≤ after → filter (λ it. nat_lt after (kind.seq it)) xs ≡ []
none_over kind after last [] within under = refl
none_over kind after last (x ∷ xs) within under = filter-pass kind after x xs (omega (arith, within.0, under)) ∙ none_over kind after last xs within.1 under

pub none_over_last : {T : Type 0} (kind : Kind T) (after : ℕ) (xs : List T) → AreRising kind xs → last_number kind xs ≤ after → filter (λ it. nat_lt after (kind.seq it)) xs ≡ []
none_over_last kind after [] rise under = refl
none_over_last kind after (x ∷ xs) rise under = none_over kind after (last_number kind (x ∷ xs)) (x ∷ xs) (all_within kind x xs rise) under

-- blocks of which the first begins above a number have no record of it
blocks_above : {T : Type 0} (kind : Kind T) (number : ℕ) (blocks : List (List T)) → AreFilled (block_of kind) blocks → AreRising kind (items_of blocks)
    → ((block : List T) (later : List (List T)) → blocks ≡ block ∷ later → number < first_number kind block) → AllByRecursion (λ x. number < kind.seq x) (items_of blocks)
blocks_above kind number [] filled rise above = tt
blocks_above kind number ([] ∷ blocks) filled rise above = absurd (filled.0.some refl)
blocks_above kind number ((x ∷ b) ∷ blocks) filled rise above =
    let over = above (x ∷ b) blocks refl in
    (over, all_above kind number x (b ++ items_of blocks) (omega (arith, over)) rise)

-- ---- where the records above a number begin, and where one of a number stands

first_of : {T : Type 0} (kind : Kind T) (blocks : List (List T)) (before : List (List T)) (block : List T) (later : List (List T)) (d : BlockHandle ℕ) → blocks ≡ before ++ block ∷ later
    → (slice_index_or (index_from kind 0 blocks) (length before) d).first ≡ first_number kind block
first_of kind blocks before block later d is =
    ap (λ bs. (slice_index_or (index_from kind 0 bs) (length before) d).first) is ∙ ap (λ (e : BlockHandle ℕ). e.first) (handle_is kind 0 before block later d)

none_passes : {T : Type 0} (kind : Kind T) (after : ℕ) (xs ys : List T) → AllByRecursion (λ x. kind.seq x < after + 1) xs
    → filter (λ it. nat_lt after (kind.seq it)) (xs ++ ys) ≡ filter (λ it. nat_lt after (kind.seq it)) ys
none_passes kind after [] ys below = refl
none_passes kind after (x ∷ xs) ys below = filter-pass kind after x (xs ++ ys) (omega (arith, below.0)) ∙ none_passes kind after xs ys below.1

begun : {T : Type 0} (kind : Kind T) (after : ℕ) (before : List (List T)) (block : List T) (later : List (List T)) → Fits (block_of kind) block
    → AreRising kind (items_of (before ++ block ∷ later)) → first_number kind block ≤ after
    → filter (λ it. nat_lt after (kind.seq it)) (items_of (block ∷ later)) ≡ filter (λ it. nat_lt after (kind.seq it)) (items_of (before ++ block ∷ later))
begun kind after before [] later fits rise under = absurd (fits.some refl)
begun {T} kind after before (x ∷ b) later fits rise under =
    let rise' = subst (λ xs. AreRising kind xs) (items_of-parts before (x ∷ b) later) rise in
    sym (ap (λ (xs : List T). filter (λ it. nat_lt after (kind.seq it)) xs) (items_of-parts before (x ∷ b) later)
    ∙ none_passes kind after (items_of before) ((x ∷ b) ++ items_of later) (before_is_below kind (after + 1) (items_of before) x (b ++ items_of later) rise' (omega (arith, under))))

drop_parts : {T : Type 0} (blocks : List (List T)) (number : ℕ) (p : Parts blocks number) → drop number blocks ≡ p.block ∷ p.later
drop_parts blocks number p = ap (drop number) p.all ∙ drop_at p.before (p.block ∷ p.later) number p.many

-- the records above a number begin in the last block that begins at most at it
pub scan_begins : {T : Type 0} (kind : Kind T) (blocks : List (List T)) → AreBlocks kind blocks → (after start behind : ℕ) (d : BlockHandle ℕ) → start ≡ behind - 1 → behind ≤ length (index_from kind 0 blocks)
    → BeginUpTo number_keys (index_from kind 0 blocks) after behind
    → filter (λ it. nat_lt after (kind.seq it)) (items_of (drop start blocks)) ≡ filter (λ it. nat_lt after (kind.seq it)) (items_of blocks)
scan_begins {T} kind blocks are after start zero d is bound point =
    let none : start ≡ 0 = omega (arith, is) in ap (λ n. filter (λ it. nat_lt after (kind.seq it)) (items_of (drop n blocks))) none
scan_begins {T} kind blocks are after start (suc k) d is bound point =
    let p = parts blocks start (omega (arith, is, bound, length-index_from kind 0 blocks)) in
    let under : first_number kind p.block ≤ after =
    omega (arith, not_above _ _ (point.0 (length p.before) d (omega arith) (omega (arith, p.many, is))), first_of kind blocks p.before p.block p.later d p.all) in
    ap (λ (bs : List (List T)). filter (λ it. nat_lt after (kind.seq it)) (items_of bs)) (drop_parts blocks start p)
    ∙ begun kind after p.before p.block p.later (filled-parts kind p.before p.block p.later (subst (λ bs. AreFilled (block_of kind) bs) p.all are.filled)).0
    (subst (λ bs. AreRising kind (items_of bs)) p.all are.rise) under
    ∙ ap (λ (bs : List (List T)). filter (λ it. nat_lt after (kind.seq it)) (items_of bs)) (sym p.all)

-- the records above a number begin where a scan does
pub scan_starts : {T S : Type 0} (kind : Kind T) (told : S → Option (List ℕ)) (filed : Filed S) (records : List T) (holds : Represents kind told filed records) (after start : ℕ) → start < length filed.index
    → StartsAt filed after start → filter (λ it. nat_lt after (kind.seq it)) (items_of (drop start holds.blocks)) ≡ filter (λ it. nat_lt after (kind.seq it)) records
scan_starts kind told filed records holds after start within (inl none) =
    ap (λ n. filter (λ it. nat_lt after (kind.seq it)) (items_of (drop n holds.blocks))) none.0 ∙ ap (filter (λ it. nat_lt after (kind.seq it))) holds.all
scan_starts kind told filed records holds after start within (inr some) =
    scan_begins kind holds.blocks holds.are after start (start + 1) no_handle (omega arith) (omega (arith, within, ap length holds.index))
    (subst (λ (es : List (BlockHandle ℕ)). BeginUpTo number_keys es after (start + 1)) holds.index some.1)
    ∙ ap (filter (λ it. nat_lt after (kind.seq it))) holds.all

later_first : {T : Type 0} (kind : Kind T) (blocks : List (List T)) (number : ℕ) (behind : ℕ) (d : BlockHandle ℕ) (before : List (List T)) (later : List (List T))
    → BeginUpTo number_keys (index_from kind 0 blocks) number behind
    → blocks ≡ before ++ later → length before ≡ behind → (block : List T) (more : List (List T)) → later ≡ block ∷ more → number < first_number kind block
later_first kind blocks number behind d before later point all many block more is =
    let all' : blocks ≡ before ++ block ∷ more = all ∙ ap (λ bs. before ++ bs) is in
    let within : length before < length (index_from kind 0 blocks) = omega (arith, length-index_from kind 0 blocks, ap length all', length-append before (block ∷ more)) in
    omega (arith, point.1 (length before) d (omega (arith, many)) within, first_of kind blocks before block more d all')

found_here : {T : Type 0} (kind : Kind T) (number : ℕ) (before : List (List T)) (block : List T) (later : List (List T)) → Fits (block_of kind) block → AreFilled (block_of kind) later
    → AreRising kind (items_of (before ++ block ∷ later)) → first_number kind block ≤ number
    → ((b : List T) (more : List (List T)) → later ≡ b ∷ more → number < first_number kind b)
    → record_of kind number (items_of (before ++ block ∷ later)) ≡ record_of kind number block
found_here kind number before [] later fits filled rise under above = absurd (fits.some refl)
found_here kind number before (x ∷ b) later fits filled rise under above =
    let rise' = subst (λ xs. AreRising kind xs) (items_of-parts before (x ∷ b) later) rise in
    let behind = rise_behind kind (x ∷ b) (items_of later) (rise_behind kind (items_of before) ((x ∷ b) ++ items_of later) rise') in
    ap (record_of kind number) (items_of-parts before (x ∷ b) later)
    ∙ passed kind number (items_of before) ((x ∷ b) ++ items_of later) (before_is_below kind number (items_of before) x (b ++ items_of later) rise' under)
    ∙ none_behind kind number (x ∷ b) (items_of later) (blocks_above kind number later filled behind above)

-- a record of a number stands in the last block that begins at most at it
pub found_in : {T : Type 0} (kind : Kind T) (blocks : List (List T)) → AreBlocks kind blocks → (number behind : ℕ) (d : BlockHandle ℕ) (before : List (List T)) (block : List T) (later : List (List T))
    → BeginUpTo number_keys (index_from kind 0 blocks) number behind
    → blocks ≡ before ++ block ∷ later → length before + 1 ≡ behind → record_of kind number (items_of blocks) ≡ record_of kind number block
found_in {T} kind blocks are number behind d before block later point all many =
    let filled = filled-parts kind before block later (subst (λ bs. AreFilled (block_of kind) bs) all are.filled) in
    let under : first_number kind block ≤ number =
    omega (arith, not_above _ _ (point.0 (length before) d (omega arith) (omega (arith, many))), first_of kind blocks before block later d all) in
    let all' : blocks ≡ (before ++ block ∷ []) ++ later = all ∙ sym (append_assoc before (block ∷ []) later) in
    let many' : length (before ++ block ∷ []) ≡ behind = omega (arith, many, length-append before (block ∷ [])) in
    ap (λ (bs : List (List T)). record_of kind number (items_of bs)) all
    ∙ found_here kind number before block later filled.0 filled.1 (subst (λ bs. AreRising kind (items_of bs)) all are.rise) under
    (later_first kind blocks number behind d (before ++ block ∷ []) later point all' many')

-- ---- answers

-- a fault from outside is a right answer, whatever the records are
pub outside_answer : {V : Type 0} (r : Result V Fault) (fault : Fault) (P : V → Type 0) → r ≡ Err fault → IsOutside fault → MatchResult r P (λ f. IsOutside f)
outside_answer {V} r fault P is outside = subst (λ (x : Result V Fault). MatchResult x P (λ f. IsOutside f)) (sym is) outside

-- a right answer, or want of memory where the bytes cause no fault
pub right_answer : {V : Type 0} (r : Result V Fault) (P Q : V → Type 0) (U : Fault → Type 0) → ((v : V) → P v → Q v) → ((f : Fault) → U f → ⊥) → IfOk r P → IfErr r (λ f. (f ≡ NoMemory) ⊎ U f)
    → MatchResult r Q (λ f. IsOutside f)
right_answer (Ok v) P Q U step none holds unfit = step v holds
right_answer (Err f) P Q U step none holds (inl memory) = inl memory
right_answer (Err f) P Q U step none holds (inr unfit) = absurd (none f unfit)

unfit_at : {T : Type 0} (kind : Kind T) (span : Span) (body : List ℕ) (fault : Fault) → IsBlockUnfit kind span body fault → IsUnfitAt span.file span.at fault
unfit_at kind span body fault unfit = elim unfit.unfit [
  | inl great ↦ inl (great.0, 2 ^ 62, great.3)
  | inr outside ↦ inr outside.2
]

pub refused_at : {T : Type 0} (kind : Kind T) (before : ℕ) (span : Span) (body : List ℕ) (fault : Fault) → IsBodyRefused kind before span body fault → IsUnfitAt span.file span.at fault
refused_at kind before span body fault (inl unfilled) = inr unfilled.5
refused_at kind before span body fault (inr unfit) = unfit_at kind span body fault unfit.0

pub unfit_for_at : {T : Type 0} (kind : Kind T) (number : ℕ) (span : Span) (body : List ℕ) (fault : Fault) → IsUnfitFor kind number span body fault → IsUnfitAt span.file span.at fault
unfit_for_at kind number span body fault (inl unfilled) = inr unfilled.5
unfit_for_at kind number span body fault (inr unfit) = unfit_at kind span body fault unfit.0

-- the index item of a block
handle_there : (index : List (BlockHandle ℕ)) (k : ℕ) → k < length index → (handle : BlockHandle ℕ) × (slice_index_or index k handle ≡ handle)
handle_there [] k within = absurd (omega (arith, within))
handle_there (e ∷ index) zero within = (e, refl)
handle_there (e ∷ index) (suc k) within = let more = handle_there index k (omega (arith, within)) in (more.0, more.1)

-- what is wrong at the offset of a block is what is wrong with a block of the index
pub span_fault : {S : Type 0} (filed : Filed S) (number : ℕ) (span : Span) (fault : Fault) → IsSpan filed number span → IsUnfitAt span.file span.at fault → IsBlockFault filed.file.id filed.index fault
span_fault filed number span fault is unfit =
    let there = handle_there filed.index number is.within in
    let at : span.at ≡ there.0.at = is.at there.0 ∙ ap (λ (e : BlockHandle ℕ). e.at) there.1 in
    (number, there.0, is.within, there.1, subst (λ (i : FileId). IsUnfitAt i there.0.at fault) is.file (subst (λ (n : ℕ). IsUnfitAt span.file n fault) at unfit))

pub span_faults : {V S : Type 0} (filed : Filed S) (number : ℕ) (span : Span) (result : Result V Fault) → IsSpan filed number span → IfErr result (λ fault. IsOutside fault ⊎ IsUnfitAt filed.file.id span.at fault)
    → IfErr result (λ fault. IsOutside fault ⊎ IsBlockFault filed.file.id filed.index fault)
span_faults filed number span (Ok v) is refused = tt
span_faults filed number span (Err fault) is (inl outside) = inl outside
span_faults filed number span (Err fault) is (inr unfit) = inr (span_fault filed number span fault is (subst (λ (i : FileId). IsUnfitAt i span.at fault) (sym is.file) unfit))

-- a block whose frame is refused, in what is told of the file
pub frame_refused : {S : Type 0} (told : Option (List ℕ)) (len : ℕ) (filed : Filed S) (number : ℕ) (span : Span) (P : Span → List ℕ → Fault → Type 0) (Q : List ℕ → ℕ → Type 0) (fault : Fault)
    → IsSpan filed number span → IfSome told (λ bytes. len ≡ length bytes → Q bytes number)
    → IfSome told (λ bytes. len ≡ length bytes → Answers (block_body span.file bytes span.at span.len number) (Err fault))
    → IfSome told (λ bytes. len ≡ length bytes → IsOutside fault ⊎ ((refused : IsBlockRefused bytes filed P fault) × Q bytes refused.number))
frame_refused told len filed number span P Q fault is there read =
    some_then told (λ bytes. (len ≡ length bytes → Q bytes number) × (len ≡ length bytes → Answers (block_body span.file bytes span.at span.len number) (Err fault)))
    (λ bytes. len ≡ length bytes → IsOutside fault ⊎ ((refused : IsBlockRefused bytes filed P fault) × Q bytes refused.number))
    (λ bytes h same. elim (h.1 same) [
      | inl outside ↦ inl outside
      | inr damaged ↦ inr (record { number = number; span = span; is_span = is; why = inl damaged }, h.0 same)
    ]) (some_both told (λ bytes. len ≡ length bytes → Q bytes number) (λ bytes. len ≡ length bytes → Answers (block_body span.file bytes span.at span.len number) (Err fault)) there read)

-- a block whose body is refused, in what is told of the file
pub body_refused : {S : Type 0} (told : Option (List ℕ)) (len : ℕ) (filed : Filed S) (number : ℕ) (span : Span) (frame body : List ℕ) (P : Span → List ℕ → Fault → Type 0) (Q : List ℕ → ℕ → Type 0) (fault : Fault)
    → IsSpan filed number span → body ≡ frame → (fault ≡ NoMemory) ⊎ P span body fault → IfSome told (λ bytes. len ≡ length bytes → Q bytes number)
    → IfSome told (λ bytes. len ≡ length bytes → block_body span.file bytes span.at span.len number ≡ Ok frame)
    → IfSome told (λ bytes. len ≡ length bytes → IsOutside fault ⊎ ((refused : IsBlockRefused bytes filed P fault) × Q bytes refused.number))
body_refused told len filed number span frame body P Q fault is spelled (inl memory) there read = some_any told _ (λ bytes same. inl (inl memory))
body_refused told len filed number span frame body P Q fault is spelled (inr unfit) there read =
    some_then told (λ bytes. (len ≡ length bytes → Q bytes number) × (len ≡ length bytes → block_body span.file bytes span.at span.len number ≡ Ok frame))
    (λ bytes. len ≡ length bytes → IsOutside fault ⊎ ((refused : IsBlockRefused bytes filed P fault) × Q bytes refused.number))
    (λ bytes h same. inr (
      record {
        number = number;
        span = span;
        is_span = is;
        why = inr (frame, h.1 same, subst (λ (b : List ℕ). P span b fault) spelled unfit);
      },
      h.0 same,
    )) (some_both told (λ bytes. len ≡ length bytes → Q bytes number) (λ bytes. len ≡ length bytes → block_body span.file bytes span.at span.len number ≡ Ok frame) there read)

-- ---- one block more

pub scan_step : {T : Type 0} (kind : Kind T) (blocks : List (List T)) (after number : ℕ) (body : List ℕ) (old new : List T) → (b : IsBlock kind blocks number body)
    → new ≡ old ++ filter (λ it. nat_lt after (kind.seq it)) b.block
    → new ++ filter (λ it. nat_lt after (kind.seq it)) (items_of (drop (number + 1) blocks)) ≡ old ++ filter (λ it. nat_lt after (kind.seq it)) (items_of (drop number blocks))
scan_step {T} kind blocks after number body old new b is =
    let above : T → Bool = λ it. nat_lt after (kind.seq it) in
    let here : drop number blocks ≡ b.block ∷ b.later = ap (drop number) b.all ∙ drop_at b.before (b.block ∷ b.later) number b.many in
    let split : blocks ≡ (b.before ++ b.block ∷ []) ++ b.later = b.all ∙ sym (append_assoc b.before (b.block ∷ []) b.later) in
    let long : length (b.before ++ b.block ∷ []) ≡ number + 1 = omega (arith, b.many, length-append b.before (b.block ∷ [])) in
    let next : drop (number + 1) blocks ≡ b.later = ap (drop (number + 1)) split ∙ drop_at (b.before ++ b.block ∷ []) b.later (number + 1) long in
    ap (λ (bs : List (List T)). new ++ filter above (items_of bs)) next
    ∙ ap (λ xs. xs ++ filter above (items_of b.later)) is
    ∙ append_assoc old (filter above b.block) (filter above (items_of b.later))
    ∙ ap (λ xs. old ++ xs) (sym (filter-append above b.block (items_of b.later)))
    ∙ ap (λ (bs : List (List T)). old ++ filter above (items_of bs)) (sym here)

-- all blocks were scanned
pub scan_ends : {T : Type 0} (kind : Kind T) (blocks : List (List T)) (after number : ℕ) (all found : List T) → length blocks ≤ number
    → found ++ filter (λ it. nat_lt after (kind.seq it)) (items_of (drop number blocks)) ≡ filter (λ it. nat_lt after (kind.seq it)) all
    → found ≡ filter (λ it. nat_lt after (kind.seq it)) all
scan_ends {T} kind blocks after number all found past is =
    sym (ap (λ (bs : List (List T)). found ++ filter (λ it. nat_lt after (kind.seq it)) (items_of bs)) (drop_all number blocks past) ∙ append-nil found) ∙ is

-- the footer tells of all blocks that were scanned
later_none : {T : Type 0} (kind : Kind T) (blocks earlier : List (List T)) (block : List T) (later : List (List T)) → blocks ≡ earlier ++ block ∷ later → length earlier + 1 ≡ length blocks → AreFilled (block_of kind) blocks
    → last_number kind (items_of blocks) ≡ last_number kind block
later_none kind blocks earlier block [] all many filled =
    ap (λ bs. last_number kind (items_of bs)) all ∙ ap (last_number kind) (items_of-parts earlier block []) ∙ ap (λ xs. last_number kind (items_of earlier ++ xs)) (append-nil block)
    ∙ last_on kind 0 (items_of earlier) block (filled-parts kind earlier block [] (subst (λ bs. AreFilled (block_of kind) bs) all filled)).0.some
later_none kind blocks earlier block (next ∷ later) all many filled = absurd (omega (arith, many, ap length all, length-append earlier (block ∷ (next ∷ later))))

last_told : {T : Type 0} (kind : Kind T) (blocks : List (List T)) (start number before last : ℕ) → AreFilled (block_of kind) blocks → start < number → number ≡ length blocks → IsBehind kind blocks start number before last
    → last ≡ last_number kind (items_of blocks)
last_told kind blocks start number before last filled begun ends (inl none) = absurd (omega (arith, begun, none.1))
last_told kind blocks start number before last filled begun ends (inr behind) =
    behind.6 ∙ sym (later_none kind blocks behind.0 behind.1 behind.2 behind.3 (omega (arith, behind.4, ends)) filled)

pub right_totals : {T S : Type 0} (kind : Kind T) (told : S → Option (List ℕ)) (filed : Filed S) (records : List T) (holds : Represents kind told filed records) (after start number : ℕ) (found : List T) (before last : ℕ)
    → start < length filed.index → number ≡ length filed.index → found ≡ filter (λ it. nat_lt after (kind.seq it)) records → IsBehind kind holds.blocks start number before last → AreTotals kind filed after last found
right_totals {T} {S} kind told filed records holds after start number found before last within ends is behind =
    let many = blocks_many kind told filed records holds in (
      last_told kind holds.blocks start number before last holds.are.filled (omega (arith, within, ends)) (omega (arith, ends, many)) behind ∙ sym (ap (λ (f : Footer). f.high) holds.footer),
      λ below.
          let rise : AreRising kind records = subst (λ xs. AreRising kind xs) holds.all holds.are.rise in
          let first : filed.footer.low ≡ first_number kind records = ap (λ (f : Footer). f.low) holds.footer ∙ ap (first_number kind) holds.all in
          let all : found ≡ records = is ∙ filter_all kind after records rise (omega (arith, below, first)) in
          (ap length all ∙ sym (ap (λ (f : Footer). f.count) holds.footer ∙ ap length holds.all), ap (sum_by kind.size) all ∙ sym (ap (λ (f : Footer). f.sum) holds.footer ∙ ap (sum_by kind.size) holds.all)),
    )
