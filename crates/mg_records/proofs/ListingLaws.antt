-- What was listed of the blocks so far, in what is told of the file.
use Rattle.std.proofs.Common.{◌≡◌, ℕ, suc, ◌+◌, ◌-◌, ◌^◌, ◌<◌, ◌≤◌, ◌⊎◌, min, Bool, List, [], ◌∷◌, ◌++◌, length, refl, sym, ap, ◌∙◌, subst, inl, inr, arith, Option, IfSome}
use Rattle.std.proofs.lemmas.List.Elements.{filter-append}
use Rattle.std.specs.Prelude.{filter, nat_lt, sum_by}
use Rattle.mg_frame.specs.Frame.{StandsAt}
use Rattle.mg_types.specs.declared.faults.Fault.{Fault}
use Rattle.mg_types.specs.declared.faults.Fault.TheVariants.{Malformed}
use Rattle.mg_sealed.specs.Answers.{IsOutside}
use Rattle.mg_sealed.specs.Filling.{items_of}
use Rattle.mg_sealed.proofs.AnswerLaws.{some_both, some_then}
use Rattle.mg_sealed.proofs.FilledLaws.{items_of-push}
use Rattle.mg_indexed.specs.Forms.{Form}
use Rattle.mg_records.specs.File.{last_number, IsFile}
use Rattle.mg_records.specs.Lookup.{AreBlocksOf, AreTotals, Follows, HasTotals, IsBlockAt, IsBlockRefused, IsBodyRefused, IsListed, IsScanRefused, IsScanned, IsSpan, StartsAt, WereListed, last_length}
use Rattle.mg_records.specs.Reading.{IsKept, IsRead}
use Rattle.mg_records.specs.Record.{Kind}
use Rattle.mg_records.specs.Writing.{Filed}
use Rattle.mg_records.specs.declared.block.Span.{Span}
use Rattle.mg_records.proofs.WholeLaws.{IsFront, fronts, last_length-push, none_out, whole_file}
use Rattle.mg_records.proofs.WithinLaws.{last_on}

-- the blocks from `start` up to this number were read
pub record IsListedUpTo {T S : Type 0} (kind : Kind T) (bytes : List ℕ) (filed : Filed S) (after start number : ℕ) (found : List T) (before last : ℕ) : Type 0 where
  pub count : ℕ
  pub blocks : List (List T)
  pub up_to : start + count ≡ number
  pub are : AreBlocksOf kind bytes filed start count blocks
  pub found_are : found ≡ filter (λ it. nat_lt after (kind.seq it)) (items_of blocks)
  pub before_is : before ≡ last_length kind blocks
  pub last_is : 1 ≤ count → last ≡ last_number kind (items_of blocks)

pub listed_none : {T S : Type 0} (kind : Kind T) (bytes : List ℕ) (filed : Filed S) (after start : ℕ) (found : List T) (before last : ℕ) → found ≡ [] → before ≡ 4096
    → IsListedUpTo kind bytes filed after start start found before last
listed_none kind bytes filed after start found before last none full =
    record { count = 0; blocks = []; up_to = omega arith; are = refl; found_are = none; before_is = full; last_is = λ some. absurd (omega (arith, some)) }

listed_more : {T S : Type 0} (kind : Kind T) (bytes : List ℕ) (filed : Filed S) (after start number : ℕ) (span : Span) (frame body : List ℕ) (old new : List T) (before last last' : ℕ) → IsSpan filed number span
    → body ≡ frame → IsScanned kind before span after body old new last' → length frame + 20 ≡ span.len → StandsAt bytes span.at (number, frame)
    → IsListedUpTo kind bytes filed after start number old before last → IsListedUpTo kind bytes filed after start (number + 1) new (length body) last'
listed_more {T} {S} kind bytes filed after start number span frame body old new before last last' is spelled scanned long stands listed =
    let above : T → Bool = λ it. nat_lt after (kind.seq it) in
    let block = scanned.block in
    let here : IsBlockAt kind bytes filed number block = record {
      span = span;
      is_span = is;
      body = body;
      is_block = scanned.is_block;
      long = ap (λ (b : List ℕ). length b + 20) spelled ∙ long;
      stands = subst (λ (b : List ℕ). StandsAt bytes span.at (number, b)) (sym spelled) stands;
    } in
    let items = items_of-push listed.blocks block in
    record {
      count = suc listed.count;
      blocks = listed.blocks ++ block ∷ [];
      up_to = omega (arith, listed.up_to);
      are = (
        listed.blocks,
        block,
        refl,
        listed.are,
        subst (λ (n : ℕ). IsBlockAt kind bytes filed n block) (sym listed.up_to) here,
        scanned.fits,
        subst (λ (n : ℕ). Follows kind n block) listed.before_is scanned.follows,
      );
      found_are = scanned.new_is ∙ ap (λ (rs : List T). rs ++ filter above block) listed.found_are ∙ sym (filter-append above (items_of listed.blocks) block) ∙ ap (filter above) (sym items);
      before_is = ap length scanned.is_block.spelling ∙ sym (last_length-push kind listed.blocks block);
      last_is = λ some. scanned.last_is ∙ sym (ap (last_number kind) items ∙ last_on kind 0 (items_of listed.blocks) block scanned.is_block.some);
    }

-- one block more was read
pub listed_on : {T S : Type 0} (kind : Kind T) (told : Option (List ℕ)) (filed : Filed S) (after start number : ℕ) (span : Span) (frame body : List ℕ) (old new : List T) (before last last' : ℕ) → IsSpan filed number span
    → body ≡ frame → IsScanned kind before span after body old new last' → length frame + 20 ≡ span.len
    → IfSome told (λ bytes. filed.file.len ≡ length bytes → StandsAt bytes span.at (number, frame))
    → IfSome told (λ bytes. filed.file.len ≡ length bytes → IsListedUpTo kind bytes filed after start number old before last)
    → IfSome told (λ bytes. filed.file.len ≡ length bytes → IsListedUpTo kind bytes filed after start (number + 1) new (length body) last')
listed_on kind told filed after start number span frame body old new before last last' is spelled scanned long stands listed =
    some_then told (λ bytes. (filed.file.len ≡ length bytes → StandsAt bytes span.at (number, frame)) × (filed.file.len ≡ length bytes → IsListedUpTo kind bytes filed after start number old before last))
    (λ bytes. filed.file.len ≡ length bytes → IsListedUpTo kind bytes filed after start (number + 1) new (length body) last')
    (λ bytes h same. listed_more kind bytes filed after start number span frame body old new before last last' is spelled scanned long (h.0 same) (h.1 same))
    (some_both told (λ bytes. filed.file.len ≡ length bytes → StandsAt bytes span.at (number, frame)) (λ bytes. filed.file.len ≡ length bytes → IsListedUpTo kind bytes filed after start number old before last) stands listed)

-- where a block is refused, those before it were read
abbrev pub WasListed : {T S : Type 0} → Kind T → Filed S → ℕ → ℕ → List ℕ → ℕ → Type 0
WasListed {T} kind filed after before bytes number = (blocks : List (List T)) × (before ≡ last_length kind blocks) × WereListed kind bytes filed after number blocks

pub listed_before : {T S : Type 0} (kind : Kind T) (told : Option (List ℕ)) (filed : Filed S) (after start number : ℕ) (found : List T) (before last : ℕ) → StartsAt filed after start
    → IfSome told (λ bytes. filed.file.len ≡ length bytes → IsListedUpTo kind bytes filed after start number found before last)
    → IfSome told (λ bytes. filed.file.len ≡ length bytes → WasListed kind filed after before bytes number)
listed_before {T} kind told filed after start number found before last starts read =
    some_then told (λ bytes. filed.file.len ≡ length bytes → IsListedUpTo kind bytes filed after start number found before last)
    (λ bytes. filed.file.len ≡ length bytes → WasListed kind filed after before bytes number)
    (λ bytes h same. let l = h same in (l.blocks, l.before_is, (start, l.count, starts, l.up_to, l.are))) read

-- a refusal of the block that follows
refused_of : {T S : Type 0} (kind : Kind T) (bytes : List ℕ) (filed : Filed S) (after before : ℕ) (fault : Fault) (refused : IsBlockRefused bytes filed (IsBodyRefused kind before) fault) (blocks : List (List T))
    → before ≡ last_length kind blocks → WereListed kind bytes filed after refused.number blocks
    → (again : IsBlockRefused bytes filed (IsBodyRefused kind (last_length kind blocks)) fault) × WereListed kind bytes filed after again.number blocks
refused_of {T} {S} kind bytes filed after before fault refused blocks is were = (
  record {
    number = refused.number;
    span = refused.span;
    is_span = refused.is_span;
    why = elim refused.why [
      | inl damaged ↦ inl damaged
      | inr body ↦ inr (body.0, body.1, subst (λ (n : ℕ). IsBodyRefused kind n refused.span body.0 fault) is body.2)
    ];
  },
  were,
)

pub scan_refused : {T S : Type 0} (kind : Kind T) (told : Option (List ℕ)) (filed : Filed S) (after before : ℕ) (fault : Fault)
    → IfSome told (λ bytes. filed.file.len ≡ length bytes → IsOutside fault ⊎ ((refused : IsBlockRefused bytes filed (IsBodyRefused kind before) fault) × WasListed kind filed after before bytes refused.number))
    → IfSome told (λ bytes. filed.file.len ≡ length bytes → IsOutside fault ⊎ IsScanRefused kind bytes filed after fault)
scan_refused {T} {S} kind told filed after before fault read =
    some_then told (λ bytes. filed.file.len ≡ length bytes → IsOutside fault ⊎ ((refused : IsBlockRefused bytes filed (IsBodyRefused kind before) fault) × WasListed kind filed after before bytes refused.number))
    (λ bytes. filed.file.len ≡ length bytes → IsOutside fault ⊎ IsScanRefused kind bytes filed after fault)
    (λ bytes h same. elim (h same) [
      | inl outside ↦ inl outside
      | inr found ↦ (let again = refused_of kind bytes filed after before fault found.0 found.1.0 found.1.1 found.1.2 in inr (inl (found.1.0, again.0, again.1)))
    ]) read

-- ---- all blocks were read

listed_whole : {T S : Type 0} (kind : Kind T) (bytes : List ℕ) (filed : Filed S) (after start number : ℕ) (found : List T) (before last : ℕ) → start < length filed.index → number ≡ length filed.index → StartsAt filed after start
    → last ≡ filed.footer.high → IsListedUpTo kind bytes filed after start number found before last → IsListed kind bytes filed after found
listed_whole kind bytes filed after start number found before last within ends starts last_is l = record {
  start = start;
  count = l.count;
  blocks = l.blocks;
  starts = starts;
  up_to = l.up_to ∙ ends;
  are = l.are;
  found_are = l.found_are;
  last = sym (l.last_is (omega (arith, l.up_to, ends, within))) ∙ last_is;
}

pub listed_all : {T S : Type 0} (kind : Kind T) (told : Option (List ℕ)) (filed : Filed S) (after start number : ℕ) (found : List T) (before last : ℕ) → start < length filed.index → number ≡ length filed.index
    → StartsAt filed after start → last ≡ filed.footer.high
    → IfSome told (λ bytes. filed.file.len ≡ length bytes → IsListedUpTo kind bytes filed after start number found before last)
    → IfSome told (λ bytes. filed.file.len ≡ length bytes → IsListed kind bytes filed after found)
listed_all kind told filed after start number found before last within ends starts last_is read =
    some_then told (λ bytes. filed.file.len ≡ length bytes → IsListedUpTo kind bytes filed after start number found before last) (λ bytes. filed.file.len ≡ length bytes → IsListed kind bytes filed after found)
    (λ bytes h same. listed_whole kind bytes filed after start number found before last within ends starts last_is (h same)) read

-- blocks from the first one on are those of the file
all_front : {T S : Type 0} (kind : Kind T) (form : Form) (bytes : List ℕ) (filed : Filed S) (after start count : ℕ) (blocks : List (List T)) → IsKept form filed.footer filed.index → after < filed.footer.low → StartsAt filed after start
    → start + count ≡ length filed.index → AreBlocksOf kind bytes filed start count blocks → IsFront kind form bytes filed (length filed.index) blocks
all_front {T} kind form bytes filed after start count blocks kept below (inl none) up_to are =
    let count' : count ≡ length filed.index = omega (arith, up_to, none.0) in
    subst (λ (n : ℕ). IsFront kind form bytes filed n blocks) count' (fronts kind form bytes filed count blocks kept (subst (λ (n : ℕ). AreBlocksOf kind bytes filed n count blocks) none.0 are))
all_front kind form bytes filed after start count blocks kept below (inr some) up_to are = absurd (omega (arith, some.0, below))

pub whole_scan : {T S : Type 0} (kind : Kind T) (form : Form) (told : Option (List ℕ)) (filed : Filed S) (after last : ℕ) (found : List T) → IsKept form filed.footer filed.index → after < filed.footer.low → AreTotals kind filed after last found
    → IfSome told (λ bytes. filed.file.len ≡ length bytes → IsListed kind bytes filed after found) → IfSome told (λ bytes. IsRead form bytes filed → IsFile kind bytes found)
whole_scan {T} {S} kind form told filed after last found kept below totals listed =
    some_then told (λ bytes. filed.file.len ≡ length bytes → IsListed kind bytes filed after found) (λ bytes. IsRead form bytes filed → IsFile kind bytes found)
    (λ bytes h read.
    let l = h read.len in
    let front = all_front kind form bytes filed after l.start l.count l.blocks kept below l.starts l.up_to l.are in
    let all : found ≡ items_of l.blocks = l.found_are ∙ none_out kind form bytes filed after l.blocks kept front below in
    let sums = totals.1 below in
    subst (λ (xs : List T). IsFile kind bytes xs) (sym all)
    (whole_file kind form bytes filed l.blocks kept read front l.last (ap length (sym all) ∙ sums.0) (ap (sum_by kind.size) (sym all) ∙ sums.1))) listed

-- the count and the sum, which stays at the last number of 64 bits, are those of the records
pub totals_are : {T S : Type 0} (kind : Kind T) (filed : Filed S) (after last count sum : ℕ) (found : List T) → filed.footer.sum < 2 ^ 62 → count ≡ length found → sum ≡ min (sum_by kind.size found) (2 ^ 64 - 1)
    → HasTotals filed after last count sum → AreTotals kind filed after last found
totals_are kind filed after last count sum found small counted summed totals = (
  totals.0,
  λ below. (sym counted ∙ (totals.1 below).0, omega (arith, summed, (totals.1 below).1, small)),
)

pub totals_of : {T S : Type 0} (kind : Kind T) (filed : Filed S) (after last count sum : ℕ) (found : List T) → filed.footer.sum < 2 ^ 62 → count ≡ length found → sum ≡ min (sum_by kind.size found) (2 ^ 64 - 1)
    → AreTotals kind filed after last found → HasTotals filed after last count sum
totals_of kind filed after last count sum found small counted summed totals = (
  totals.0,
  λ below. (counted ∙ (totals.1 below).0, omega (arith, summed, (totals.1 below).1, small)),
)

-- the footer does not tell of what was read
untold : {T S : Type 0} (kind : Kind T) (form : Form) (bytes : List ℕ) (filed : Filed S) (after start number : ℕ) (found : List T) (before last : ℕ) → IsKept form filed.footer filed.index → start < length filed.index → number ≡ length filed.index
    → StartsAt filed after start → (AreTotals kind filed after last found → ⊥) → (l : IsListedUpTo kind bytes filed after start number found before last)
    → AreTotals kind filed after (last_number kind (items_of l.blocks)) (items_of l.blocks) → ⊥
untold {T} {S} kind form bytes filed after start number found before last kept within ends starts none l totals =
    none (
      l.last_is (omega (arith, l.up_to, ends, within)) ∙ totals.0,
      λ below.
          let front = all_front kind form bytes filed after start l.count l.blocks kept below starts (l.up_to ∙ ends) l.are in
          let all : found ≡ items_of l.blocks = l.found_are ∙ none_out kind form bytes filed after l.blocks kept front below in
          let sums = totals.1 below in
          (ap length all ∙ sums.0, ap (sum_by kind.size) all ∙ sums.1),
    )

pub totals_refused : {T S : Type 0} (kind : Kind T) (form : Form) (told : Option (List ℕ)) (filed : Filed S) (after start number : ℕ) (found : List T) (before last : ℕ) (fault : Fault) → IsKept form filed.footer filed.index
    → start < length filed.index → number ≡ length filed.index → StartsAt filed after start → fault ≡ Malformed filed.file.id (filed.file.len - 65) → (AreTotals kind filed after last found → ⊥)
    → IfSome told (λ bytes. filed.file.len ≡ length bytes → IsListedUpTo kind bytes filed after start number found before last)
    → IfSome told (λ bytes. filed.file.len ≡ length bytes → IsOutside fault ⊎ IsScanRefused kind bytes filed after fault)
totals_refused {T} {S} kind form told filed after start number found before last fault kept within ends starts is none read =
    some_then told (λ bytes. filed.file.len ≡ length bytes → IsListedUpTo kind bytes filed after start number found before last)
    (λ bytes. filed.file.len ≡ length bytes → IsOutside fault ⊎ IsScanRefused kind bytes filed after fault)
    (λ bytes h same. let l = h same in inr (inr (
      l.blocks,
      (start, l.count, starts, l.up_to ∙ ends, l.are),
      (is, untold kind form bytes filed after start number found before last kept within ends starts none l),
    ))) read
