-- Blocks that a scan reads one behind the other.
use Rattle.std.proofs.Common.{◌≡◌, ◌≢◌, ℕ, zero, suc, ◌+◌, ◌-◌, ◌<◌, ◌≤◌, inl, inr, List, [], ◌∷◌, ◌++◌, length, map, take, drop, get_or, refl, sym, ap, ◌∙◌, subst, arith, append_assoc, Option, Some}
use Rattle.std.specs.Prelude.{slice_get}
use Rattle.std.proofs.lemmas.List.{length-append, map-append, take_more}
use Rattle.std.proofs.lemmas.List.Elements.{All-append}
use Rattle.mg_block.specs.Block.{block_of, item_of, Precedes, RiseAfter}
use Rattle.mg_block.specs.View.{last_pair_after}
use Rattle.mg_block.specs.declared.pair.Pair.{Pair}
use Rattle.mg_block.proofs.Spelling.{items_after-push}
use Rattle.mg_block.proofs.Views.{length-item_of-pair}
use Rattle.mg_sealed.specs.Filling.{AreFilled, Fits, items_of}
use Rattle.mg_sealed.proofs.FilledLaws.{closed_still, items_of-push, last_is_some, push-some}
use Rattle.mg_table.specs.Entries.{block_body, first_key, pair_of, AreEntries}
use Rattle.mg_table.specs.Scanning.{item_length, last_key, AreCounted, EndsIn, IsNext}
use Rattle.mg_table.specs.Table.{sizes_of, Represents}
use Rattle.mg_indexed.specs.declared.footer.Footer.{Footer}
use Rattle.mg_indexed.specs.declared.handle.BlockHandle.{BlockHandle}
use Rattle.mg_table.specs.declared.table.Table.{Table}
use Rattle.mg_table.proofs.EntryLaws.{last_of-behind, length-payload_of}
use Rattle.mg_table.proofs.IndexLaws.{place_behind, total}
use Rattle.mg_table.proofs.LoadingLaws.{length-handles_from, most_bytes}
use Rattle.mg_table.proofs.ReadingLaws.{block-entries, filled-at, handle-at}
use Rattle.mg_types.specs.Items.{IsEntry}
use Rattle.mg_types.specs.declared.items.Entry.{Entry}

-- ---- entries behind others

rise-join : (before : Pair) (xs : List Entry) (y : Entry) (ys : List Entry) → RiseAfter before.key (map pair_of xs) → Precedes (last_pair_after before (map pair_of xs)).key y.key
    → RiseAfter [] (map pair_of (y ∷ ys)) → RiseAfter before.key (map pair_of (xs ++ y ∷ ys))
rise-join before [] y ys rise above more = (record { rises = above; key = more.0.key; payload = more.0.payload }, more.1)
rise-join before (x ∷ xs) y ys rise above more = (rise.0, rise-join (pair_of x) xs y ys rise.1 above more)

rise-at : (before : Pair) (xs : List Entry) (y : Entry) (ys : List Entry) → RiseAfter before.key (map pair_of (xs ++ y ∷ ys)) → Precedes (last_pair_after before (map pair_of xs)).key y.key
rise-at before [] y ys rise = rise.0.rises
rise-at before (x ∷ xs) y ys rise = rise-at (pair_of x) xs y ys rise.1

last-at : (before : Pair) (x : Entry) (xs : List Entry) (entry : Entry) → Some entry ≡ slice_get (x ∷ xs) (length xs)
    → entry.key ≡ (last_pair_after before (map pair_of (x ∷ xs))).key
last-at before x [] entry is = let same : entry ≡ x = cc in ap (λ (e : Entry). e.key) same
last-at before x (y ∷ ys) entry is = last-at (pair_of x) y ys entry is

-- the key of the last entry
pub last-key-at : (entries : List Entry) (entry : Entry) → Some entry ≡ slice_get entries (length entries - 1) → entry.key ≡ last_key entries
last-key-at [] entry is = absurd cc
last-key-at (x ∷ xs) entry is =
    let count : length (x ∷ xs) - 1 ≡ length xs = omega arith in
    last-at (record { key = []; payload = [] }) x xs entry (is ∙ ap (slice_get (x ∷ xs)) count)

-- no key is below the empty one
none-below : (key : List ℕ) → Precedes key [] → ⊥
none-below [] is = absurd cc
none-below (x ∷ key) is = absurd cc

-- a block that may stand behind entries makes entries of a table with them
pub next-joined : (before block : List Entry) → Precedes (last_key before) (first_key block) → AreEntries before → AreEntries block → AreEntries (before ++ block)
next-joined before [] above are more = absurd (none-below (last_key before) above)
next-joined before (y ∷ ys) above are more = record {
  rising = rise-join (record { key = []; payload = [] }) before y ys are.rising above more.rising;
  each = All-append IsEntry before (y ∷ ys) are.each more.each;
}

-- ---- blocks that are filled

item-length : (previous : List ℕ) (entry : Entry) → length (item_of previous (pair_of entry)) ≡ item_length previous entry.key
item-length previous entry = omega (arith, length-item_of-pair previous (pair_of entry), length-payload_of entry)

-- a block with one entry more
block-push : (last : List Entry) (entry : Entry) → length (block_body (last ++ entry ∷ [])) ≡ length (block_body last) + item_length (last_key last) entry.key
block-push last entry =
    ap length (ap block_of (map-append pair_of last (entry ∷ [])) ∙ items_after-push (record { key = []; payload = [] }) (map pair_of last) (pair_of entry))
    ∙ length-append (block_body last) (item_of (last_key last) (pair_of entry)) ∙ ap (λ n. length (block_body last) + n) (item-length (last_key last) entry)

-- the last key of blocks is that of the last one
pub last-behind : (front last : List Entry) → last ≢ [] → last_key (front ++ last) ≡ last_key last
last-behind front [] some = absurd (some refl)
last-behind front (y ∷ ys) some = ap (λ (p : Pair). p.key) (last_of-behind front y ys)

filled-behind : (blocks : List (List Entry)) (last : List Entry) (y : Entry) (ys : List Entry) → AreFilled block_body (blocks ++ last ∷ [])
    → 4096 < length (block_body (last ++ y ∷ [])) → Fits block_body (y ∷ ys) → AreFilled block_body ((blocks ++ last ∷ []) ++ (y ∷ ys) ∷ [])
filled-behind [] last y ys filled full fits = (filled.0, full, (fits, tt, tt))
filled-behind (block ∷ blocks) last y ys filled full fits = (
  filled.0,
  closed_still block_body block (blocks ++ last ∷ []) ((y ∷ ys) ∷ []) (push-some blocks last) filled.1,
  filled-behind blocks last y ys filled.2 full fits,
)

fits-block : (y : Entry) (ys : List Entry) (size : ℕ) → size ≤ 4096 → size ≡ length (block_body (y ∷ ys)) → Fits block_body (y ∷ ys)
fits-block y ys size small same = record { some = λ none. cc; small = inl (omega (arith, small, same)) }

-- blocks that are filled are so with one more that may stand behind them
pub next-filled : (blocks : List (List Entry)) (key : List ℕ) (before block : List Entry) (len size : ℕ) → IsNext key before len block size → before ≡ items_of blocks
    → EndsIn blocks len → AreFilled block_body blocks → size ≡ length (block_body block) → AreFilled block_body (blocks ++ block ∷ [])
next-filled blocks key before [] len size is are ends filled same = absurd (none-below (last_key before) is.1)
next-filled blocks key before (y ∷ ys) len size is are ends filled same = elim ends [
  | inl none ↦ subst (λ (bs : List (List Entry)). AreFilled block_body (bs ++ (y ∷ ys) ∷ [])) (sym none.0) (fits-block y ys size is.2 same, tt, tt)
  | inr one ↦
      let front = one.0 in
      let last = one.1 in
      let filled' = subst (AreFilled block_body) one.2 filled in
      let some = last_is_some block_body front last filled' in
      let keys : last_key before ≡ last_key last = ap last_key (are ∙ ap items_of one.2 ∙ items_of-push front last) ∙ last-behind (items_of front) last some in
      let full : 4096 < length (block_body (last ++ y ∷ [])) =
      omega (arith, block-push last y, one.3, ap (λ (k : List ℕ). item_length k y.key) keys, is.3) in
      subst (λ (bs : List (List Entry)). AreFilled block_body (bs ++ (y ∷ ys) ∷ [])) (sym one.2)
      (filled-behind front last y ys filled' full (fits-block y ys size is.2 same))
]

-- ---- a table's blocks

-- how many bytes the block before this number has
abbrev pub len_before : List (List Entry) → ℕ → ℕ
len_before blocks zero = 4096
len_before blocks (suc k) = length (block_body (get_or blocks k []))

items-parts : (blocks : List (List Entry)) (k : ℕ) (d : List Entry) → k < length blocks
    → items_of blocks ≡ items_of (take k blocks) ++ (get_or blocks k d ++ items_of (drop (suc k) blocks))
items-parts [] k d within = absurd (omega arith)
items-parts (block ∷ blocks) zero d within = refl
items-parts (block ∷ blocks) (suc k) d within =
    ap (λ xs. block ++ xs) (items-parts blocks k d (omega arith)) ∙ sym (append_assoc block (items_of (take k blocks)) (get_or blocks k d ++ items_of (drop (suc k) blocks)))

pub rises-into : (before block more : List Entry) → block ≢ [] → AreEntries (before ++ (block ++ more)) → Precedes (last_key before) (first_key block)
rises-into before [] more some are = absurd (some refl)
rises-into before (y ∷ ys) more some are = rise-at (record { key = []; payload = [] }) before y (ys ++ more) are.rising

-- a block would have been above 4,096 bytes with the first entry of the next one
closed-at : (blocks : List (List Entry)) (j : ℕ) → AreFilled block_body blocks → suc j < length blocks
    → 4096 < length (block_body (get_or blocks j [])) + item_length (last_key (get_or blocks j [])) (first_key (get_or blocks (suc j) []))
closed-at [] j filled within = absurd (omega arith)
closed-at (block ∷ []) j filled within = absurd (omega arith)
closed-at (block ∷ ([] ∷ blocks)) zero filled within = absurd (filled.2.0.some refl)
closed-at (block ∷ ((y ∷ ys) ∷ blocks)) zero filled within = omega (arith, filled.1, block-push block y)
closed-at (block ∷ (next ∷ blocks)) (suc j) filled within = closed-at (next ∷ blocks) j filled.2 (omega arith)

full-before : (blocks : List (List Entry)) (k : ℕ) → AreFilled block_body blocks → k < length blocks
    → 4096 < len_before blocks k + item_length (last_key (items_of (take k blocks))) (first_key (get_or blocks k []))
full-before blocks zero filled within = omega arith
full-before blocks (suc j) filled within =
    let one = get_or blocks j [] in
    let some = (filled-at block_body blocks j [] filled (omega arith)).some in
    let next : suc j ≡ j + 1 = omega arith in
    let keys : last_key (items_of (take (suc j) blocks)) ≡ last_key one =
    ap (λ (n : ℕ). last_key (items_of (take n blocks))) next ∙ ap last_key (ap items_of (take_more blocks j [] (omega arith)) ∙ items_of-push (take j blocks) one) ∙ last-behind (items_of (take j blocks)) one some in
    omega (arith, closed-at blocks j filled within, ap (λ (k : List ℕ). item_length k (first_key (get_or blocks (suc j) []))) keys)

-- each block of a table is the next one behind those before it
pub next-in-table : {S : Type 0} (told : S → Option (List ℕ)) (table : Table S) (all : List Entry) (stands : Represents told table all) (k : ℕ) (handle : BlockHandle (List ℕ))
    (before block : List Entry) (len size : ℕ) → k < length table.indexed.index → handle ≡ get_or table.indexed.index k handle → before ≡ items_of (take k stands.blocks)
    → block ≡ get_or stands.blocks k [] → len ≡ len_before stands.blocks k → size ≡ length (block_body block) → IsNext handle.first before len block size
next-in-table told table all stands k handle before block len size within is front here long same =
    let blocks = stands.blocks in
    let inside : k < length blocks = omega (arith, ap length stands.index, length-handles_from 0 blocks) in
    let one = get_or blocks k [] in
    let are : AreEntries (items_of blocks) = subst AreEntries (sym stands.parts.listed.whole) stands.parts.listed.rising in
    let there : handle ≡ place_behind (0 + total (take k blocks)) one = is ∙ ap (λ ps. get_or ps k handle) stands.index ∙ handle-at 0 blocks k handle [] inside in
    let fits = filled-at block_body blocks k [] stands.parts.listed.filled inside in
    let small = most_bytes [] one (block-entries blocks k [] are inside).rising fits in
    let above = rises-into (items_of (take k blocks)) one (items_of (drop (suc k) blocks)) fits.some (subst AreEntries (items-parts blocks k [] inside) are) in
    rw (front, here, long) (
      sym (ap (λ (p : BlockHandle (List ℕ)). p.first) there),
      above,
      omega (arith, small, same, ap (λ (b : List Entry). length (block_body b)) here),
      full-before blocks k stands.parts.listed.filled inside,
    )

-- the entries of a table are as its footer says
pub counted-in-table : {S : Type 0} (told : S → Option (List ℕ)) (table : Table S) (all : List Entry) → Represents told table all → AreCounted table.indexed.footer all
counted-in-table told table all stands = (
  ap length (sym stands.parts.listed.whole) ∙ sym (ap (λ (f : Footer). f.count) stands.footer),
  ap sizes_of (sym stands.parts.listed.whole) ∙ sym (ap (λ (f : Footer). f.sum) stands.footer),
)

-- each block of a table has an entry, and the index says the first one's key
pub first-in-table : {S : Type 0} (told : S → Option (List ℕ)) (table : Table S) (all : List Entry) (stands : Represents told table all) (k : ℕ) (handle : BlockHandle (List ℕ))
    → k < length table.indexed.index → handle ≡ get_or table.indexed.index k handle → (get_or stands.blocks k [] ≢ []) × (first_key (get_or stands.blocks k []) ≡ handle.first)
first-in-table told table all stands k handle within is =
    let inside : k < length stands.blocks = omega (arith, ap length stands.index, length-handles_from 0 stands.blocks) in (
      (filled-at block_body stands.blocks k [] stands.parts.listed.filled inside).some,
      (next-in-table told table all stands k handle (items_of (take k stands.blocks)) (get_or stands.blocks k []) (len_before stands.blocks k)
          (length (block_body (get_or stands.blocks k []))) within is refl refl refl refl).0,
    )
