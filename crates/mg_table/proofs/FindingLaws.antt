-- Which block has a key, and what a filter denies.
use Rattle.std.proofs.Common.{inl, inr, ◌≡◌, ℕ, zero, suc, ◌+◌, ◌-◌, ◌<◌, ◌≤◌, cond, Bool, true, false, List, [], ◌∷◌, ◌++◌, length, get_or, map, replicate, refl, sym, ap, subst, ◌∙◌, arith, Option, Some, None, MatchOption}
use Rattle.std.proofs.lemmas.Bool.{and_parts, false_from_ne_true, true≢false}
use Rattle.std.proofs.lemmas.List.{length-replicate}
use Rattle.std.proofs.lemmas.List.Elements.{All-head, All-tail}
use Rattle.std.proofs.lemmas.List.Folds.{find-append, list_all-append}
use Rattle.std.proofs.lemmas.Slice.Eq.{bytes_eq-Decides}
use Rattle.std.specs.List.{concat, list_all, All, HoldsAt}
use Rattle.std.specs.Option.{option_or, option_map, SomeIff}
use Rattle.std.specs.Str.{bytes_eq}
use Rattle.mg_block.specs.Block.{Precedes, RiseAfter, AreRising}
use Rattle.mg_block.specs.Search as block
use Rattle.mg_block.specs.declared.pair.Pair.{Pair}
use Rattle.mg_block.proofs.Order.{bytes_eq-above, Precedes-trans}
use Rattle.mg_bloom.specs.Bloom.{has_bit, has_words, key_words, place_of}
use Rattle.mg_bloom.proofs.BloomLaws.{has_words-added}
use Rattle.mg_sealed.specs.Filling.{AreFilled, items_of}
use Rattle.mg_table.specs.Entries.{block_body, first_key, pair_of, payload_of}
use Rattle.mg_types.specs.Items.{IsEntry}
use Rattle.mg_table.specs.Filters.{IsFilterOf}
use Rattle.mg_table.specs.Index.{handles_from}
use Rattle.mg_table.specs.Reading.{entry_of, IsSoughtIn, IsSoughtNowhere}
use Rattle.mg_table.specs.Table.{hashed_keys, IsTableOf}
use Rattle.mg_types.specs.declared.items.Entry.{Entry}
use Rattle.mg_indexed.specs.declared.handle.BlockHandle.{BlockHandle}
use Rattle.mg_table.specs.declared.table.Table.{Table}
use Rattle.mg_table.proofs.LoadingLaws.{length-handles_from}
use Rattle.mg_table.proofs.ReadingLaws.{handle-at, RiseAfter-behind}

bytes_eq-apart : (a b : List ℕ) → (a ≡ b → ⊥) → bytes_eq a b ≡ false
bytes_eq-apart a b apart = false_from_ne_true (bytes_eq a b) (λ same. apart ((bytes_eq-Decides a b).0 same))

-- ---- the block of a key

-- the key of each block's first entry is above what stands before the blocks
first_key-above : (previous : List ℕ) (blocks : List (List Entry)) (k : ℕ) (d : List Entry) → RiseAfter previous (map pair_of (items_of blocks)) → AreFilled block_body blocks
    → k < length blocks → Precedes previous (first_key (get_or blocks k d))
first_key-above previous [] k d rise filled within = absurd (omega arith)
first_key-above previous ([] ∷ blocks) zero d rise filled within = absurd (filled.0.some refl)
first_key-above previous ((entry ∷ block) ∷ blocks) zero d rise filled within = rise.0.rises
first_key-above previous (block ∷ blocks) (suc k) d rise filled within =
    first_key-above previous blocks k d (RiseAfter-behind previous block (items_of blocks) rise) filled.2 (omega arith)

-- what stands before a block that begins with no key above this one has not the key
none-before : (key previous : List ℕ) (entries : List Entry) (blocks : List (List Entry)) (k : ℕ) (d : List Entry)
    → RiseAfter previous (map pair_of (entries ++ items_of blocks)) → AreFilled block_body blocks → k < length blocks
    → (Precedes key (first_key (get_or blocks k d)) → ⊥) → entry_of key entries ≡ None
none-before key previous [] blocks k d rise filled within not = refl
none-before key previous (entry ∷ entries) blocks k d rise filled within not =
    let below : Precedes entry.key (first_key (get_or blocks k d)) =
    first_key-above entry.key blocks k d (RiseAfter-behind entry.key entries (items_of blocks) rise.1) filled within in
    let apart : bytes_eq entry.key key ≡ false =
    bytes_eq-apart entry.key key (λ same. not (subst (λ (x : List ℕ). Precedes x (first_key (get_or blocks k d))) same below)) in
    rw apart (none-before key entry.key entries blocks k d rise.1 filled within not)

-- entries above a key have not the key
none-above : (key previous : List ℕ) (entries : List Entry) → Precedes key previous → RiseAfter previous (map pair_of entries) → entry_of key entries ≡ None
none-above key previous [] below rise = refl
none-above key previous (entry ∷ entries) below rise =
    let above : Precedes key entry.key = Precedes-trans key previous entry.key below rise.0.rises in
    rw (bytes_eq-above entry.key key above) (none-above key entry.key entries above rise.1)

-- nor have blocks that begin above it
none-following : (key previous : List ℕ) (blocks : List (List Entry)) → RiseAfter previous (map pair_of (items_of blocks)) → AreFilled block_body blocks
    → (0 < length blocks → Precedes key (first_key (get_or blocks 0 []))) → entry_of key (items_of blocks) ≡ None
none-following key previous [] rise filled begins = refl
none-following key previous ([] ∷ blocks) rise filled begins = absurd (filled.0.some refl)
none-following key previous ((entry ∷ block) ∷ blocks) rise filled begins =
    let above : Precedes key entry.key = begins (omega arith) in
    rw (bytes_eq-above entry.key key above) (none-above key entry.key (block ++ items_of blocks) above rise.1)

or-none : (found : Option Entry) → option_or found None ≡ found
or-none None = refl
or-none (Some entry) = refl

-- The last block that begins with no key above this one has the key, if any has.
found-in : (key previous : List ℕ) (blocks : List (List Entry)) (k : ℕ) → RiseAfter previous (map pair_of (items_of blocks)) → AreFilled block_body blocks
    → k < length blocks → (Precedes key (first_key (get_or blocks k [])) → ⊥) → (suc k < length blocks → Precedes key (first_key (get_or blocks (suc k) [])))
    → (d : List Entry) → entry_of key (items_of blocks) ≡ entry_of key (get_or blocks k d)
found-in key previous [] k rise filled within last following d = absurd (omega arith)
found-in key previous (block ∷ blocks) zero rise filled within last following d =
    let test = λ (entry : Entry). bytes_eq entry.key key in
    let none : entry_of key (items_of blocks) ≡ None =
    none-following key previous blocks (RiseAfter-behind previous block (items_of blocks) rise) filled.2 (λ some. following (omega arith)) in
    find-append test block (items_of blocks) ∙ ap (λ found. option_or (entry_of key block) found) none ∙ or-none (entry_of key block)
found-in key previous (block ∷ blocks) (suc k) rise filled within last following d =
    let test = λ (entry : Entry). bytes_eq entry.key key in
    let none : entry_of key block ≡ None = none-before key previous block blocks k [] rise filled.2 (omega arith) last in
    find-append test block (items_of blocks) ∙ ap (λ found. option_or found (entry_of key (items_of blocks))) none
    ∙ found-in key previous blocks k (RiseAfter-behind previous block (items_of blocks) rise) filled.2 (omega arith) last (λ more. following (omega arith)) d

-- ---- the filter

none-held : (key filter : List ℕ) (entries : List Entry) → has_words filter (concat (hashed_keys entries)) ≡ true → has_words filter (key_words key) ≡ false → entry_of key entries ≡ None
unfolding has_words
none-held key filter [] held denied = refl
none-held key filter (entry ∷ entries) held denied =
    let test = λ (word : ℕ). has_bit filter (place_of word filter) in
    let parts = and_parts (list_all test (key_words entry.key)) (list_all test (concat (hashed_keys entries)))
    (sym (list_all-append test (key_words entry.key) (concat (hashed_keys entries))) ∙ held) in
    let apart : bytes_eq entry.key key ≡ false =
    bytes_eq-apart entry.key key (λ same. true≢false (sym (ap (λ (k : List ℕ). list_all test (key_words k)) (sym same) ∙ parts.0) ∙ denied)) in
    rw apart (none-held key filter entries parts.1 denied)

-- a key that is denied is none of the keys put in
pub none-denied : (key filter : List ℕ) (entries : List Entry) → IsFilterOf (hashed_keys entries) filter → has_words filter (key_words key) ≡ false → entry_of key entries ≡ None
none-denied key filter entries is denied =
    let some : 0 < length (replicate (length filter) 0) = omega (arith, is.size.at_least, length-replicate {A = ℕ} (length filter) 0) in
    none-held key filter entries (has_words-added (replicate (length filter) 0) filter (concat (hashed_keys entries)) some is.bits) denied

-- ---- by the index

key-at : (blocks : List (List Entry)) (k : ℕ) (p : BlockHandle (List ℕ)) → k < length blocks → (get_or (handles_from 0 blocks) k p).first ≡ first_key (get_or blocks k [])
key-at blocks k p within = ap (λ (handle : BlockHandle (List ℕ)). handle.first) (handle-at 0 blocks k p [] within)

no_place : BlockHandle (List ℕ)
no_place = record { first = []; at = 0; len = 0 }

pub none-of : (lo hi : ℕ) (entries : List Entry) (blocks : List (List Entry)) (filter key : List ℕ) (index : List (BlockHandle (List ℕ)))
    → IsTableOf lo hi entries blocks filter → index ≡ handles_from 0 blocks → (0 < length index → HoldsAt (λ handle. Precedes key handle.first) index 0) → entry_of key entries ≡ None
none-of lo hi entries blocks filter key index is indexed following =
    let same = ap length indexed ∙ length-handles_from 0 blocks in
    ap (entry_of key) (sym is.listed.whole)
    ∙ none-following key [] blocks (subst (λ es. AreRising (map pair_of es)) (sym is.listed.whole) is.listed.rising.rising) is.listed.filled
    (λ some. subst (λ (k : List ℕ). Precedes key k) (key-at blocks 0 no_place some) (subst (λ ps. Precedes key (get_or ps 0 no_place).first) indexed (following (omega (arith, same)) no_place)))

pub one-of : (lo hi : ℕ) (entries : List Entry) (blocks : List (List Entry)) (filter key : List ℕ) (index : List (BlockHandle (List ℕ))) (k : ℕ)
    → IsTableOf lo hi entries blocks filter → index ≡ handles_from 0 blocks → k < length index
    → HoldsAt (λ handle. Precedes key handle.first → ⊥) index k → (k + 1 < length index → HoldsAt (λ handle. Precedes key handle.first) index (k + 1))
    → HoldsAt (λ block. entry_of key entries ≡ entry_of key block) blocks k
one-of lo hi entries blocks filter key index k is indexed within last following = λ d.
    let same = ap length indexed ∙ length-handles_from 0 blocks in
    let inside : k < length blocks = omega (arith, same) in
    ap (entry_of key) (sym is.listed.whole)
    ∙ found-in key [] blocks k (subst (λ es. AreRising (map pair_of es)) (sym is.listed.whole) is.listed.rising.rising) is.listed.filled inside
    (λ above. last no_place (subst (λ ps. Precedes key (get_or ps k no_place).first) (sym indexed) (subst (λ (x : List ℕ). Precedes key x) (sym (key-at blocks k no_place inside)) above)))
    (λ more.
    let step : k + 1 ≡ suc k = omega arith in
    let within : k + 1 < length blocks = omega (arith, more) in
    subst (λ (n : ℕ). Precedes key (first_key (get_or blocks n []))) step
    (subst (λ (x : List ℕ). Precedes key x) (key-at blocks (k + 1) no_place within)
    (subst (λ ps. Precedes key (get_or ps (k + 1) no_place).first) indexed (following (omega (arith, same)) no_place))))
    d

zero-from : (n : ℕ) → (1 ≤ n → ⊥) → n ≡ 0
zero-from zero none = refl
zero-from (suc n) none = absurd (none (omega arith))

-- the block before so many, if any is
pub chosen : (lo hi : ℕ) (entries : List Entry) (blocks : List (List Entry)) (filter key : List ℕ) (index : List (BlockHandle (List ℕ))) (n : ℕ) (number : Option ℕ)
    → IsTableOf lo hi entries blocks filter → index ≡ handles_from 0 blocks → n ≤ length index
    → (0 < n → HoldsAt (λ handle. Precedes key handle.first → ⊥) index (n - 1)) → (n < length index → HoldsAt (λ handle. Precedes key handle.first) index n)
    → SomeIff number (1 ≤ n) (n - 1)
    → MatchOption number (entry_of key entries ≡ None) (λ number. HoldsAt (λ block. entry_of key entries ≡ entry_of key block) blocks number)
chosen lo hi entries blocks filter key index n None is indexed within last following before =
    let none : n ≡ 0 = zero-from n before in
    none-of lo hi entries blocks filter key index is indexed
    (λ some. subst (λ (k : ℕ). HoldsAt (λ (handle : BlockHandle (List ℕ)). Precedes key handle.first) index k) none (following (omega arith)))
chosen lo hi entries blocks filter key index n (Some number) is indexed within last following before =
    let back : n - 1 ≡ number = sym before.1 in
    let step : n ≡ number + 1 = omega (arith, before.0) in
    one-of lo hi entries blocks filter key index number is indexed (omega arith)
    (subst (λ (k : ℕ). HoldsAt (λ (handle : BlockHandle (List ℕ)). Precedes key handle.first → ⊥) index k) back (last (omega (arith, before.0))))
    (λ more. subst (λ (k : ℕ). HoldsAt (λ (handle : BlockHandle (List ℕ)). Precedes key handle.first) index k) step (following (omega arith)))

-- where the key is sought, if in any block
pub sought : {S : Type 0} (table : Table S) (key : List ℕ) (index : List (BlockHandle (List ℕ))) (n : ℕ) (number : Option ℕ) → index ≡ table.indexed.index → has_words table.filter (key_words key) ≡ true
    → n ≤ length index → (0 < n → HoldsAt (λ handle. Precedes key handle.first → ⊥) index (n - 1)) → (n < length index → HoldsAt (λ handle. Precedes key handle.first) index n)
    → SomeIff number (1 ≤ n) (n - 1) → MatchOption number (IsSoughtNowhere table key) (λ number. IsSoughtIn table key number)
sought table key index n None same held within last following before =
    let none : n ≡ 0 = zero-from n before in
    inr (subst (λ (ps : List (BlockHandle (List ℕ))). 0 < length ps → HoldsAt (λ (handle : BlockHandle (List ℕ)). Precedes key handle.first) ps 0) same
    (λ some. subst (λ (k : ℕ). HoldsAt (λ (handle : BlockHandle (List ℕ)). Precedes key handle.first) index k) none (following (omega arith))))
sought table key index n (Some number) same held within last following before =
    let back : n - 1 ≡ number = sym before.1 in
    let step : n ≡ number + 1 = omega (arith, before.0) in
    record {
      held = held;
      within = omega (arith, ap length same);
      last = subst (λ (ps : List (BlockHandle (List ℕ))). HoldsAt (λ (handle : BlockHandle (List ℕ)). Precedes key handle.first → ⊥) ps number) same
          (subst (λ (k : ℕ). HoldsAt (λ (handle : BlockHandle (List ℕ)). Precedes key handle.first → ⊥) index k) back (last (omega (arith, before.0))));
      following = subst (λ (ps : List (BlockHandle (List ℕ))). number + 1 < length ps → HoldsAt (λ (handle : BlockHandle (List ℕ)). Precedes key handle.first) ps (number + 1)) same
          (λ more. subst (λ (k : ℕ). HoldsAt (λ (handle : BlockHandle (List ℕ)). Precedes key handle.first) index k) step (following (omega arith)));
    }

no_handle : BlockHandle (List ℕ)
no_handle = record { first = []; at = 0; len = 0 }

-- where the filter does not deny a key and the first of some blocks does not begin above it, the key is sought
pub sought_somewhere : {S : Type 0} (table : Table S) (key : List ℕ) → has_words table.filter (key_words key) ≡ true → 0 < length table.indexed.index
    → HoldsAt (λ handle. Precedes key handle.first → ⊥) table.indexed.index 0 → IsSoughtNowhere table key → ⊥
sought_somewhere table key held some first (inl denied) = let e : false ≡ true = sym denied ∙ held in absurd cc
sought_somewhere table key held some first (inr below) = first no_handle (below some no_handle)

-- an option that has nothing where it would need this
pub none_without : {T : Type 0} (option : Option T) (P : Type 0) (value : T) → SomeIff option P value → (P → ⊥) → option ≡ None
none_without None P value is never = refl
none_without (Some other) P value is never = absurd (never is.0)

-- ---- the entry of a payload

payload-step : (found : Bool) (entry : Entry) (rest : Option Pair) (others : Option Entry) → option_map (λ (pair : Pair). pair.payload) rest ≡ option_map payload_of others
    → option_map (λ (pair : Pair). pair.payload) (cond found (Some (pair_of entry)) rest) ≡ option_map payload_of (cond found (Some entry) others)
payload-step true entry rest others same = refl
payload-step false entry rest others same = same

payloads : (key : List ℕ) (entries : List Entry) → block.payload_of key (map pair_of entries) ≡ option_map payload_of (entry_of key entries)
payloads key [] = refl
payloads key (entry ∷ entries) =
    payload-step (bytes_eq entry.key key) entry _ (entry_of key entries) (payloads key entries)

-- the entry of a key among entries in range
pub record IsFound (key : List ℕ) (entries : List Entry) (entry : Entry) : Type 0 where
  pub found : entry_of key entries ≡ Some entry
  pub is : IsEntry entry
  pub key_is : entry.key ≡ key

found-here : (key : List ℕ) (first : Entry) (entries : List Entry) (entry : Entry) (here : Bool) → bytes_eq first.key key ≡ here → IsEntry first
    → cond here (Some first) (entry_of key entries) ≡ Some entry → (entry_of key entries ≡ Some entry → IsEntry entry × (entry.key ≡ key)) → IsEntry entry × (entry.key ≡ key)
found-here key first entries entry true same is found rest =
    let e : first ≡ entry = cc in
    subst (λ (x : Entry). IsEntry x × (x.key ≡ key)) e (is, (bytes_eq-Decides first.key key).0 same)
found-here key first entries entry false same is found rest = rest found

found-is : (key : List ℕ) (entries : List Entry) (entry : Entry) → All IsEntry entries → entry_of key entries ≡ Some entry → IsEntry entry × (entry.key ≡ key)
found-is key [] entry each found = absurd cc
found-is key (first ∷ entries) entry each found =
    found-here key first entries entry (bytes_eq first.key key) refl (All-head IsEntry first entries each) found
    (λ later. found-is key entries entry (All-tail IsEntry first entries each) later)

entry-behind : (key payload : List ℕ) (entries : List Entry) (o : Option Entry) → entry_of key entries ≡ o → All IsEntry entries → Some payload ≡ option_map payload_of o
    → (entry : Entry) × IsFound key entries entry × (payload ≡ payload_of entry)
entry-behind key payload entries None is each same = absurd cc
entry-behind key payload entries (Some entry) is each same =
    let both = found-is key entries entry each is in
    (entry, record { found = is; is = both.0; key_is = both.1 }, cc)

-- a payload that is found is that of the key's entry
pub found-entry : (key payload : List ℕ) (entries : List Entry) → All IsEntry entries → Some payload ≡ block.payload_of key (map pair_of entries)
    → (entry : Entry) × IsFound key entries entry × (payload ≡ payload_of entry)
found-entry key payload entries each same = entry-behind key payload entries (entry_of key entries) refl each (same ∙ payloads key entries)

none-behind : (o : Option Entry) → None ≡ option_map payload_of o → o ≡ None
none-behind None same = refl
none-behind (Some entry) same = absurd cc

-- where no payload is found there is no entry
pub found-none : (key : List ℕ) (entries : List Entry) → None ≡ block.payload_of key (map pair_of entries) → entry_of key entries ≡ None
found-none key entries same = none-behind (entry_of key entries) (same ∙ payloads key entries)
