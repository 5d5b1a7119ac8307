-- What a scan has read and listed.
use Rattle.std.proofs.Common.{◌≡◌, ◌⊎◌, ℕ, ◌+◌, ◌-◌, ◌<◌, ◌≤◌, ◌^◌, suc, inl, inr, List, [], ◌∷◌, ◌++◌, length, map, take, drop, get_or, refl, sym, ap, ◌∙◌, subst, arith, Option, Some, None, IfSome, Result, Ok}
use Rattle.std.proofs.lemmas.List.{drop_at, length-take-le, take_all, take_at, take_more}
use Rattle.std.proofs.lemmas.List.Elements.{All-nil, at_read}
use Rattle.std.specs.Prelude.{HoldsAt}
use Rattle.std.specs.List.{All}
use Rattle.mg_faults.specs.Causes.{last_count}
use Rattle.mg_block.specs.Block.{IsBlock}
use Rattle.mg_types.specs.Items.{IsEntry}
use Rattle.mg_types.specs.declared.faults.Fault.{Fault}
use Rattle.mg_types.specs.declared.faults.Fault.TheVariants.{Malformed}
use Rattle.mg_types.specs.declared.items.Entry.{Entry}
use Rattle.mg_sealed.specs.Answers.{IsOutside}
use Rattle.mg_sealed.specs.Filling.{AreFilled, items_of}
use Rattle.mg_sealed.proofs.FilledLaws.{items_of-push}
use Rattle.mg_table.specs.Entries.{block_body, first_key, pair_of, AreEntries}
use Rattle.mg_table.specs.Reading.{read_at, AreFirst, AreRead, IsBlockRefused, IsListUnfit, IsScanRefused}
use Rattle.mg_table.specs.Scanning.{AreCounted, AreHeaded, EndsIn, IsNext}
use Rattle.mg_frame.specs.Frame.{StandsAt}
use Rattle.mg_table.specs.Loading.{IsRead}
use Rattle.mg_table.proofs.WholeLaws.{is-whole}
use Rattle.mg_table.specs.Table.{IsTableBut, Represents}
use Rattle.mg_indexed.specs.declared.handle.BlockHandle.{BlockHandle}
use Rattle.mg_table.specs.declared.table.Table.{Table}
use Rattle.mg_table.proofs.CauseLaws.{read-length, read-push, IsReadAt}
use Rattle.mg_table.proofs.LoadingLaws.{length-handles_from}
use Rattle.mg_indexed.proofs.LoadingSteps.{Under, under_both, under_then}
use Rattle.mg_table.proofs.ScanningLaws.{len_before, next-filled, next-joined}

-- the blocks before this number were read, they are filled in order, and these are their entries
pub record Lined {S : Type 0} (told : Option (List ℕ)) (table : Table S) (number : ℕ) (entries : List Entry) (len : ℕ) : Type 0 where
  pub blocks : List (List Entry)
  pub are : entries ≡ items_of blocks
  pub rising : AreEntries entries
  pub filled : AreFilled block_body blocks
  pub ends : EndsIn blocks len
  pub headed : Under told table.indexed.file.len (λ bytes. AreHeaded (take number table.indexed.index) blocks)
  pub read : Under told table.indexed.file.len (λ bytes. AreRead table.indexed.file.id bytes 0 (take number table.indexed.index) blocks)

-- the entries and the last block are those of each table that this one stands for
abbrev pub Follows : {S : Type 0} → (S → Option (List ℕ)) → Table S → ℕ → List Entry → ℕ → Type 0
Follows told table number entries len = IfSome (told table.indexed.file.file) (λ _. (all : List Entry) → (stands : Represents told table all)
    → (entries ≡ items_of (take number stands.blocks)) × (len ≡ len_before stands.blocks number))

pub record ScansTo {S : Type 0} (told : S → Option (List ℕ)) (table : Table S) (before now number : ℕ) (entries : List Entry) (len : ℕ) : Type 0 where
  -- as long as the loop goes on, the count of faults is what it was
  pub unmoved : now ≡ before
  pub bounded : before ≤ last_count
  pub room : len < 2 ^ 32
  pub listed : Follows told table number entries len
  pub lined : Lined (told table.indexed.file.file) table number entries len

pub lined-none : {S : Type 0} (told : Option (List ℕ)) (table : Table S) → Lined told table 0 [] 4096
lined-none told table = record {
  blocks = [];
  are = refl;
  rising = record { rising = tt; each = All-nil IsEntry };
  filled = tt;
  ends = inl (refl, refl);
  headed = under_any told table.indexed.file.len (λ bytes. AreHeaded [] []) (λ bytes. tt);
  read = under_any told table.indexed.file.len (λ bytes. AreRead table.indexed.file.id bytes 0 [] []) (λ bytes. tt);
}
  where
    under_any : (told : Option (List ℕ)) (len : ℕ) (P : List ℕ → Type 0) → ((bytes : List ℕ) → P bytes) → Under told len P
    under_any None len P all = tt
    under_any (Some bytes) len P all = λ _. all bytes

-- so many blocks are the first ones of the table
first-of : {S : Type 0} (told : Option (List ℕ)) (table : Table S) (number : ℕ) (entries : List Entry) (len : ℕ) → number ≤ length table.indexed.index → (l : Lined told table number entries len)
    → Under told table.indexed.file.len (λ bytes. AreFirst table bytes l.blocks × (length l.blocks ≡ number))
first-of told table number entries len within l =
    under_then told table.indexed.file.len (λ bytes. AreRead table.indexed.file.id bytes 0 (take number table.indexed.index) l.blocks × AreHeaded (take number table.indexed.index) l.blocks)
    (λ bytes. AreFirst table bytes l.blocks × (length l.blocks ≡ number))
    (λ bytes same h.
    let count : length l.blocks ≡ number = read-length table.indexed.file.id bytes 0 (take number table.indexed.index) l.blocks h.0 ∙ length-take-le number table.indexed.index within in (
      record {
        read = subst (λ (n : ℕ). AreRead table.indexed.file.id bytes 0 (take n table.indexed.index) l.blocks) (sym count) h.0;
        headed = subst (λ (n : ℕ). AreHeaded (take n table.indexed.index) l.blocks) (sym count) h.1;
        rising = subst AreEntries l.are l.rising;
        filled = l.filled;
      },
      count,
    ))
    (under_both told table.indexed.file.len (λ bytes. AreRead table.indexed.file.id bytes 0 (take number table.indexed.index) l.blocks) (λ bytes. AreHeaded (take number table.indexed.index) l.blocks) l.read l.headed)

-- a block that is refused behind others that were read
pub scan_refused : {S : Type 0} (told : Option (List ℕ)) (table : Table S) (k : ℕ) (entries : List Entry) (len : ℕ) (fault : Fault) → k < length table.indexed.index
    → Lined told table k entries len
    → Under told table.indexed.file.len (λ bytes. IsOutside fault ⊎ IsBlockRefused table bytes k (λ (p : BlockHandle (List ℕ)) body. IsListUnfit table.indexed.file.id p.at body) fault)
    → Under told table.indexed.file.len (λ bytes. IsOutside fault ⊎ IsScanRefused table bytes fault)
scan_refused told table k entries len fault within l known =
    let Refused : List ℕ → Type 0 = λ bytes. IsOutside fault ⊎ IsBlockRefused table bytes k (λ (p : BlockHandle (List ℕ)) body. IsListUnfit table.indexed.file.id p.at body) fault in
    let First : List ℕ → Type 0 = λ bytes. AreFirst table bytes l.blocks × (length l.blocks ≡ k) in
    under_then told table.indexed.file.len (λ bytes. First bytes × Refused bytes) (λ bytes. IsOutside fault ⊎ IsScanRefused table bytes fault)
    (λ bytes same h. elim h.1 [
      | inl outside ↦ inl outside
      | inr is ↦
          inr (inl (
            l.blocks,
            h.0.0,
            subst (λ (n : ℕ). IsBlockRefused table bytes n (λ (p : BlockHandle (List ℕ)) body. IsListUnfit table.indexed.file.id p.at body) fault) (sym h.0.1) is,
          ))
    ])
    (under_both told table.indexed.file.len First Refused (first-of told table k entries len (omega arith) l) known)

-- the frame of this number is read at its handle, and stands there
abbrev pub IsFrameRead : {S : Type 0} → Table S → ℕ → BlockHandle (List ℕ) → List ℕ → List ℕ → Type 0
IsFrameRead table k handle frame bytes = (read_at table.indexed.file.id bytes handle k ≡ Ok frame) × StandsAt bytes handle.at (k, frame)

pub frame-read : {S : Type 0} (told : Option (List ℕ)) (table : Table S) (k : ℕ) (handle : BlockHandle (List ℕ)) (frame : List ℕ)
    → Under told table.indexed.file.len (λ bytes. read_at table.indexed.file.id bytes handle k ≡ Ok frame) → Under told table.indexed.file.len (λ bytes. StandsAt bytes handle.at (k, frame))
    → Under told table.indexed.file.len (IsFrameRead table k handle frame)
frame-read told table k handle frame read there =
    under_both told table.indexed.file.len (λ bytes. read_at table.indexed.file.id bytes handle k ≡ Ok frame) (λ bytes. StandsAt bytes handle.at (k, frame)) read there

block-read-too : {S : Type 0} (told : Option (List ℕ)) (table : Table S) (k : ℕ) (handle : BlockHandle (List ℕ)) (frame : List ℕ) (blocks : List (List Entry)) (listed : List Entry)
    → k < length table.indexed.index → handle ≡ get_or table.indexed.index k handle → IsBlock frame (map pair_of listed) → All IsEntry listed
    → Under told table.indexed.file.len (IsFrameRead table k handle frame)
    → Under told table.indexed.file.len (λ bytes. AreRead table.indexed.file.id bytes 0 (take k table.indexed.index) blocks)
    → Under told table.indexed.file.len (λ bytes. AreRead table.indexed.file.id bytes 0 (take (k + 1) table.indexed.index) (blocks ++ listed ∷ []))
block-read-too told table k handle frame blocks listed within there block each read so_far =
    let id = table.indexed.file.id in
    under_then told table.indexed.file.len (λ bytes. IsFrameRead table k handle frame bytes × AreRead id bytes 0 (take k table.indexed.index) blocks)
    (λ bytes. AreRead id bytes 0 (take (k + 1) table.indexed.index) (blocks ++ listed ∷ []))
    (λ bytes same h.
    let handles : take (k + 1) table.indexed.index ≡ take k table.indexed.index ++ handle ∷ [] =
    take_more table.indexed.index k handle within ∙ ap (λ (p : BlockHandle (List ℕ)). take k table.indexed.index ++ p ∷ []) (sym there) in
    let count : 0 + length (take k table.indexed.index) ≡ k = omega (arith, length-take-le k table.indexed.index (omega arith)) in
    let body : read_at id bytes handle k ≡ Ok (block_body listed) = h.0.0 ∙ ap (λ (b : List ℕ). let r : Result (List ℕ) Fault = Ok b in r) block.spelling in
    let frame_is = subst (λ (b : List ℕ). StandsAt bytes handle.at (k, b)) block.spelling h.0.1 in
    let here = subst (IsReadAt id bytes handle listed) (sym count) (body, frame_is) in
    let are = read-push id bytes 0 (take k table.indexed.index) blocks handle listed h.1 here (record { rising = block.rising; each = each }) in
    subst (λ ps. AreRead id bytes 0 ps (blocks ++ listed ∷ [])) (sym handles) are)
    (under_both told table.indexed.file.len (IsFrameRead table k handle frame) (λ bytes. AreRead id bytes 0 (take k table.indexed.index) blocks) read so_far)

headed-push : (handles : List (BlockHandle (List ℕ))) (blocks : List (List Entry)) (handle : BlockHandle (List ℕ)) (block : List Entry) → length blocks ≡ length handles → handle.first ≡ first_key block
    → AreHeaded handles blocks → AreHeaded (handles ++ handle ∷ []) (blocks ++ block ∷ [])
headed-push [] [] handle block count key headed = (key, tt)
headed-push [] (b ∷ blocks) handle block count key headed = absurd (omega (arith, count))
headed-push (h ∷ handles) [] handle block count key headed = absurd headed
headed-push (h ∷ handles) (b ∷ blocks) handle block count key headed = (headed.0, headed-push handles blocks handle block (omega (arith, count)) key headed.1)

-- one block more
pub lined-more : {S : Type 0} (told : Option (List ℕ)) (table : Table S) (k : ℕ) (handle : BlockHandle (List ℕ)) (frame : List ℕ) (entries more listed : List Entry) (len size : ℕ)
    → k < length table.indexed.index → handle ≡ get_or table.indexed.index k handle → more ≡ entries ++ listed → IsBlock frame (map pair_of listed) → All IsEntry listed
    → IsNext handle.first entries len listed size → size ≡ length frame → Under told table.indexed.file.len (IsFrameRead table k handle frame)
    → Lined told table k entries len → Lined told table (k + 1) more size
lined-more told table k handle frame entries more listed len size within there is block each next same read l =
    let long : size ≡ length (block_body listed) = same ∙ ap length block.spelling in
    record {
      blocks = l.blocks ++ listed ∷ [];
      are = is ∙ ap (λ es. es ++ listed) l.are ∙ sym (items_of-push l.blocks listed);
      rising = subst AreEntries (sym is) (next-joined entries listed next.1 l.rising (record { rising = block.rising; each = each }));
      filled = next-filled l.blocks handle.first entries listed len size next l.are l.ends l.filled long;
      ends = inr (l.blocks, listed, refl, long);
      headed = under_then told table.indexed.file.len (λ bytes. AreRead table.indexed.file.id bytes 0 (take k table.indexed.index) l.blocks × AreHeaded (take k table.indexed.index) l.blocks)
          (λ bytes. AreHeaded (take (k + 1) table.indexed.index) (l.blocks ++ listed ∷ []))
          (λ bytes here h.
          let handles : take (k + 1) table.indexed.index ≡ take k table.indexed.index ++ handle ∷ [] =
          take_more table.indexed.index k handle within ∙ ap (λ (p : BlockHandle (List ℕ)). take k table.indexed.index ++ p ∷ []) (sym there) in
          subst (λ ps. AreHeaded ps (l.blocks ++ listed ∷ [])) (sym handles)
          (headed-push (take k table.indexed.index) l.blocks handle listed (read-length table.indexed.file.id bytes 0 (take k table.indexed.index) l.blocks h.0) (sym next.0) h.1))
          (under_both told table.indexed.file.len (λ bytes. AreRead table.indexed.file.id bytes 0 (take k table.indexed.index) l.blocks) (λ bytes. AreHeaded (take k table.indexed.index) l.blocks) l.read l.headed);
      read = block-read-too told table k handle frame l.blocks listed within there block each read l.read;
    }

-- the two parts of a list that went on
pub parts-of : (entries more listed : List Entry) (n : ℕ) → more ≡ entries ++ listed → n ≡ length entries → (take n more ≡ entries) × (drop n more ≡ listed)
parts-of entries more listed n is count =
    (ap (take n) is ∙ take_at entries listed n (sym count), ap (drop n) is ∙ drop_at entries listed n (sym count))

-- the next block may not stand there
pub order_refused : {S : Type 0} (told : Option (List ℕ)) (table : Table S) (k : ℕ) (handle : BlockHandle (List ℕ)) (frame : List ℕ) (entries listed : List Entry) (len size : ℕ) (fault : Fault)
    → k < length table.indexed.index → handle ≡ get_or table.indexed.index k handle → IsBlock frame (map pair_of listed) → All IsEntry listed
    → (IsNext handle.first entries len listed size → ⊥) → size ≡ length frame → fault ≡ Malformed table.indexed.file.id handle.at
    → Under told table.indexed.file.len (IsFrameRead table k handle frame) → Lined told table k entries len
    → Under told table.indexed.file.len (λ bytes. IsOutside fault ⊎ IsScanRefused table bytes fault)
order_refused told table k handle frame entries listed len size fault within there block each apart same is read l =
    let long : size ≡ length (block_body listed) = same ∙ ap length block.spelling in
    let apart' = subst (λ (n : ℕ). IsNext handle.first entries len listed n → ⊥) long apart in
    let apart'' = subst (λ (es : List Entry). IsNext handle.first es len listed (length (block_body listed)) → ⊥) l.are apart' in
    let both = block-read-too told table k handle frame l.blocks listed within there block each read l.read in
    let First : List ℕ → Type 0 = λ bytes. AreFirst table bytes l.blocks × (length l.blocks ≡ k) in
    let Unfit : BlockHandle (List ℕ) → Type 0 =
    λ p. (IsNext p.first (items_of l.blocks) len listed (length (block_body listed)) → ⊥) × (fault ≡ Malformed table.indexed.file.id p.at) in
    under_then told table.indexed.file.len
    (λ bytes. First bytes × AreRead table.indexed.file.id bytes 0 (take (k + 1) table.indexed.index) (l.blocks ++ listed ∷ []))
    (λ bytes. IsOutside fault ⊎ IsScanRefused table bytes fault)
    (λ bytes here h.
    let count : length l.blocks ≡ k = h.0.1 in
    inr (inr (inl (
      l.blocks,
      h.0.0,
      (
        listed,
        len,
        subst (λ (n : ℕ). AreRead table.indexed.file.id bytes 0 (take (n + 1) table.indexed.index) (l.blocks ++ listed ∷ [])) (sym count) h.1,
        l.ends,
        omega (arith, count, within),
        subst (λ (n : ℕ). HoldsAt Unfit table.indexed.index n) (sym count) (at_read table.indexed.index Unfit k handle within there (apart'', is)),
      ),
    ))))
    (under_both told table.indexed.file.len First
    (λ bytes. AreRead table.indexed.file.id bytes 0 (take (k + 1) table.indexed.index) (l.blocks ++ listed ∷ [])) (first-of told table k entries len (omega arith) l) both)

-- the footer says another number of entries, or another sum
pub counts_refused : {S : Type 0} (told : Option (List ℕ)) (table : Table S) (k : ℕ) (entries : List Entry) (len : ℕ) (fault : Fault) → length table.indexed.index ≤ k
    → (AreCounted table.indexed.footer entries → ⊥) → fault ≡ Malformed table.indexed.file.id (table.indexed.file.len - 73) → Lined told table k entries len
    → Under told table.indexed.file.len (λ bytes. IsOutside fault ⊎ IsScanRefused table bytes fault)
counts_refused told table k entries len fault past apart is l =
    let Read : List ℕ → Type 0 = λ bytes. AreRead table.indexed.file.id bytes 0 (take k table.indexed.index) l.blocks in
    let Headed : List ℕ → Type 0 = λ bytes. AreHeaded (take k table.indexed.index) l.blocks in
    under_then told table.indexed.file.len (λ bytes. Read bytes × Headed bytes) (λ bytes. IsOutside fault ⊎ IsScanRefused table bytes fault)
    (λ bytes here h.
    let all : take k table.indexed.index ≡ table.indexed.index = take_all k table.indexed.index past in
    let count : length l.blocks ≡ length table.indexed.index = read-length table.indexed.file.id bytes 0 (take k table.indexed.index) l.blocks h.0 ∙ ap length all in
    let same : take k table.indexed.index ≡ take (length l.blocks) table.indexed.index = all ∙ sym (take_all (length l.blocks) table.indexed.index (omega (arith, count))) in
    inr (inr (inr (
      l.blocks,
      record {
        read = subst (λ ps. AreRead table.indexed.file.id bytes 0 ps l.blocks) same h.0;
        headed = subst (λ ps. AreHeaded ps l.blocks) same h.1;
        rising = subst AreEntries l.are l.rising;
        filled = l.filled;
      },
      count,
      subst (λ (es : List Entry). AreCounted table.indexed.footer es → ⊥) l.are apart,
      is,
    ))))
    (under_both told table.indexed.file.len Read Headed l.read l.headed)

-- ---- the entries of a table

pub scanned-more : (blocks : List (List Entry)) (number : ℕ) (entries more : List Entry) → number < length blocks → entries ≡ items_of (take number blocks)
    → more ≡ entries ++ get_or blocks number [] → more ≡ items_of (take (number + 1) blocks)
scanned-more blocks number entries more within listed is =
    is ∙ ap (λ es. es ++ get_or blocks number []) listed
    ∙ sym (ap items_of (take_more blocks number [] within) ∙ items_of-push (take number blocks) (get_or blocks number []))

pub len_before-next : (blocks : List (List Entry)) (k : ℕ) → len_before blocks (k + 1) ≡ length (block_body (get_or blocks k []))
len_before-next blocks k = let next : k + 1 ≡ suc k = omega arith in ap (len_before blocks) next

pub scanned-all : {S : Type 0} (told : S → Option (List ℕ)) (table : Table S) (all : List Entry) (stands : Represents told table all) (number : ℕ) (entries : List Entry)
    → length table.indexed.index ≤ number → entries ≡ items_of (take number stands.blocks) → all ≡ entries
scanned-all told table all stands number entries past listed =
    let whole : take number stands.blocks ≡ stands.blocks = take_all number stands.blocks (omega (arith, ap length stands.index, length-handles_from 0 stands.blocks)) in
    sym (listed ∙ ap items_of whole ∙ stands.parts.listed.whole)

-- where all blocks are read, the bytes of a file that was loaded are a table
pub scanned-whole : {S : Type 0} (told : Option (List ℕ)) (table : Table S) (k : ℕ) (entries : List Entry) (len : ℕ) → length table.indexed.index ≤ k → AreCounted table.indexed.footer entries
    → Lined told table k entries len
    → Under told table.indexed.file.len (λ bytes. IsRead table.indexed.file.id bytes table → IsTableBut bytes table.indexed.footer.low table.indexed.footer.high entries table.filter)
scanned-whole told table k entries len past counted l =
    under_then told table.indexed.file.len (λ bytes. AreRead table.indexed.file.id bytes 0 (take k table.indexed.index) l.blocks × AreHeaded (take k table.indexed.index) l.blocks)
    (λ bytes. IsRead table.indexed.file.id bytes table → IsTableBut bytes table.indexed.footer.low table.indexed.footer.high entries table.filter)
    (λ bytes here h is.
    let all = take_all k table.indexed.index past in
    is-whole table.indexed.file.id bytes table entries l.blocks is (subst (λ ps. AreRead table.indexed.file.id bytes 0 ps l.blocks) all h.0)
    (subst (λ ps. AreHeaded ps l.blocks) all h.1) l.filled l.are l.rising counted)
    (under_both told table.indexed.file.len (λ bytes. AreRead table.indexed.file.id bytes 0 (take k table.indexed.index) l.blocks) (λ bytes. AreHeaded (take k table.indexed.index) l.blocks) l.read l.headed)
