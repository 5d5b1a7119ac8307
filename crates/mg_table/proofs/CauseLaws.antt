-- Why a key is not found, or a table is not listed, and what is read of its blocks.
use Rattle.std.proofs.Common.{◌≡◌, ℕ, ◌+◌, ◌<◌, ◌⊎◌, suc, Bool, false, List, [], ◌∷◌, ◌++◌, length, get_or, map, refl, ap, subst, ◌∙◌, inl, inr, arith, Option, Some, None, Result, Ok, Err, IfOk, MatchBool, MatchOption}
use Rattle.std.proofs.lemmas.List.Elements.{at_read}
use Rattle.std.specs.List.{All}
use Rattle.mg_block.specs.Block.{Begins, IsBlock}
use Rattle.mg_block.specs.Cursor.{Advances, Reading}
use Rattle.mg_block.specs.Search.{Finds, Misses}
use Rattle.mg_block.specs.View.{last_pair}
use Rattle.mg_block.specs.declared.pair.NotABlock.{NotABlock}
use Rattle.mg_block.specs.declared.pair.Pair.{Pair}
use Rattle.mg_block.proofs.Spelling.{last_pair_after-push}
use Rattle.mg_frame.specs.Frame.{StandsAt}
use Rattle.mg_types.specs.declared.faults.Fault.{Fault}
use Rattle.mg_types.specs.declared.faults.Fault.TheVariants.{NoMemory}
use Rattle.mg_types.specs.declared.names.FileId.{FileId}
use Rattle.mg_sealed.specs.Answers.{Answers, IsOutside}
use Rattle.mg_table.specs.Entries.{block_body, pair_of, payload_of, AreEntries}
use Rattle.mg_types.specs.Items.{IsEntry}
use Rattle.mg_table.specs.Reading.{read_at, AreRead, HasBody, IsBlockRefused, IsFindRead, IsFindRefused, IsListUnfit, IsPayloadRefused, IsRefusedAt, BeginsWithKey, IsFindUnfit, IsSoughtIn}
use Rattle.mg_types.specs.declared.items.Entry.{Entry}
use Rattle.mg_indexed.specs.declared.handle.BlockHandle.{BlockHandle}
use Rattle.mg_table.specs.declared.table.Table.{Table}
use Rattle.mg_table.proofs.ListingLaws.{Lists, no_pair}
use Rattle.mg_indexed.proofs.LoadingSteps.{Under, under_then}

-- ---- a block

-- what is said of a block's body
abbrev pub OfBody : Type 1
OfBody = BlockHandle (List ℕ) → List ℕ → Fault → Type 0

pub frame_refused : {S : Type 0} (told : Option (List ℕ)) (table : Table S) (k : ℕ) (handle : BlockHandle (List ℕ)) (Unfit : OfBody) (fault : Fault) → k < length table.indexed.index
    → handle ≡ get_or table.indexed.index k handle → Under told table.indexed.file.len (λ bytes. Answers (read_at table.indexed.file.id bytes handle k) (Err fault))
    → Under told table.indexed.file.len (λ bytes. IsOutside fault ⊎ IsBlockRefused table bytes k Unfit fault)
frame_refused told table k handle Unfit fault within there known =
    under_then told table.indexed.file.len (λ bytes. Answers (read_at table.indexed.file.id bytes handle k) (Err fault)) (λ bytes. IsOutside fault ⊎ IsBlockRefused table bytes k Unfit fault)
    (λ bytes same h. elim h [
      | inl outside ↦ inl outside
      | inr is ↦ inr (within, at_read table.indexed.index (IsRefusedAt table.indexed.file.id bytes k Unfit fault) k handle within there (inl is))
    ]) known

pub body_refused : {S : Type 0} (told : Option (List ℕ)) (table : Table S) (k : ℕ) (handle : BlockHandle (List ℕ)) (Unfit : OfBody) (fault : Fault) (frame : List ℕ) → k < length table.indexed.index
    → handle ≡ get_or table.indexed.index k handle → (fault ≡ NoMemory) ⊎ Unfit handle frame fault → Under told table.indexed.file.len (λ bytes. read_at table.indexed.file.id bytes handle k ≡ Ok frame)
    → Under told table.indexed.file.len (λ bytes. IsOutside fault ⊎ IsBlockRefused table bytes k Unfit fault)
body_refused told table k handle Unfit fault frame within there why known =
    under_then told table.indexed.file.len (λ bytes. read_at table.indexed.file.id bytes handle k ≡ Ok frame) (λ bytes. IsOutside fault ⊎ IsBlockRefused table bytes k Unfit fault)
    (λ bytes same h. elim why [
      | inl memory ↦ inl (inl memory)
      | inr unfit ↦ inr (within, at_read table.indexed.index (IsRefusedAt table.indexed.file.id bytes k Unfit fault) k handle within there (inr (frame, h, unfit)))
    ]) known

-- a block that is refused keeps its table from finding a key
pub find_refused : {S : Type 0} (told : Option (List ℕ)) (table : Table S) (key : List ℕ) (k : ℕ) (fault : Fault) → IsSoughtIn table key k
    → Under told table.indexed.file.len (λ bytes. IsOutside fault ⊎ IsBlockRefused table bytes k (λ (p : BlockHandle (List ℕ)) body. IsFindUnfit table.indexed.file.id p body key) fault)
    → Under told table.indexed.file.len (λ bytes. IsOutside fault ⊎ IsFindRefused table bytes key fault)
find_refused told table key k fault sought known =
    under_then told table.indexed.file.len (λ bytes. IsOutside fault ⊎ IsBlockRefused table bytes k (λ (p : BlockHandle (List ℕ)) body. IsFindUnfit table.indexed.file.id p body key) fault)
    (λ bytes. IsOutside fault ⊎ IsFindRefused table bytes key fault)
    (λ bytes same h. elim h [ inl outside ↦ inl outside | inr is ↦ inr (k, sought, is) ]) known

-- what is so of the body that was read is so of a body at the handle in the index
body-at : {S : Type 0} (table : Table S) (bytes : List ℕ) (k : ℕ) (handle : BlockHandle (List ℕ)) (frame : List ℕ) (P : List ℕ → Type 0) → k < length table.indexed.index
    → handle ≡ get_or table.indexed.index k handle → read_at table.indexed.file.id bytes handle k ≡ Ok frame → BeginsWithKey frame handle.first → P frame → HasBody table bytes k P
body-at table bytes k handle frame P within there read begins is =
    at_read table.indexed.index (λ (p : BlockHandle (List ℕ)). (body : List ℕ) × (read_at table.indexed.file.id bytes p k ≡ Ok body) × BeginsWithKey body p.first × P body) k handle within there
    (frame, read, begins, is)

pub find_read : {S : Type 0} (told : Option (List ℕ)) (table : Table S) (key : List ℕ) (k : ℕ) (handle : BlockHandle (List ℕ)) (frame : List ℕ) (found : Option Entry) → IsSoughtIn table key k
    → handle ≡ get_or table.indexed.index k handle → BeginsWithKey frame handle.first
    → MatchOption found (Misses frame key) (λ entry. (entry.key ≡ key) × IsEntry entry × Finds frame key (payload_of entry))
    → Under told table.indexed.file.len (λ bytes. read_at table.indexed.file.id bytes handle k ≡ Ok frame) → Under told table.indexed.file.len (λ bytes. IsFindRead table bytes key found)
find_read told table key k handle frame None sought there begins misses read =
    under_then told table.indexed.file.len (λ bytes. read_at table.indexed.file.id bytes handle k ≡ Ok frame) (λ bytes. IsFindRead table bytes key None)
    (λ bytes same h. inr (k, sought, body-at table bytes k handle frame (λ body. Misses body key) sought.within there h begins misses)) read
find_read told table key k handle frame (Some entry) sought there begins is read =
    under_then told table.indexed.file.len (λ bytes. read_at table.indexed.file.id bytes handle k ≡ Ok frame) (λ bytes. IsFindRead table bytes key (Some entry))
    (λ bytes same h. (is.0, is.1, (k, sought, body-at table bytes k handle frame (λ body. Finds body key (payload_of entry)) sought.within there h begins is.2))) read

-- ---- what is listed of a block

pub list-refused : (id : FileId) (at : ℕ) (block : List ℕ) (old new : Reading) (before now : List Entry) (payload : List ℕ) (fault : Fault) → Lists block old before now
    → Advances old new → payload ≡ (last_pair new.read).payload → IsPayloadRefused id at payload fault → IsListUnfit id at block fault
list-refused id at block old new before now payload fault lists a is refused =
    let right = lists.right in
    let last : last_pair new.read ≡ a.pair = ap last_pair a.read ∙ last_pair_after-push no_pair old.read a.pair in
    let front : new.read ≡ map pair_of right.front ++ a.pair ∷ [] = a.read ∙ ap (λ ps. ps ++ a.pair ∷ []) right.read_is in
    let begins : Begins block (map pair_of right.front ++ a.pair ∷ []) a.rest =
    subst (λ ps. Begins block ps a.rest) front (subst (λ bs. Begins bs new.read a.rest) (a.bytes ∙ lists.read.bytes) a.begins) in
    (right.front, right.each, inr (a.pair, a.rest, begins, subst (λ p. IsPayloadRefused id at p fault) (is ∙ ap (λ (p : Pair). p.payload) last) refused))

-- where no pair is left, the bytes are the block of the pairs that were read
pub at-end : (old new : Reading) (result : Result Bool NotABlock) → result ≡ Ok false
    → IfOk result (λ more. MatchBool more (Advances old new) (IsBlock old.bytes old.read × (new ≡ old))) → IsBlock old.bytes old.read
at-end old new result is known = (subst (λ r. IfOk r (λ more. MatchBool more (Advances old new) (IsBlock old.bytes old.read × (new ≡ old)))) is known).0

-- where the cursor ends, the block is that of the entries listed
pub list-read : (block : List ℕ) (cursor : Reading) (before now : List Entry) → Lists block cursor before now → IsBlock cursor.bytes cursor.read
    → (listed : List Entry) × (now ≡ before ++ listed) × IsBlock block (map pair_of listed) × All IsEntry listed
list-read block cursor before now lists is =
    let right = lists.right in
    (right.front, right.listed, subst (λ ps. IsBlock block ps) right.read_is (subst (λ bs. IsBlock bs cursor.read) lists.read.bytes is), right.each)

-- ---- all blocks

-- the block of this number is read, and stands there as a frame
abbrev pub IsReadAt : FileId → List ℕ → BlockHandle (List ℕ) → List Entry → ℕ → Type 0
IsReadAt id bytes handle block number = (read_at id bytes handle number ≡ Ok (block_body block)) × StandsAt bytes handle.at (number, block_body block)

pub read-push : (id : FileId) (bytes : List ℕ) (n : ℕ) (handles : List (BlockHandle (List ℕ))) (blocks : List (List Entry)) (handle : BlockHandle (List ℕ)) (block : List Entry) → AreRead id bytes n handles blocks
    → IsReadAt id bytes handle block (n + length handles) → AreEntries block → AreRead id bytes n (handles ++ handle ∷ []) (blocks ++ block ∷ [])
read-push id bytes n [] [] handle block are read is =
    let here = subst (IsReadAt id bytes handle block) (omega arith) read in
    (here.0, here.1, is, tt)
read-push id bytes n [] (other ∷ blocks) handle block are read is = absurd are
read-push id bytes n (p ∷ handles) [] handle block are read is = absurd are
read-push id bytes n (p ∷ handles) (other ∷ blocks) handle block are read is =
    (are.0, are.1, are.2, read-push id bytes (n + 1) handles blocks handle block are.3 (subst (IsReadAt id bytes handle block) (omega arith) read) is)

pub read-length : (id : FileId) (bytes : List ℕ) (n : ℕ) (handles : List (BlockHandle (List ℕ))) (blocks : List (List Entry)) → AreRead id bytes n handles blocks → length blocks ≡ length handles
read-length id bytes n [] [] are = refl
read-length id bytes n [] (block ∷ blocks) are = absurd are
read-length id bytes n (handle ∷ handles) [] are = absurd are
read-length id bytes n (handle ∷ handles) (block ∷ blocks) are = ap suc (read-length id bytes (n + 1) handles blocks are.3)
