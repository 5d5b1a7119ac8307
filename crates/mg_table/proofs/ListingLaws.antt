-- What is listed of a block.
use Rattle.std.proofs.Common.{◌≡◌, ℕ, ◌<◌, ◌≤◌, Bool, true, false, List, [], ◌∷◌, ◌++◌, length, map, refl, sym, ap, subst, ◌∙◌, arith, append_assoc, Result, Ok, Err, IfOk, MatchBool}
use Rattle.std.proofs.lemmas.List.{append-nil, length-append, length-drop, map-append}
use Rattle.std.proofs.lemmas.List.Elements.{All-head, All-push}
use Rattle.std.specs.List.{All}
use Rattle.std.specs.Result.{result_or}
use Rattle.mg_block.specs.Block.{shared_len, Follows, IsBlock}
use Rattle.mg_block.specs.Cursor.{Advances, GoesOn, Reading}
use Rattle.mg_block.specs.View.{last_pair}
use Rattle.mg_block.specs.declared.pair.NotABlock.{NotABlock}
use Rattle.mg_block.specs.declared.pair.Pair.{Pair}
use Rattle.mg_block.proofs.Listing.{Listed, Listed-bound}
use Rattle.mg_block.proofs.Order.{Extends-from_Precedes}
use Rattle.mg_block.proofs.Spelling.{last_pair_after-push, pair_is, RiseAfter-last}
use Rattle.mg_block.specs.Block.{Begins}
use Rattle.mg_types.specs.Bytes.{IsKey}
use Rattle.mg_table.specs.Entries.{pair_of, payload_of}
use Rattle.mg_types.specs.Items.{IsEntry}
use Rattle.mg_types.specs.declared.items.Entry.{Entry}
use Rattle.mg_table.proofs.ReadingLaws.{All-behind}

-- a front of these entries was read and listed behind others
pub record ListsFront (entries : List Entry) (read : List Pair) (before now : List Entry) : Type 0 where
  pub front : List Entry
  pub left : List Entry
  pub parts : entries ≡ front ++ left
  pub read_is : read ≡ map pair_of front
  pub listed : now ≡ before ++ front

-- what the cursor has read are the pairs of entries in range, which are listed behind others
pub record ListsRight (cursor : Reading) (before now : List Entry) : Type 0 where
  pub front : List Entry
  pub each : All IsEntry front
  pub read_is : cursor.read ≡ map pair_of front
  pub listed : now ≡ before ++ front

-- what the cursor has read of a block is listed behind other entries
pub record Lists (block : List ℕ) (cursor : Reading) (before now : List Entry) : Type 0 where
  pub read : Listed block cursor cursor.read
  pub right : ListsRight cursor before now
  pub in_block : (entries : List Entry) → All IsEntry entries → IsBlock block (map pair_of entries) → ListsFront entries cursor.read before now

-- the pair that was read last is that of an entry, with which one more of the entries is listed
pub record NextEntry (entries : List Entry) (read : List Pair) (before now : List Entry) : Type 0 where
  pub entry : Entry
  pub is : IsEntry entry
  pub last : last_pair read ≡ pair_of entry
  pub front : ListsFront entries read before (now ++ entry ∷ [])

abbrev pub no_pair : Pair
no_pair = record { key = []; payload = [] }

pub or-ok : {T D E : Type 0} (r : Result T D) (e : E) (x : T) → result_or r (Err e) ≡ Ok x → r ≡ Ok x
or-ok (Ok y) e x same = let v : y ≡ x = cc in cc
or-ok (Err d) e x same = absurd cc

pub advances : (old new : Reading) (result : Result Bool NotABlock) → result ≡ Ok true
    → IfOk result (λ more. MatchBool more (Advances old new) (IsBlock old.bytes old.read × (new ≡ old))) → Advances old new
advances old new result is known = subst (λ r. IfOk r (λ more. MatchBool more (Advances old new) (IsBlock old.bytes old.read × (new ≡ old)))) is known

-- the key that was read last is one of a mutation
pub key-read : (old new : Reading) → Advances old new → IsKey (last_pair new.read).key
key-read old new a =
    let begins = subst (λ ps. Begins new.bytes ps a.rest) a.read a.begins in
    let follows : Follows (last_pair old.read).key a.pair = RiseAfter-last no_pair old.read a.pair begins.rising in
    let last : last_pair new.read ≡ a.pair = ap last_pair a.read ∙ last_pair_after-push no_pair old.read a.pair in
    let more = (Extends-from_Precedes (last_pair old.read).key a.pair.key follows.rises follows.key).more in
    subst (λ (p : Pair). IsKey p.key) (sym last)
    (omega (arith, length-drop (shared_len (last_pair old.read).key a.pair.key) a.pair.key), follows.key)

in-front : (block : List ℕ) (old : Reading) (entries front left : List Entry) → old.bytes ≡ block → old.read ≡ map pair_of front → entries ≡ front ++ left
    → IsBlock block (map pair_of entries) → IsBlock old.bytes (old.read ++ map pair_of left)
in-front block old entries front left bytes read parts is =
    let same : map pair_of entries ≡ old.read ++ map pair_of left =
    ap (map pair_of) parts ∙ map-append pair_of front left ∙ ap (λ ps. ps ++ map pair_of left) (sym read) in
    subst (λ b. IsBlock b (old.read ++ map pair_of left)) (sym bytes) (subst (λ ps. IsBlock block ps) same is)

next-of : (old new : Reading) (before now entries front left : List Entry) (result : Result Bool NotABlock) → result ≡ Ok true → GoesOn old (map pair_of left) result new
    → entries ≡ front ++ left → old.read ≡ map pair_of front → now ≡ before ++ front → All IsEntry entries → NextEntry entries new.read before now
next-of old new before now entries front [] result is goes parts read listed each = absurd cc
next-of old new before now entries front (entry ∷ left) result is goes parts read listed each = record {
  entry = entry;
  is = All-head IsEntry entry left (All-behind IsEntry front (entry ∷ left) (subst (All IsEntry) parts each));
  last = ap last_pair goes.1 ∙ last_pair_after-push no_pair old.read (pair_of entry);
  front = record {
    front = front ++ entry ∷ [];
    left = left;
    parts = parts ∙ sym (append_assoc front (entry ∷ []) left);
    read_is = goes.1 ∙ ap (λ ps. ps ++ pair_of entry ∷ []) read ∙ sym (map-append pair_of front (entry ∷ []));
    listed = ap (λ es. es ++ entry ∷ []) listed ∙ append_assoc before front (entry ∷ []);
  };
}

pub next-entry : (block : List ℕ) (old new : Reading) (before now : List Entry) (result : Result Bool NotABlock) → Lists block old before now → result ≡ Ok true
    → ((left : List Pair) → IsBlock old.bytes (old.read ++ left) → GoesOn old left result new) → (entries : List Entry) → All IsEntry entries
    → IsBlock block (map pair_of entries) → NextEntry entries new.read before now
next-entry block old new before now result lists is goes entries each block_is =
    let f = lists.in_block entries each block_is in
    next-of old new before now entries f.front f.left result is
    (goes (map pair_of f.left) (in-front block old entries f.front f.left lists.read.bytes f.read_is f.parts block_is))
    f.parts f.read_is f.listed each

end-of : (old new : Reading) (before now entries front left : List Entry) (result : Result Bool NotABlock) → result ≡ Ok false → GoesOn old (map pair_of left) result new
    → entries ≡ front ++ left → now ≡ before ++ front → now ≡ before ++ entries
end-of old new before now entries front [] result is goes parts listed = listed ∙ ap (λ es. before ++ es) (sym (parts ∙ append-nil front))
end-of old new before now entries front (entry ∷ left) result is goes parts listed = let e = goes.0 in absurd cc

-- where no pair is left, all entries are listed
pub all-listed : (block : List ℕ) (old new : Reading) (before now : List Entry) (result : Result Bool NotABlock) → Lists block old before now → result ≡ Ok false
    → ((left : List Pair) → IsBlock old.bytes (old.read ++ left) → GoesOn old left result new) → (entries : List Entry) → All IsEntry entries
    → IsBlock block (map pair_of entries) → now ≡ before ++ entries
all-listed block old new before now result lists is goes entries each block_is =
    let f = lists.in_block entries each block_is in
    end-of old new before now entries f.front f.left result is
    (goes (map pair_of f.left) (in-front block old entries f.front f.left lists.read.bytes f.read_is f.parts block_is)) f.parts f.listed

pub read-more : (block : List ℕ) (old new : Reading) → Listed block old old.read → Advances old new → Listed block new new.read
read-more block old new listed a =
    let bytes : new.bytes ≡ block = a.bytes ∙ listed.bytes in
    record { bytes = bytes; read = refl; rest = a.rest; begins = subst (λ b. Begins b new.read a.rest) bytes a.begins }

-- one entry more is listed
pub right-more : (old new : Reading) (before now more : List Entry) (entry : Entry) → ListsRight old before now → Advances old new → more ≡ now ++ entry ∷ [] → IsEntry entry
    → entry.key ≡ (last_pair new.read).key → payload_of entry ≡ (last_pair new.read).payload → ListsRight new before more
right-more old new before now more entry right a put is key payload =
    let last : last_pair new.read ≡ a.pair = ap last_pair a.read ∙ last_pair_after-push no_pair old.read a.pair in
    let same : pair_of entry ≡ a.pair =
    pair_is entry.key a.pair.key (payload_of entry) a.pair.payload (key ∙ ap (λ (p : Pair). p.key) last) (payload ∙ ap (λ (p : Pair). p.payload) last) in
    record {
      front = right.front ++ entry ∷ [];
      each = All-push IsEntry right.front entry right.each is;
      read_is = a.read ∙ ap (λ ps. ps ++ a.pair ∷ []) right.read_is ∙ ap (λ (p : Pair). map pair_of right.front ++ p ∷ []) (sym same)
          ∙ sym (map-append pair_of right.front (entry ∷ []));
      listed = put ∙ ap (λ es. es ++ entry ∷ []) right.listed ∙ append_assoc before right.front (entry ∷ []);
    }

pub Lists-more : (block : List ℕ) (old new : Reading) (before now more : List Entry) (entry : Entry) → Lists block old before now → Advances old new → more ≡ now ++ entry ∷ []
    → IsEntry entry → entry.key ≡ (last_pair new.read).key → payload_of entry ≡ (last_pair new.read).payload
    → ((entries : List Entry) → All IsEntry entries → IsBlock block (map pair_of entries) → (next : NextEntry entries new.read before now) × (entry ≡ next.entry))
    → Lists block new before more
Lists-more block old new before now more entry lists a is right key payload next = record {
  read = read-more block old new lists.read a;
  right = right-more old new before now more entry lists.right a is right key payload;
  in_block = λ entries each block_is.
      let n = next entries each block_is in
      let same : now ++ n.0.entry ∷ [] ≡ more = ap (λ e. now ++ e ∷ []) (sym n.1) ∙ sym is in
      subst (λ es. ListsFront entries new.read before es) same n.0.front;
}

pub reads-fewer : (block : List ℕ) (old new : Reading) → Listed block old old.read → Advances old new → (length old.read < length new.read) × (length new.read ≤ length block)
reads-fewer block old new listed a =
    let bound = Listed-bound block new new.read (read-more block old new listed a) in
    (omega (arith, ap length a.read, length-append old.read (a.pair ∷ [])), bound)
