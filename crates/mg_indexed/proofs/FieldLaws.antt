-- The fields of a handle and of a footer.
use Rattle.std.proofs.Common.{◌≡◌, ℕ, ◌+◌, ◌-◌, ◌<◌, ◌≤◌, ◌^◌, List, [], ◌∷◌, ◌++◌, length, take, drop, refl, sym, ap, ◌∙◌, arith, append_assoc, subst, Bool, true, false, Option, Some, None, Result, Err}
use Rattle.std.proofs.lemmas.List.{append-nil, length-append, drop_at, take_all, take_at}
use Rattle.std.proofs.lemmas.Bool.{false≢true}
use Rattle.std.proofs.Math.Nat.{mod-eq_of_lt}
use Rattle.std.specs.Prelude.{is_some, slice_get}
use Rattle.mg_frame.specs.BigEndian.{big_endian, big_endian_value}
use Rattle.mg_frame.proofs.BigEndianLaws.{length-big_endian, big_endian_value-big_endian}
use Rattle.mg_frame.proofs.SplitLaws.{one_number}
use Rattle.mg_types.specs.declared.faults.Fault.{Fault}
use Rattle.mg_types.specs.declared.names.FileId.{FileId}
use Rattle.mg_sealed.specs.Footer.{said_blocks}
use Rattle.mg_sealed.specs.Numbers.{AreKept}
use Rattle.mg_indexed.specs.Footer.{counts_bytes, filter_field, footer_bytes, footer_numbers, footer_size, offset_of, offsets_bytes, others, span_bytes, IsFooter, IsInFields}
use Rattle.mg_indexed.specs.Forms.{Form}
use Rattle.mg_indexed.specs.Index.{first_after, handle_bytes, item_bytes, BeginsWithHandle, FitsFields, IsHandleAt}
use Rattle.mg_indexed.specs.Keys.{Keys, IsLawful, IsReading, IsSpelled}
use Rattle.mg_indexed.specs.declared.footer.Footer.{Footer}
use Rattle.mg_indexed.specs.declared.handle.BlockHandle.{BlockHandle}

-- ---- a handle

-- the fields of a handle, from left to right
pub item_right : (first : List ℕ) (at len : ℕ) (rest : List ℕ) → item_bytes first at len ++ rest ≡ first ++ (big_endian 8 at ++ (big_endian 4 len ++ rest))
item_right first at len rest =
    append_assoc first (big_endian 8 at ++ big_endian 4 len) rest ∙ ap (λ (xs : List ℕ). first ++ xs) (append_assoc (big_endian 8 at) (big_endian 4 len) rest)

pub length-item_bytes : (first : List ℕ) (at len : ℕ) → length (item_bytes first at len) ≡ length first + 12
length-item_bytes first at len =
    omega (
      arith,
      length-append first (big_endian 8 at ++ big_endian 4 len),
      length-append (big_endian 8 at) (big_endian 4 len),
      length-big_endian 8 at,
      length-big_endian 4 len,
    )

handle_from : {K : Type 0} → K → ℕ → ℕ → BlockHandle K
handle_from first at len = record { first = first; at = at; len = len }

pub handle_is : {K : Type 0} (handle other : BlockHandle K) → handle.first ≡ other.first → handle.at ≡ other.at → handle.len ≡ other.len → handle ≡ other
unfolding handle_from
handle_is handle other first at len = let e : handle_from handle.first handle.at handle.len ≡ handle_from other.first other.at other.len = cc in e

-- bytes begin with one handle
pub one_handle : {K : Type 0} (keys : Keys K) → IsLawful keys → (handle other : BlockHandle K) (rest rest' : List ℕ) → FitsFields keys handle → FitsFields keys other
    → handle_bytes keys handle ++ rest ≡ handle_bytes keys other ++ rest' → (handle ≡ other) × (rest ≡ rest')
one_handle keys lawful handle other rest rest' fits fits' same =
    let regrouped = sym (item_right (keys.bytes handle.first) handle.at handle.len rest) ∙ same ∙ item_right (keys.bytes other.first) other.at other.len rest' in
    let first = lawful.one_spelling handle.first other.first (big_endian 8 handle.at ++ (big_endian 4 handle.len ++ rest)) (big_endian 8 other.at ++ (big_endian 4 other.len ++ rest')) fits.first fits'.first regrouped in
    let at = one_number 8 handle.at other.at (big_endian 4 handle.len ++ rest) (big_endian 4 other.len ++ rest') (omega (arith, fits.at)) (omega (arith, fits'.at)) first.1 in
    let len = one_number 4 handle.len other.len rest rest' (omega (arith, fits.len)) (omega (arith, fits'.len)) at.1 in
    (handle_is handle other first.0 at.0 len.0, len.1)

-- a handle that may stand in an index fits its fields
pub fits_fields : {K : Type 0} (keys : Keys K) (form : Form) → IsLawful keys → (previous : K) (at : ℕ) (handle : BlockHandle K) → IsHandleAt keys form previous at handle → FitsFields keys handle
fits_fields keys form lawful previous at handle is = record {
  first = lawful.follows_fits previous handle.first is.0;
  at = omega (arith, is.1, is.2);
  len = is.3.2;
}

-- ---- a footer

pub footer_fits : (filtered : Bool) (footer : Footer) → IsFooter filtered footer → IsInFields filtered footer
footer_fits filtered footer is = record {
  count = omega (arith, is.count);
  sum = omega (arith, is.sum);
  low = omega (arith, is.low);
  high = omega (arith, is.high);
  index_at = omega (arith, is.index_at);
  filter_at = omega (arith, is.filter_at);
  blocks = is.blocks;
  form = is.form;
}

pub footer_kept : (filtered : Bool) (footer : Footer) → IsFooter filtered footer → AreKept (footer_numbers footer)
footer_kept filtered footer is = (is.count, (is.sum, (is.low, (is.high, (is.index_at, (is.filter_at, tt))))))

footer_from : ℕ → ℕ → ℕ → ℕ → ℕ → Option ℕ → ℕ → Footer
footer_from count sum low high index_at filter_at blocks =
    record { count = count; sum = sum; low = low; high = high; index_at = index_at; filter_at = filter_at; blocks = blocks }

pub footer_is : (footer other : Footer) → footer.count ≡ other.count → footer.sum ≡ other.sum → footer.low ≡ other.low → footer.high ≡ other.high → footer.index_at ≡ other.index_at
    → footer.filter_at ≡ other.filter_at → footer.blocks ≡ other.blocks → footer ≡ other
unfolding footer_from
footer_is footer other a b c d e f g =
    let same : footer_from footer.count footer.sum footer.low footer.high footer.index_at footer.filter_at footer.blocks
    ≡ footer_from other.count other.sum other.low other.high other.index_at other.filter_at other.blocks = cc in same

length-filter_field : (filtered : Bool) (filter_at : Option ℕ) → is_some filter_at ≡ filtered → length (filter_field filter_at) + 65 ≡ footer_size filtered
length-filter_field true (Some at) is = omega (arith, length-big_endian 8 at)
length-filter_field false (Some at) is = absurd cc
length-filter_field true None is = absurd cc
length-filter_field false None is = refl

-- the body of a footer has 20 bytes fewer than its frame
pub length-footer_bytes : (filtered : Bool) (footer : Footer) → is_some footer.filter_at ≡ filtered → length (footer_bytes footer) + 20 ≡ footer_size filtered
length-footer_bytes filtered footer is =
    let counts = counts_bytes footer.count footer.sum in
    let span = span_bytes footer.low footer.high in
    let offsets = offsets_bytes footer.index_at footer.filter_at footer.blocks in
    omega (
      arith,
      length-filter_field filtered footer.filter_at is,
      length-append counts (span ++ offsets),
      length-append span offsets,
      length-append (big_endian 1 1) (big_endian 8 footer.count ++ big_endian 8 footer.sum),
      length-append (big_endian 8 footer.count) (big_endian 8 footer.sum),
      length-append (big_endian 8 footer.low) (big_endian 8 footer.high),
      length-append (big_endian 8 footer.index_at) (filter_field footer.filter_at ++ big_endian 4 footer.blocks),
      length-append (filter_field footer.filter_at) (big_endian 4 footer.blocks),
      length-big_endian 1 1,
      length-big_endian 8 footer.count,
      length-big_endian 8 footer.sum,
      length-big_endian 8 footer.low,
      length-big_endian 8 footer.high,
      length-big_endian 8 footer.index_at,
      length-big_endian 4 footer.blocks,
    )

-- a footer says its number of blocks
pub said_blocks-footer : (footer : Footer) → footer.blocks < 2 ^ 32 → said_blocks (footer_bytes footer) ≡ footer.blocks
unfolding said_blocks
said_blocks-footer footer fits =
    let counts = counts_bytes footer.count footer.sum in
    let span = span_bytes footer.low footer.high in
    let at = big_endian 8 footer.index_at in
    let filter = filter_field footer.filter_at in
    let blocks = big_endian 4 footer.blocks in
    let front = counts ++ (span ++ (at ++ filter)) in
    let four = length-big_endian 4 footer.blocks in
    let split : footer_bytes footer ≡ front ++ blocks =
    sym (append_assoc counts (span ++ (at ++ filter)) blocks
    ∙ ap (λ (xs : List ℕ). counts ++ xs) (append_assoc span (at ++ filter) blocks ∙ ap (λ (xs : List ℕ). span ++ xs) (append_assoc at filter blocks))) in
    let place : length (front ++ blocks) - 4 ≡ length front = omega (arith, length-append front blocks, four) in
    let tail : drop (length (front ++ blocks) - 4) (front ++ blocks) ≡ blocks = ap (λ n. drop n (front ++ blocks)) place ∙ drop_at front blocks (length front) refl in
    ap (λ (bytes : List ℕ). big_endian_value (take 4 (drop (length bytes - 4) bytes))) split
    ∙ ap big_endian_value (ap (take 4) tail ∙ take_all 4 blocks (omega (arith, four)))
    ∙ big_endian_value-big_endian 4 footer.blocks
    ∙ mod-eq_of_lt fits

pub none_left : (xs : List ℕ) → length xs ≡ 0 → xs ≡ []
none_left [] none = refl
none_left (x ∷ xs) none = absurd (omega (arith, none))

-- the fields of a footer, from left to right
pub footer_parts : (footer : Footer) → footer_bytes footer
    ≡ counts_bytes footer.count footer.sum ++ (span_bytes footer.low footer.high ++ (offsets_bytes footer.index_at footer.filter_at footer.blocks ++ []))
footer_parts footer =
    let offsets = offsets_bytes footer.index_at footer.filter_at footer.blocks in
    ap (λ (xs : List ℕ). counts_bytes footer.count footer.sum ++ (span_bytes footer.low footer.high ++ xs)) (sym (append-nil offsets))

-- ---- what is split

-- what follows the first key of a handle that bytes begin with
pub behind_first : {K : Type 0} (keys : Keys K) → IsLawful keys → (bytes first behind : List ℕ) (handle : BlockHandle K) (rest : List ℕ) → IsSpelled keys first → bytes ≡ first ++ behind
    → BeginsWithHandle keys bytes handle rest → behind ≡ big_endian 8 handle.at ++ (big_endian 4 handle.len ++ rest)
behind_first keys lawful bytes first behind handle rest spelled split begins =
    let tail = big_endian 8 handle.at ++ (big_endian 4 handle.len ++ rest) in
    let same : keys.bytes spelled.0 ++ behind ≡ keys.bytes handle.first ++ tail =
    ap (λ (xs : List ℕ). xs ++ behind) (sym spelled.2) ∙ sym split ∙ begins.1 ∙ item_right (keys.bytes handle.first) handle.at handle.len rest in
    (lawful.one_spelling spelled.0 handle.first behind tail spelled.1 begins.0.first same).1

-- bytes that are split behind what they begin with
pub split_front : (xs rest bytes front back : List ℕ) (n : ℕ) → bytes ≡ xs ++ rest → length xs ≡ n → front ≡ take n bytes → back ≡ drop n bytes → (front ≡ xs) × (bytes ≡ front ++ back)
split_front xs rest bytes front back n is long first second =
    let here : front ≡ xs = first ∙ ap (take n) is ∙ take_at xs rest n long in
    let behind : back ≡ rest = second ∙ ap (drop n) is ∙ drop_at xs rest n long in
    (here, is ∙ ap (λ (ys : List ℕ). ys ++ rest) (sym here) ∙ ap (λ (ys : List ℕ). front ++ ys) (sym behind))

-- a reading that is refused
pub reading_err : {K : Type 0} (keys : Keys K) (id : FileId) (at : ℕ) (previous : K) (bytes : List ℕ) (result : Result K Fault) (fault : Fault) → result ≡ Err fault
    → (let answer : Result K Fault = Err fault in IsReading keys id at previous bytes answer) → IsReading keys id at previous bytes result
reading_err {K} keys id at previous bytes result fault is h = subst (λ (r : Result K Fault). IsReading keys id at previous bytes r) (sym is) h

-- ---- the last handle

last_at : {K : Type 0} (previous : K) (x : BlockHandle K) (xs : List (BlockHandle K)) (handle : BlockHandle K) → Some handle ≡ slice_get (x ∷ xs) (length xs) → handle.first ≡ first_after previous (x ∷ xs)
last_at {K} previous x [] handle is = let same : handle ≡ x = cc in ap (λ (h : BlockHandle K). h.first) same
last_at previous x (y ∷ xs) handle is = last_at x.first y xs handle is

-- the first key of the last handle
pub last_is : {K : Type 0} (previous : K) (handles : List (BlockHandle K)) (handle : BlockHandle K) → Some handle ≡ slice_get handles (length handles - 1) → handle.first ≡ first_after previous handles
last_is previous [] handle is = absurd cc
last_is previous (x ∷ xs) handle is =
    let count : length (x ∷ xs) - 1 ≡ length xs = omega arith in
    last_at previous x xs handle (is ∙ ap (slice_get (x ∷ xs)) count)

-- ---- one footer

pub few_others : (filtered : Bool) → others filtered ≤ 2
few_others true = omega arith
few_others false = omega arith

pub small_footer : (filtered : Bool) → footer_size filtered ≤ 73
small_footer true = omega arith
small_footer false = omega arith

one_filter_at : (filtered : Bool) (one other : Option ℕ) (rest rest' : List ℕ) → is_some one ≡ filtered → is_some other ≡ filtered → offset_of one < 2 ^ 64 → offset_of other < 2 ^ 64
    → filter_field one ++ rest ≡ filter_field other ++ rest' → (one ≡ other) × (rest ≡ rest')
one_filter_at filtered None None rest rest' is is' fits fits' same = (refl, same)
one_filter_at filtered None (Some b) rest rest' is is' fits fits' same = let e : false ≡ true = is ∙ sym is' in absurd (false≢true e)
one_filter_at filtered (Some a) None rest rest' is is' fits fits' same = let e : false ≡ true = is' ∙ sym is in absurd (false≢true e)
one_filter_at filtered (Some a) (Some b) rest rest' is is' fits fits' same =
    let one = one_number 8 a b rest rest' (omega (arith, fits)) (omega (arith, fits')) same in
    (ap (λ (n : ℕ). let o : Option ℕ = Some n in o) one.0, one.1)

-- the fields of a footer, one by one
footer_right : (footer : Footer) → footer_bytes footer ≡ big_endian 1 1 ++ (big_endian 8 footer.count ++ (big_endian 8 footer.sum ++ (big_endian 8 footer.low
    ++ (big_endian 8 footer.high ++ (big_endian 8 footer.index_at ++ (filter_field footer.filter_at ++ big_endian 4 footer.blocks))))))
footer_right footer =
    let offsets = offsets_bytes footer.index_at footer.filter_at footer.blocks in
    let behind = span_bytes footer.low footer.high ++ offsets in
    append_assoc (big_endian 1 1) (big_endian 8 footer.count ++ big_endian 8 footer.sum) behind
    ∙ ap (λ (xs : List ℕ). big_endian 1 1 ++ xs) (append_assoc (big_endian 8 footer.count) (big_endian 8 footer.sum) behind
    ∙ ap (λ (xs : List ℕ). big_endian 8 footer.count ++ (big_endian 8 footer.sum ++ xs)) (append_assoc (big_endian 8 footer.low) (big_endian 8 footer.high) offsets))

-- bytes are the body of one footer
pub one_footer : (filtered : Bool) (footer other : Footer) → IsInFields filtered footer → IsInFields filtered other → footer_bytes footer ≡ footer_bytes other → footer ≡ other
one_footer filtered footer other fits fits' is =
    let same = sym (footer_right footer) ∙ is ∙ footer_right other in
    let format = one_number 1 1 1 _ _ (omega arith) (omega arith) same in
    let count = one_number 8 footer.count other.count _ _ (omega (arith, fits.count)) (omega (arith, fits'.count)) format.1 in
    let sum = one_number 8 footer.sum other.sum _ _ (omega (arith, fits.sum)) (omega (arith, fits'.sum)) count.1 in
    let low = one_number 8 footer.low other.low _ _ (omega (arith, fits.low)) (omega (arith, fits'.low)) sum.1 in
    let high = one_number 8 footer.high other.high _ _ (omega (arith, fits.high)) (omega (arith, fits'.high)) low.1 in
    let index_at = one_number 8 footer.index_at other.index_at _ _ (omega (arith, fits.index_at)) (omega (arith, fits'.index_at)) high.1 in
    let filter_at = one_filter_at filtered footer.filter_at other.filter_at (big_endian 4 footer.blocks) (big_endian 4 other.blocks) fits.form fits'.form fits.filter_at fits'.filter_at index_at.1 in
    let blocks = one_number 4 footer.blocks other.blocks [] [] (omega (arith, fits.blocks)) (omega (arith, fits'.blocks))
    (append-nil (big_endian 4 footer.blocks) ∙ filter_at.1 ∙ sym (append-nil (big_endian 4 other.blocks))) in
    footer_is footer other count.0 sum.0 low.0 high.0 index_at.0 filter_at.0 blocks.0
