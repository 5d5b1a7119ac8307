-- A search in a block.
use Rattle.std.proofs.Common.{◌≡◌, ℕ, ◌+◌, ◌<◌, ◌≤◌, ◌⊎◌, List, [], ◌∷◌, ◌++◌, length, get_or, take, drop, eqb, Some, None, refl, sym, ap, subst, ◌∙◌, arith, append_assoc, inl, inr}
use Rattle.std.specs.Prelude.{◌≢◌, ◌-◌}
use Rattle.std.specs.Ordering.{nat_cmp}
use Rattle.std.specs.Cmp.Lexicographic.{slice_cmp}
use Rattle.std.proofs.lemmas.List.{length-append, take-append-drop, append-nil}
use Rattle.std.proofs.lemmas.List.Sums.{common_prefix_len-le}
use Rattle.mg_block.specs.declared.pair.Pair.{Pair}
use Rattle.mg_block.specs.declared.lookup.Place.TheVariants.{Below, Here, Above}
use Rattle.mg_block.specs.Block.{Precedes, shared_len, item_of, RiseAfter, IsBlock, Begins, NextItem}
use Rattle.mg_block.specs.Item.{Extends}
use Rattle.mg_block.specs.Matches.{Matches}
use Rattle.mg_block.specs.Place.{StandsAt}
use Rattle.mg_block.specs.Search.{AreBelow, Finds, Misses, Breaks, payload_of}
use Rattle.mg_block.specs.View.{last_pair}
use Rattle.mg_block.proofs.Order.{Precedes-longer, Precedes-shorter, slice_cmp-front, shared_len-front, take-shared_len, shared_len-comm, Precedes-from_shared, same_from_shared, differs_at_shared, Precedes-trans, greater_from_Precedes, Precedes-from_greater, bytes_eq-below, bytes_eq-above, bytes_eq-same}
use Rattle.mg_block.proofs.Spelling.{pair_from, pair_is, length-item_of, one_list, last_pair_after-push, front_of_block, BreaksAt-not_block}
use Rattle.mg_block.proofs.Views.{Begins-next, Begins-none, BreaksAt-from_none, IsBlock-from_end}

-- ---- where a key stands

pub StandsAt-longer : (previous sought : List ℕ) (shared : ℕ) (rest : List ℕ) (matched : ℕ) → Extends previous shared rest → Matches previous matched sought → matched < shared → StandsAt (Below matched) (take shared previous ++ rest) sought
StandsAt-longer previous sought shared rest matched x m lt =
    let below : Precedes previous sought = elim m.below [ inl e ↦ absurd (omega (arith, x.within, ap length e)) | inr p ↦ p ] in
    let both = Precedes-longer previous sought shared rest x.within below (omega (arith, m.shared)) in
    (both.0, m.shared ∙ both.1)

pub StandsAt-shorter : (previous sought : List ℕ) (shared : ℕ) (rest : List ℕ) (matched : ℕ) → Extends previous shared rest → Matches previous matched sought → shared < matched → StandsAt Above (take shared previous ++ rest) sought
StandsAt-shorter previous sought shared rest matched x m lt = Precedes-shorter previous sought shared rest x (omega (arith, m.shared))

-- as many bytes are shared as before, and of the rest and the sought key's tail so many more
pub record Tail (previous sought rest : List ℕ) (shared matched : ℕ) (tail : List ℕ) (len : ℕ) : Type 0 where
  pub same : shared ≡ matched
  pub matches : Matches previous matched sought
  pub tail_is : tail ≡ drop matched sought
  pub len_is : len ≡ shared_len rest tail

tail_is_here : (previous sought rest : List ℕ) (shared matched : ℕ) (tail : List ℕ) (len : ℕ) → Tail previous sought rest shared matched tail len → (shared ≡ shared_len previous sought) × (tail ≡ drop shared sought)
tail_is_here previous sought rest shared matched tail len t =
    (t.same ∙ t.matches.shared, t.tail_is ∙ ap (λ (n : ℕ). drop n sought) (sym t.same))

order_is : (previous sought rest : List ℕ) (shared : ℕ) (tail : List ℕ) → shared ≡ shared_len previous sought → tail ≡ drop shared sought → slice_cmp nat_cmp (take shared previous ++ rest) sought ≡ slice_cmp nat_cmp rest tail
order_is previous sought rest shared tail e t =
    ap (λ (n : ℕ). slice_cmp nat_cmp (take n previous ++ rest) sought) e ∙ slice_cmp-front previous sought rest
    ∙ ap (λ (n : ℕ). slice_cmp nat_cmp rest (drop n sought)) (sym e) ∙ ap (λ (l : List ℕ). slice_cmp nat_cmp rest l) (sym t)

shared_is : (previous sought rest : List ℕ) (shared : ℕ) (tail : List ℕ) → shared ≡ shared_len previous sought → tail ≡ drop shared sought → shared_len (take shared previous ++ rest) sought ≡ shared + shared_len rest tail
shared_is previous sought rest shared tail e t =
    ap (λ (n : ℕ). shared_len (take n previous ++ rest) sought) e ∙ shared_len-front previous sought rest
    ∙ ap (λ (n : ℕ). n + shared_len rest (drop n sought)) (sym e) ∙ ap (λ (l : List ℕ). shared + shared_len rest l) (sym t)

pub StandsAt-below : (previous sought rest : List ℕ) (shared matched : ℕ) (tail : List ℕ) (len : ℕ) → Tail previous sought rest shared matched tail len → len < length tail → (len ≡ length rest) ⊎ (get_or rest len 0 < get_or tail len 0)
    → StandsAt (Below (matched + len)) (take shared previous ++ rest) sought
StandsAt-below previous sought rest shared matched tail len t lt h =
    let here = tail_is_here previous sought rest shared matched tail len t in
    let before : Precedes rest tail = Precedes-from_shared rest tail (omega (arith, t.len_is)) (subst (λ (n : ℕ). (n ≡ length rest) ⊎ (get_or rest n 0 < get_or tail n 0)) t.len_is h) in
    (order_is previous sought rest shared tail here.0 here.1 ∙ before, omega (arith, shared_is previous sought rest shared tail here.0 here.1, t.len_is, t.same))

pub StandsAt-here : (previous sought rest : List ℕ) (shared matched : ℕ) (tail : List ℕ) (len : ℕ) → Tail previous sought rest shared matched tail len → len ≡ length tail → len ≡ length rest
    → StandsAt Here (take shared previous ++ rest) sought
StandsAt-here previous sought rest shared matched tail len t a b =
    let here = tail_is_here previous sought rest shared matched tail len t in
    let rest-is : rest ≡ drop shared sought = same_from_shared rest tail (omega (arith, t.len_is)) (omega (arith, t.len_is)) ∙ here.1 in
    let front : take shared previous ≡ take shared sought = subst (λ (n : ℕ). take n previous ≡ take n sought) (sym here.0) (take-shared_len previous sought) in
    ap (λ (l : List ℕ). take shared previous ++ l) rest-is ∙ ap (λ (l : List ℕ). l ++ drop shared sought) front ∙ take-append-drop shared sought

pub StandsAt-above : (previous sought rest : List ℕ) (shared matched : ℕ) (tail : List ℕ) (len : ℕ) → Tail previous sought rest shared matched tail len → len < length rest → (len ≡ length tail) ⊎ (get_or tail len 0 < get_or rest len 0)
    → StandsAt Above (take shared previous ++ rest) sought
StandsAt-above previous sought rest shared matched tail len t lt h =
    let here = tail_is_here previous sought rest shared matched tail len t in
    let len-is : len ≡ shared_len tail rest = t.len_is ∙ shared_len-comm rest tail in
    let after : Precedes tail rest = Precedes-from_shared tail rest (omega (arith, len-is)) (subst (λ (n : ℕ). (n ≡ length tail) ⊎ (get_or tail n 0 < get_or rest n 0)) len-is h) in
    Precedes-from_greater sought (take shared previous ++ rest) (order_is previous sought rest shared tail here.0 here.1 ∙ greater_from_Precedes tail rest after)

-- where neither ends and the rest's byte is not below, it is above
pub above_from_not_below : (rest tail : List ℕ) (len : ℕ) → len ≡ shared_len rest tail → len < length rest → len < length tail → get_or tail len 0 ≤ get_or rest len 0 → get_or tail len 0 < get_or rest len 0
above_from_not_below rest tail len e a b h =
    let apart = subst (λ (n : ℕ). n < length rest → n < length tail → get_or rest n 0 ≡ get_or tail n 0 → ⊥) (sym e) (differs_at_shared rest tail) in
    let ne : get_or rest len 0 ≢ get_or tail len 0 = apart a b in
    omega arith

-- ---- the search so far

-- behind pairs of smaller keys, the last of which shares so many bytes with the sought one, the rest begins
pub record Searched (bytes sought key rest : List ℕ) (matched : ℕ) : Type 0 where
  pub before : List Pair
  pub below : AreBelow sought before
  pub begins : Begins bytes before rest
  pub last_key : key ≡ (last_pair before).key
  pub matches : Matches key matched sought

pub Searched-none : (bytes sought key : List ℕ) → key ≡ [] → Searched bytes sought key bytes 0
Searched-none bytes sought key e = record { before = []; below = tt; begins = Begins-none bytes; last_key = e; matches = record { below = inl e; shared = ap (λ (k : List ℕ). shared_len k sought) (sym e) } }

AreBelow-push : (sought : List ℕ) (pairs : List Pair) (pair : Pair) → AreBelow sought pairs → Precedes pair.key sought → AreBelow sought (pairs ++ pair ∷ [])
AreBelow-push sought [] pair h p = (p, tt)
AreBelow-push sought (first ∷ pairs) pair h p = (h.0, AreBelow-push sought pairs pair h.1 p)

pub Searched-more : (bytes sought key rest : List ℕ) (matched : ℕ) → Searched bytes sought key rest matched → (pair : Pair) (after new_key : List ℕ) (longer : ℕ) → NextItem key rest pair after → new_key ≡ pair.key → StandsAt (Below longer) pair.key sought
    → Searched bytes sought new_key after longer
Searched-more bytes sought key rest matched s pair after new_key longer next k place = record {
  before = s.before ++ pair ∷ [];
  below = AreBelow-push sought s.before pair s.below place.0;
  begins = Begins-next bytes s.before rest key pair after s.begins s.last_key next;
  last_key = k ∙ sym (ap (λ (p : Pair). p.key) (last_pair_after-push (pair_from [] []) s.before pair));
  matches = record { below = inr (ap (λ (l : List ℕ). slice_cmp nat_cmp l sought) k ∙ place.0); shared = place.1 ∙ ap (λ (l : List ℕ). shared_len l sought) (sym k) };
}

pub Finds-here : (bytes sought key rest : List ℕ) (matched : ℕ) → Searched bytes sought key rest matched → (pair : Pair) (after payload : List ℕ) → NextItem key rest pair after → pair.key ≡ sought → payload ≡ pair.payload → Finds bytes sought payload
Finds-here bytes sought key rest matched s pair after payload next e p =
    let b = Begins-next bytes s.before rest key pair after s.begins s.last_key next in
    let same : pair ≡ pair_from sought payload = pair_is pair.key sought pair.payload payload e (sym p) in
    record { before = s.before; below = s.below; rest = after; begins = subst (λ (q : Pair). Begins bytes (s.before ++ q ∷ []) after) same b }

pub Misses-above : (bytes sought key rest : List ℕ) (matched : ℕ) → Searched bytes sought key rest matched → (pair : Pair) (after : List ℕ) → NextItem key rest pair after → Precedes sought pair.key → Misses bytes sought
Misses-above bytes sought key rest matched s pair after next h = record {
  before = s.before;
  below = s.below;
  next = inr (pair, after, h, Begins-next bytes s.before rest key pair after s.begins s.last_key next);
}

pub Misses-end : (bytes sought key rest : List ℕ) (matched : ℕ) → Searched bytes sought key rest matched → rest ≡ [] → Misses bytes sought
Misses-end bytes sought key rest matched s e = record {
  before = s.before;
  below = s.below;
  next = inl (IsBlock-from_end bytes s.before (subst (λ (t : List ℕ). Begins bytes s.before t) e s.begins));
}

pub Breaks-here : (bytes sought key rest : List ℕ) (matched : ℕ) → Searched bytes sought key rest matched → 0 < length rest → ((pair : Pair) (after : List ℕ) → NextItem key rest pair after → ⊥) → Breaks bytes sought (length bytes - length rest)
Breaks-here bytes sought key rest matched s more none = record {
  before = s.before;
  below = s.below;
  breaks = BreaksAt-from_none bytes s.before rest key s.begins s.last_key more none;
}

-- ---- the answer in a block is the list's

find_past : (sought : List ℕ) (pairs more : List Pair) → AreBelow sought pairs → payload_of sought (pairs ++ more) ≡ payload_of sought more
find_past sought [] more h = refl
find_past sought (pair ∷ pairs) more h = rw (bytes_eq-below pair.key sought h.0) (find_past sought pairs more h.1)

find_above : (sought previous : List ℕ) (pairs : List Pair) → Precedes sought previous → RiseAfter previous pairs → payload_of sought pairs ≡ None
find_above sought previous [] h r = refl
find_above sought previous (pair ∷ pairs) h r =
    let above : Precedes sought pair.key = Precedes-trans sought previous pair.key h r.0.rises in
    rw (bytes_eq-above pair.key sought above) (find_above sought pair.key pairs above r.1)

RiseAfter-back : (previous : List ℕ) (pairs : List Pair) (pair : Pair) (more : List Pair) → RiseAfter previous (pairs ++ pair ∷ more) → RiseAfter pair.key more
RiseAfter-back previous [] pair more h = h.1
RiseAfter-back previous (first ∷ pairs) pair more h = RiseAfter-back first.key pairs pair more h.1

pub payload_of-Finds : (bytes sought payload : List ℕ) (all : List Pair) → IsBlock bytes all → Finds bytes sought payload → payload_of sought all ≡ Some payload
payload_of-Finds bytes sought payload all b f =
    let pair = pair_from sought payload in
    let front = front_of_block bytes all (f.before ++ pair ∷ []) f.rest b f.begins in
    ap (λ (ps : List Pair). payload_of sought ps) (front.1 ∙ append_assoc f.before (pair ∷ []) front.0)
    ∙ find_past sought f.before (pair ∷ front.0) f.below
    ∙ rw (bytes_eq-same sought) refl

pub payload_of-Misses : (bytes sought : List ℕ) (all : List Pair) → IsBlock bytes all → Misses bytes sought → payload_of sought all ≡ None
payload_of-Misses bytes sought all b m =
    elim m.next [
      | inl end ↦
          ap (λ (ps : List Pair). payload_of sought ps) (one_list bytes all m.before b end ∙ sym (append-nil m.before)) ∙ find_past sought m.before [] m.below
      | inr next ↦
          let pair = next.0 in
          let front = front_of_block bytes all (m.before ++ pair ∷ []) next.1 b next.3 in
          let parts : all ≡ m.before ++ pair ∷ front.0 = front.1 ∙ append_assoc m.before (pair ∷ []) front.0 in
          let rising : RiseAfter pair.key front.0 = RiseAfter-back [] m.before pair front.0 (subst (λ (ps : List Pair). RiseAfter [] ps) parts b.rising) in
          ap (λ (ps : List Pair). payload_of sought ps) parts
          ∙ find_past sought m.before (pair ∷ front.0) m.below
          ∙ rw (bytes_eq-above pair.key sought next.2) (find_above sought pair.key front.0 next.2 rising)
    ]

pub Breaks-no_block : (bytes sought : List ℕ) (at : ℕ) (all : List Pair) → IsBlock bytes all → Breaks bytes sought at → ⊥
Breaks-no_block bytes sought at all b breaks = BreaksAt-not_block bytes breaks.before at all breaks.breaks b

-- ---- bounds of the search

pub Searched-bound : (bytes sought key rest : List ℕ) (matched : ℕ) → Searched bytes sought key rest matched → matched ≤ length sought
Searched-bound bytes sought key rest matched s = omega (arith, s.matches.shared, (common_prefix_len-le eqb key sought).1)

pub NextItem-shorter : (key rest : List ℕ) (pair : Pair) (after : List ℕ) → NextItem key rest pair after → length after < length rest
NextItem-shorter key rest pair after next = omega (arith, ap length next.spelling, length-append (item_of key pair) after, length-item_of key pair)
