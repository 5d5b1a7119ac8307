-- The handles of an index, from the front of its body on.
use Rattle.std.proofs.Common.{◌≡◌, ℕ, ◌+◌, ◌*◌, ◌<◌, ◌≤◌, ◌^◌, ◌⊎◌, List, [], ◌∷◌, ◌++◌, length, refl, sym, ap, ◌∙◌, subst, inl, inr, arith, append_assoc}
use Rattle.std.proofs.lemmas.List.{append-nil, length-append}
use Rattle.std.proofs.lemmas.List.Elements.{All-cons, All-nil}
use Rattle.std.specs.List.{All}
use Rattle.mg_types.specs.declared.faults.Fault.{Fault}
use Rattle.mg_types.specs.declared.faults.Fault.TheVariants.{NoMemory}
use Rattle.mg_types.specs.declared.names.FileId.{FileId}
use Rattle.mg_sealed.specs.Blocks.{IsUnfitAt}
use Rattle.mg_sealed.proofs.NumberLaws.{not_too_great}
use Rattle.mg_indexed.specs.Forms.{Form}
use Rattle.mg_indexed.specs.Index.{first_after, handle_bytes, index_bytes, item_bytes, FitsFields, IsHandleAt, IsHandleUnfit, IsIndexFrom, IsIndexUnfit, IsRestUnfit}
use Rattle.mg_indexed.specs.Keys.{Keys, IsLawful}
use Rattle.mg_indexed.specs.declared.handle.BlockHandle.{BlockHandle}
use Rattle.mg_indexed.proofs.FieldLaws.{fits_fields, length-item_bytes, one_handle}

-- ---- one handle more

pub first_after-push : {K : Type 0} (previous : K) (handles : List (BlockHandle K)) (handle : BlockHandle K) → first_after previous (handles ++ handle ∷ []) ≡ handle.first
first_after-push previous [] handle = refl
first_after-push previous (h ∷ handles) handle = first_after-push h.first handles handle

pub index_push : {K : Type 0} (keys : Keys K) (form : Form) (previous : K) (at : ℕ) (handles : List (BlockHandle K)) (end : ℕ) (handle : BlockHandle K) → IsIndexFrom keys form previous at handles end
    → IsHandleAt keys form (first_after previous handles) end handle → IsIndexFrom keys form previous at (handles ++ handle ∷ []) (end + handle.len)
index_push keys form previous at [] end handle is next = ((next.0, next.1 ∙ sym is, omega (arith, is, next.2), next.3), ap (λ n. n + handle.len) is)
index_push keys form previous at (h ∷ handles) end handle is next = (is.0, index_push keys form h.first (at + h.len) handles end handle is.1 next)

pub index_bytes-append : {K : Type 0} (keys : Keys K) (handles more : List (BlockHandle K)) → index_bytes keys (handles ++ more) ≡ index_bytes keys handles ++ index_bytes keys more
index_bytes-append keys [] more = refl
index_bytes-append keys (handle ∷ handles) more =
    ap (λ (xs : List ℕ). handle_bytes keys handle ++ xs) (index_bytes-append keys handles more)
    ∙ sym (append_assoc (handle_bytes keys handle) (index_bytes keys handles) (index_bytes keys more))

pub index_bytes-push : {K : Type 0} (keys : Keys K) (handles : List (BlockHandle K)) (handle : BlockHandle K)
    → index_bytes keys (handles ++ handle ∷ []) ≡ index_bytes keys handles ++ handle_bytes keys handle
index_bytes-push keys handles handle =
    index_bytes-append keys handles (handle ∷ []) ∙ ap (λ (xs : List ℕ). index_bytes keys handles ++ xs) (append-nil (handle_bytes keys handle))

-- an index has more than 12 bytes for each handle
pub least-index_bytes : {K : Type 0} (keys : Keys K) (handles : List (BlockHandle K)) → 12 * length handles ≤ length (index_bytes keys handles)
least-index_bytes keys [] = omega arith
least-index_bytes keys (handle ∷ handles) =
    omega (
      arith,
      length-append (handle_bytes keys handle) (index_bytes keys handles),
      length-item_bytes (keys.bytes handle.first) handle.at handle.len,
      least-index_bytes keys handles,
    )

-- each first key of an index fits its field
pub firsts_fit : {K : Type 0} (keys : Keys K) (form : Form) → IsLawful keys → (previous : K) (at : ℕ) (handles : List (BlockHandle K)) (end : ℕ) → IsIndexFrom keys form previous at handles end
    → All (λ (handle : BlockHandle K). keys.fits handle.first) handles
firsts_fit {K} keys form lawful previous at [] end is = All-nil (λ (handle : BlockHandle K). keys.fits handle.first)
firsts_fit {K} keys form lawful previous at (h ∷ handles) end is =
    All-cons (λ (handle : BlockHandle K). keys.fits handle.first) h handles (lawful.follows_fits previous h.first is.0.0) (firsts_fit keys form lawful h.first (at + h.len) handles end is.1)

-- ---- from the front of a body on

some_bytes : {K : Type 0} (keys : Keys K) (handle : BlockHandle K) (rest : List ℕ) → 1 ≤ length (handle_bytes keys handle ++ rest)
some_bytes keys handle rest = omega (arith, length-append (handle_bytes keys handle) rest, length-item_bytes (keys.bytes handle.first) handle.at handle.len)

-- an index whose body begins with handles that are right begins with these handles
pub index_left : {K : Type 0} (keys : Keys K) (form : Form) → IsLawful keys → (previous : K) (at : ℕ) (front : List (BlockHandle K)) (offset : ℕ) (rest : List ℕ) (handles : List (BlockHandle K)) (end : ℕ)
    → IsIndexFrom keys form previous at front offset → IsIndexFrom keys form previous at handles end → index_bytes keys front ++ rest ≡ index_bytes keys handles
    → (left : List (BlockHandle K)) × (handles ≡ front ++ left) × (rest ≡ index_bytes keys left) × IsIndexFrom keys form (first_after previous front) offset left end
index_left keys form lawful previous at [] offset rest handles end right index is = (handles, refl, is, subst (λ n. IsIndexFrom keys form previous n handles end) right index)
index_left keys form lawful previous at (e ∷ front) offset rest [] end right index is =
    absurd (omega (arith, ap length (sym (append_assoc (handle_bytes keys e) (index_bytes keys front) rest) ∙ is), some_bytes keys e (index_bytes keys front ++ rest)))
index_left {K} keys form lawful previous at (e ∷ front) offset rest (d ∷ handles) end right index is =
    let one = one_handle keys lawful e d (index_bytes keys front ++ rest) (index_bytes keys handles) (fits_fields keys form lawful previous at e right.0) (fits_fields keys form lawful previous at d index.0)
    (sym (append_assoc (handle_bytes keys e) (index_bytes keys front) rest) ∙ is) in
    let later = subst (λ (x : BlockHandle K). IsIndexFrom keys form x.first (at + x.len) handles end) (sym one.0) index.1 in
    let more = index_left keys form lawful e.first (at + e.len) front offset rest handles end right.1 later one.1 in
    (more.0, ap (λ (x : BlockHandle K). x ∷ handles) (sym one.0) ∙ ap (λ es. e ∷ es) more.1, more.2, more.3)

not_unfit : {K : Type 0} (keys : Keys K) (form : Form) → IsLawful keys → (id : FileId) (at : ℕ) (previous : K) (end : ℕ) (handle : BlockHandle K) (fault : Fault) → IsHandleAt keys form previous end handle
    → IsHandleUnfit keys form id at previous end handle fault → ⊥
not_unfit keys form lawful id at previous end handle fault is (inl refused) = lawful.not_refused id at previous handle.first fault is.0 refused
not_unfit keys form lawful id at previous end handle fault is (inr (inl offset)) = elim offset.1 [
  | inl great ↦ not_too_great id at (handle.at ∷ []) fault (omega (arith, is.1, is.2), tt) great
  | inr apart ↦ apart.1 is.1
]
not_unfit keys form lawful id at previous end handle fault is (inr (inr len)) = len.3 is.3

no_stop : {K : Type 0} (keys : Keys K) (form : Form) → IsLawful keys → (id : FileId) (at : ℕ) (previous : K) (end : ℕ) (rest : List ℕ) (left : List (BlockHandle K)) (fault : Fault) → rest ≡ index_bytes keys left
    → IsIndexFrom keys form previous end left at → IsRestUnfit keys form id at previous end rest fault → ⊥
no_stop keys form lawful id at previous end rest [] fault is index (inl item) = absurd (omega (arith, ap length is, ap length item.2.1, some_bytes keys item.0 item.1))
no_stop {K} keys form lawful id at previous end rest (e ∷ es) fault is index (inl item) =
    let one = one_handle keys lawful item.0 e item.1 (index_bytes keys es) item.2.0 (fits_fields keys form lawful previous end e index.0) (sym item.2.1 ∙ is) in
    not_unfit keys form lawful id at previous end e fault index.0 (subst (λ (x : BlockHandle K). IsHandleUnfit keys form id at previous end x fault) one.0 item.3)
no_stop keys form lawful id at previous end rest [] fault is index (inr none) = elim none.1 [ inl some ↦ some is | inr other ↦ other index ]
no_stop keys form lawful id at previous end rest (e ∷ es) fault is index (inr none) = none.0 e (index_bytes keys es) (fits_fields keys form lawful previous end e index.0, is)

-- the body of an index is not refused
pub index_not_unfit : {K : Type 0} (keys : Keys K) (form : Form) → IsLawful keys → (id : FileId) (at : ℕ) (body : List ℕ) (handles : List (BlockHandle K)) (fault : Fault) → IsIndexFrom keys form keys.lowest 0 handles at
    → body ≡ index_bytes keys handles → IsIndexUnfit keys form id at body fault → ⊥
index_not_unfit keys form lawful id at body handles fault index is unfit =
    let left = index_left keys form lawful keys.lowest 0 unfit.front unfit.end unfit.rest handles at unfit.right index (sym unfit.body_is ∙ is) in
    no_stop keys form lawful id at (first_after keys.lowest unfit.front) unfit.end unfit.rest left.0 fault left.2 left.3 unfit.stops

no_more : {K : Type 0} (keys : Keys K) (handles others left : List (BlockHandle K)) → others ≡ handles ++ left → [] ≡ index_bytes keys left → handles ≡ others
no_more keys handles others [] is none = sym (is ∙ append-nil handles)
no_more keys handles others (e ∷ left) is none = absurd (omega (arith, ap length none, some_bytes keys e (index_bytes keys left)))

-- one body is one index
pub one_index : {K : Type 0} (keys : Keys K) (form : Form) → IsLawful keys → (handles others : List (BlockHandle K)) (end end' : ℕ) → IsIndexFrom keys form keys.lowest 0 handles end → IsIndexFrom keys form keys.lowest 0 others end'
    → index_bytes keys handles ≡ index_bytes keys others → handles ≡ others
one_index keys form lawful handles others end end' right right' is =
    let left = index_left keys form lawful keys.lowest 0 handles end [] others end' right right' (append-nil (index_bytes keys handles) ∙ is) in
    no_more keys handles others left.0 left.1 left.2

-- ---- where a refusal stands

handle_unfit_at : {K : Type 0} (keys : Keys K) (form : Form) → IsLawful keys → (id : FileId) (at : ℕ) (previous : K) (end : ℕ) (handle : BlockHandle K) (fault : Fault)
    → IsHandleUnfit keys form id at previous end handle fault → IsUnfitAt id at fault
handle_unfit_at keys form lawful id at previous end handle fault (inl refused) = lawful.refused_there id at previous handle.first fault refused
handle_unfit_at keys form lawful id at previous end handle fault (inr (inl offset)) = elim offset.1 [
  | inl great ↦ inl (great.number, 2 ^ 62, great.fault_is)
  | inr apart ↦ inr apart.2
]
handle_unfit_at keys form lawful id at previous end handle fault (inr (inr len)) = inr len.4

pub index_unfit_at : {K : Type 0} (keys : Keys K) (form : Form) → IsLawful keys → (id : FileId) (at : ℕ) (body : List ℕ) (fault : Fault) → IsIndexUnfit keys form id at body fault → IsUnfitAt id at fault
index_unfit_at keys form lawful id at body fault unfit = elim unfit.stops [
  | inl item ↦ handle_unfit_at keys form lawful id at (first_after keys.lowest unfit.front) unfit.end item.0 fault item.3
  | inr none ↦ inr none.2
]

-- a handle that is spelled so is refused
pub item_refused : {K : Type 0} (keys : Keys K) (form : Form) (id : FileId) (at : ℕ) (previous : K) (end : ℕ) (first : List ℕ) (key : K) (offset len : ℕ) (fault : Fault) → keys.fits key → first ≡ keys.bytes key
    → offset < 2 ^ 64 → len < 2 ^ 32 → (let handle : BlockHandle K = record { first = key; at = offset; len = len } in IsHandleUnfit keys form id at previous end handle fault)
    → (fault ≡ NoMemory) ⊎ ((handle : BlockHandle K) × FitsFields keys handle × (item_bytes first offset len ≡ handle_bytes keys handle) × IsHandleUnfit keys form id at previous end handle fault)
item_refused keys form id at previous end first key offset len fault fits spelled small short unfit =
    inr (record { first = key; at = offset; len = len }, record { first = fits; at = small; len = short }, ap (λ (xs : List ℕ). item_bytes xs offset len) spelled, unfit)
