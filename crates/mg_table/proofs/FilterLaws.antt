-- The words of keys in a filter, one key after the other, and in what it is folded to.
use Rattle.std.proofs.Common.{◌≡◌, ◌≢◌, IsTrue, MatchBool, ℕ, Bool, true, false, ◌||◌, eqb, List, [], ◌∷◌, ◌++◌, length, replicate, refl, sym, ap, ◌∙◌, arith, subst}
use Rattle.std.proofs.lemmas.List.{append-nil}
use Rattle.std.proofs.lemmas.List.Folds.{concat-append, list_any-append}
use Rattle.std.specs.List.{concat, list_any}
use Rattle.mg_bloom.specs.Bloom.{bit_count, has_bit, place_of, AddsWords, IsBitCountFor}
use Rattle.mg_bloom.specs.Folding.{HasBitsOf, KeepsWords}
use Rattle.mg_bloom.proofs.BloomLaws.{AddsWords-none}
use Rattle.mg_bloom.proofs.OneFilter.{one_filter}
use Rattle.mg_frame.specs.BigEndian.{AreBytes}
use Rattle.mg_table.specs.Filters.{IsFilterOf}

or-assoc : (a b c : Bool) → ((a || b) || c) ≡ (a || (b || c))
or-assoc true b c = refl
or-assoc false b c = refl

AddsWords-then : (old mid new words more : List ℕ) → AddsWords old mid words → AddsWords mid new more → AddsWords old new (words ++ more)
AddsWords-then old mid new words more first second = record {
  same_length = second.same_length ∙ first.same_length;
  bits = λ p within.
      let has = λ (word : ℕ). eqb (place_of word old) p in
      let next = rw first.same_length at (second.bits p (omega (arith, first.same_length))) in
      next ∙ ap (λ (b : Bool). b || list_any has more) (first.bits p within)
      ∙ or-assoc (has_bit old p) (list_any has words) (list_any has more)
      ∙ ap (λ (b : Bool). has_bit old p || b) (sym (list_any-append has words more));
}

concat-push : (lists : List (List ℕ)) (list : List ℕ) → concat (lists ++ list ∷ []) ≡ concat lists ++ list
concat-push lists list = concat-append lists (list ∷ []) ∙ ap (λ xs. concat lists ++ xs) (append-nil list)

-- a filter with no bit
pub HasBitsOf-none : (body : List ℕ) → body ≡ replicate (length body) 0 → HasBitsOf body []
HasBitsOf-none body none = subst (λ (old : List ℕ). AddsWords old body []) none (AddsWords-none body)

-- the words of one key more
pub HasBitsOf-put : (old new : List ℕ) (lists more : List (List ℕ)) (list : List ℕ) → HasBitsOf old (concat lists) → AddsWords old new list → more ≡ lists ++ list ∷ []
    → HasBitsOf new (concat more)
HasBitsOf-put old new lists more list has adds is =
    let all : concat lists ++ list ≡ concat more = sym (ap concat is ∙ concat-push lists list) in
    subst (λ (words : List ℕ). HasBitsOf new words) all
    (subst (λ n. AddsWords (replicate n 0) new (concat lists ++ list)) (sym adds.same_length) (AddsWords-then (replicate (length old) 0) old new (concat lists) list has adds))

-- a filter that is folded to the size for the keys that were put in
pub IsFilterOf-folded : (hashed : List (List ℕ)) (count : ℕ) (old new : List ℕ) → count ≡ length hashed → IsBitCountFor count (bit_count new) → HasBitsOf old (concat hashed)
    → KeepsWords old new → IsFilterOf hashed new
IsFilterOf-folded hashed count old new is size has keeps = record {
  size = subst (λ n. IsBitCountFor n (bit_count new)) is size;
  bits = keeps (concat hashed) has;
}

-- keys have one filter
pub same_filter : (hashed : List (List ℕ)) (filter other : List ℕ) → AreBytes filter → AreBytes other → IsFilterOf hashed filter → IsFilterOf hashed other → filter ≡ other
same_filter hashed filter other small small' is is' = one_filter (length hashed) (concat hashed) filter other small small' is.size is'.size is.bits is'.bits

-- a body that is compared with a filter of keys
pub compared : (hashed : List (List ℕ)) (made body : List ℕ) (r : Bool) → MatchBool r (made ≡ body) (made ≢ body) → AreBytes made → AreBytes body → IsFilterOf hashed made
    → (IsTrue r → IsFilterOf hashed body) × (IsFilterOf hashed body → IsTrue r)
compared hashed made body true same small small' is = (λ yes. subst (IsFilterOf hashed) same is, λ right. refl)
compared hashed made body false apart small small' is = (λ yes. absurd cc, λ right. absurd (apart (same_filter hashed made body small small' is right)))
