-- A Bloom filter: bits in a body of bytes, of which each key has seven.
use Rattle.std.specs.Prelude.{◌≡◌, ℕ, ◌*◌, ◌/◌, ◌%◌, ◌^◌, ◌<◌, ◌≤◌, Bool, IsTrue, ◌||◌, ◌==◌, List, [], ◌∷◌, length, take, drop, map, slice_index}
use Rattle.std.specs.Int.{w32, from_be_bytes, bit_at, is_power_of_two, IsPowerOfTwo}
use Rattle.std.specs.List.{list_all, list_any}
use Rattle.sha2.specs.Sha256.{sha256}

-- word i of a digest: its bytes from 4 * i on, the highest first
unfoldable pub digest_word : List ℕ → ℕ → ℕ
digest_word digest i = from_be_bytes w32 (take 4 (drop (4 * i) digest))

-- what a key is hashed to: the first seven words of its SHA-256 digest
unfoldable pub key_words : List ℕ → List ℕ
key_words key = map (digest_word (sha256 key)) (0 ∷ 1 ∷ 2 ∷ 3 ∷ 4 ∷ 5 ∷ 6 ∷ [])

-- how many bits a body has
abbrev pub bit_count : List ℕ → ℕ
bit_count body = 8 * length body

-- bit p is in byte p / 8, at the weight 2 ^ (p % 8)
unfoldable pub has_bit : List ℕ → ℕ → Bool
has_bit body p = bit_at (slice_index body (p / 8)) (p % 8) == 1

-- the place of a word's bit
abbrev pub place_of : ℕ → List ℕ → ℕ
place_of word body = word % bit_count body

-- the bit test: the body has the bit of each word
unfoldable pub has_words : List ℕ → List ℕ → Bool
has_words body words = list_all (λ word. has_bit body (place_of word body)) words

-- whether a filter may hold a key
unfoldable pub may_hold : List ℕ → List ℕ → Bool
may_hold body key = has_words body (key_words key)

-- the new body has the old bits and those of the words, and no others
pub record AddsWords (old new words : List ℕ) : Type 0 where
  pub same_length : length new ≡ length old
  pub bits : (p : ℕ) → p < bit_count old → has_bit new p ≡ (has_bit old p || list_any (λ word. place_of word old == p) words)

-- how many bytes a filter may have
pub record IsBodyLength (bytes : ℕ) : Type 0 where
  pub power : IsTrue (is_power_of_two bytes)
  pub at_least : 8 ≤ bytes
  pub at_most : bytes ≤ 2 ^ 28

-- how many bits a filter for so many keys has: the least power of two that is at least 64 and at least ten times the
-- number of keys, but no more than 2 ^ 31
pub record IsBitCountFor (keys bits : ℕ) : Type 0 where
  pub power : IsPowerOfTwo bits
  pub at_least : 64 ≤ bits
  pub at_most : bits ≤ 2 ^ 31
  pub enough : bits < 2 ^ 31 → 10 * keys ≤ bits
  pub no_more : 64 < bits → bits / 2 < 10 * keys
