-- Rows of marks, as words of 64 bits.
use Rattle.std.specs.Prelude.{◌≡◌, ℕ, ◌+◌, ◌-◌, ◌/◌, ◌%◌, ◌^◌, ◌<◌, ◌≤◌, ◌==◌, ◌||◌, ◌&&◌, nat_lt, nat_le, Bool, true, false, List, length, map, slice_index, slice_index_or, if◌then◌else◌}
use Rattle.std.specs.List.{range_with_len}
use Rattle.std.specs.Int.{bit_at}

-- the bit of a place
abbrev pub bit_of : List ℕ → ℕ → ℕ
bit_of words n = bit_at (slice_index words (n / 64)) (n % 64)

-- the marks of `len` places, from the bits of words
abbrev pub marks_of : ℕ → List ℕ → List Bool
marks_of len words = map (λ n. bit_of words n == 1) (range_with_len 0 len)

-- there are words for all places
pub record IsRow (len : ℕ) (words : List ℕ) : Type 0 where
  pub words_len : length words ≡ (len + 63) / 64
  pub few : len < 2 ^ 60

-- a place is marked; past the end none is
abbrev pub is_marked : List Bool → ℕ → Bool
is_marked row place = slice_index_or row place false

-- a row has the marks of two others
pub record Joins (one two both : List Bool) : Type 0 where
  pub len : length both ≡ length one
  pub marks : (k : ℕ) → k < length one → is_marked both k ≡ (is_marked one k || is_marked two k)

-- a number if a test holds, and otherwise 0
abbrev pub part : Bool → ℕ → ℕ
part b n = if b then n else 0

-- the bit of a place in a word that begins at another place
abbrev pub bit_in : ℕ → ℕ → ℕ → Bool
bit_in word first k = nat_le first k && (nat_lt k (first + 64) && (bit_at word (k - first) == 1))

-- of the counts, those at places that pass a test grow by one number and shrink by another
pub record Changes (test : ℕ → Bool) (more less : ℕ) (old new : List ℕ) : Type 0 where
  pub len : length new ≡ length old
  pub counts : (k : ℕ) → k < length old → slice_index new k + part (test k) less ≡ slice_index old k + part (test k) more

-- of the counts below a place, those at places that pass a test grow by one number and shrink by another. The other counts are
-- as they were
pub record ChangesBelow (test : ℕ → Bool) (more less place : ℕ) (old new : List ℕ) : Type 0 where
  pub len : length new ≡ length old
  pub changed : (k : ℕ) → k < place → k < length old → slice_index new k + part (test k) less ≡ slice_index old k + part (test k) more
  pub kept : (k : ℕ) → place ≤ k → slice_index new k ≡ slice_index old k

-- nothing passes a test from a place on, below an end
abbrev pub NoneFrom : (ℕ → Bool) → ℕ → ℕ → Type 0
NoneFrom test from end = (k : ℕ) → from ≤ k → k < end → test k ≡ false

-- the first place from one on, below an end, that passes a test
pub record IsFirstFrom (test : ℕ → Bool) (from end place : ℕ) : Type 0 where
  pub above : from ≤ place
  pub below : place < end
  pub passes : test place ≡ true
  pub none : NoneFrom test from place

-- a place passes a test, and what is counted there is 0
abbrev pub is_uncounted : (ℕ → Bool) → List ℕ → ℕ → Bool
is_uncounted test counts k = test k && (slice_index counts k == 0)
