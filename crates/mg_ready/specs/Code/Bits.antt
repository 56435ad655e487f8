-- A set of numbers as words of 64 bits.
use Rattle.std.specs.Prelude.{◌≡◌, ◌≢◌, ℕ, ◌/◌, ◌%◌, ◌<◌, List, length, slice_index}
use Rattle.std.specs.Int.{bit_at}

-- the bit of a number: 1 if it is in the set
abbrev pub bit_of : List ℕ → ℕ → ℕ
bit_of words n = bit_at (slice_index words (n / 64)) (n % 64)

-- no bit changes but that of this number
pub record ChangesBit (old new : List ℕ) (n : ℕ) : Type 0 where
  pub len : length new ≡ length old
  pub others : (k : ℕ) → k ≢ n → bit_of new k ≡ bit_of old k

-- the greatest number of a set
pub record IsGreatest (words : List ℕ) (n : ℕ) : Type 0 where
  pub there : bit_of words n ≡ 1
  pub above : (k : ℕ) → n < k → bit_of words k ≡ 0
