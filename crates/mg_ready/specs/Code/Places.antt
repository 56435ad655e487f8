-- A set of places, with a bit for each bucket of 32.
use Rattle.std.specs.Prelude.{◌≡◌, ℕ, ◌+◌, ◌/◌, ◌^◌, ◌<◌, Bool, true, false, List, length, slice_index_or}
use Rattle.mg_ready.specs.Code.Bits.{bit_of}
use Rattle.mg_ready.specs.Code.Links.{IsEmptyIn}

-- each bucket has its bit set exactly if one of its places is in
pub record IsMarked (places : List Bool) (words : List ℕ) : Type 0 where
  pub few : length places < 2 ^ 32
  pub words_len : length words ≡ (length places + 2047) / 2048
  pub marked : (q : ℕ) → slice_index_or places q false ≡ true → bit_of words (q / 32) ≡ 1
  pub not_empty : (bucket : ℕ) → bit_of words bucket ≡ 1 → ¬ IsEmptyIn places bucket

-- the last place that is in
pub record IsLast (places : List Bool) (p : ℕ) : Type 0 where
  pub there : slice_index_or places p false ≡ true
  pub last : (q : ℕ) → p < q → slice_index_or places q false ≡ false
