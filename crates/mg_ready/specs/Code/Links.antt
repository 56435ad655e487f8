-- Places in buckets of 32, as slots of linked lists. Between two buckets, below the first and above the last, there is one slot
-- more. It is always linked: slot 0, 33, 66 and so on.
use Rattle.std.specs.Prelude.{◌≡◌, ℕ, ◌+◌, ◌-◌, ◌*◌, ◌/◌, ◌%◌, ◌^◌, ◌<◌, ◌≤◌, ◌==◌, ◌||◌, Bool, true, false, List, length, slice_index, slice_index_or}

-- the slot of a place, and the place of a slot between two buckets' ends
abbrev pub slot_of : ℕ → ℕ
slot_of place = place / 32 * 33 + place % 32 + 1

abbrev pub place_of : ℕ → ℕ
place_of slot = slot / 33 * 32 + slot % 33 - 1

-- the slot above all places, if there are `places` of them
abbrev pub top_of : ℕ → ℕ
top_of places = (places + 31) / 32 * 33

-- a slot is linked: it lies between two buckets, or its place is in
unfoldable pub is_linked : List Bool → ℕ → Bool
is_linked places s = (s % 33 == 0) || slice_index_or places (place_of s) false

-- two slots are linked, and none between them
pub record IsNext (linked : ℕ → Bool) (low high : ℕ) : Type 0 where
  pub below : low < high
  pub low_linked : linked low ≡ true
  pub high_linked : linked high ≡ true
  pub between : (s : ℕ) → low < s → s < high → linked s ≡ false

-- the links of the linked slots up to `top`: each linked slot has links to the next one above and to the next one below
pub record IsChain (linked : ℕ → Bool) (top : ℕ) (above below : List ℕ) : Type 0 where
  pub above_len : length above ≡ top + 1
  pub below_len : length below ≡ top + 1
  pub up : (s : ℕ) → s < top → linked s ≡ true → IsNext linked s (slice_index above s)
  pub down : (s : ℕ) → 0 < s → s ≤ top → linked s ≡ true → IsNext linked (slice_index below s) s

-- the links of a set of places
pub record IsLinked (places : List Bool) (above below : List ℕ) : Type 0 where
  pub few : length places < 2 ^ 32
  pub chain : IsChain (is_linked places) (top_of (length places)) above below

-- the next linked slot above a slot
pub record IsRoofOver (places : List Bool) (slot upper : ℕ) : Type 0 where
  pub above : slot < upper
  pub within : upper ≤ top_of (length places)
  pub linked : is_linked places upper ≡ true
  pub between : (s : ℕ) → slot < s → s < upper → is_linked places s ≡ false

-- no place of a bucket is in
abbrev pub IsEmptyIn : List Bool → ℕ → Type 0
IsEmptyIn places bucket = (q : ℕ) → q / 32 ≡ bucket → slice_index_or places q false ≡ false

-- the greatest place of a bucket that is in
pub record IsGreatestIn (places : List Bool) (bucket p : ℕ) : Type 0 where
  pub within : p / 32 ≡ bucket
  pub there : slice_index_or places p false ≡ true
  pub greatest : (q : ℕ) → q / 32 ≡ bucket → p < q → slice_index_or places q false ≡ false
