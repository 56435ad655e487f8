-- JSON values that a text can hold as they are. Their numbers are whole and have 64 bits, their texts are UTF-8, and the keys of
-- their objects ascend in byte order. The text of such a value is read as that value.
use Rattle.std.specs.Prelude.{◌≡◌, ◌<◌, ◌^◌, ℕ, pos, negsuc, List, IsUtf8, ⊤}
use Rattle.std.specs.Ordering.{nat_cmp}
use Rattle.std.specs.declared.cmp.Ordering.TheVariants.{Less}
use Rattle.std.specs.Cmp.Lexicographic.{slice_cmp}
use Rattle.serde_json.specs.Data.{Num, unsigned, negative, float, Data, null, boolean, number, string, array, object, Items, no_items, item, Members, no_members, member}

-- a whole number from -2^63 to 2^64 - 1, held as a signed number if it is negative
abbrev pub IsReadableNumber : Num → Type 0
IsReadableNumber (unsigned n) = n < 2 ^ 64
IsReadableNumber (negative (pos n)) = ⊥
IsReadableNumber (negative (negsuc n)) = n < 2 ^ 63
IsReadableNumber (float x) = ⊥

-- a key stands below those of some members
abbrev pub IsBelow : List ℕ → Members → Type 0
IsBelow k no_members = ⊤
IsBelow k (member l d ms) = (slice_cmp nat_cmp k l ≡ Less) × IsBelow k ms

-- a value can be held by a text as it is, with all that lies in it
abbrev mutual
  pub IsReadable : Data → Type 0
  IsReadable null = ⊤
  IsReadable (boolean b) = ⊤
  IsReadable (number n) = IsReadableNumber n
  IsReadable (string s) = IsUtf8 s
  IsReadable (array ds) = ItemsAreReadable ds
  IsReadable (object ms) = MembersAreReadable ms

  pub ItemsAreReadable : Items → Type 0
  ItemsAreReadable no_items = ⊤
  ItemsAreReadable (item d ds) = IsReadable d × ItemsAreReadable ds

  pub MembersAreReadable : Members → Type 0
  MembersAreReadable no_members = ⊤
  MembersAreReadable (member k d ms) = IsUtf8 k × IsReadable d × IsBelow k ms × MembersAreReadable ms
