-- What several calls in a row gave or took, if the object tells its bytes.
use Rattle.std.specs.Prelude.{◌≡◌, ℕ, List, ◌++◌, Option, None, Some, ⊤}

-- Reads gave these bytes in all: they stood before the bytes that are left.
abbrev pub Gave : Option (List ℕ) → Option (List ℕ) → List ℕ → Type 0
Gave None now bytes = ⊤
Gave (Some before) now bytes = (left : List ℕ) × (now ≡ Some left) × (before ≡ bytes ++ left)

-- Writes took these bytes in all: they stand after the bytes that were taken before.
abbrev pub TookAll : Option (List ℕ) → Option (List ℕ) → List ℕ → Type 0
TookAll None now bytes = ⊤
TookAll (Some before) now bytes = now ≡ Some (before ++ bytes)
