-- Words of different lengths.
use Rattle.std.proofs.Common.{ℕ, ◌≡◌, ◌≢◌, List, Bool, true, false, length, refl, ap}
use Rattle.std.specs.Str.{bytes_eq}
use Rattle.std.proofs.lemmas.Slice.Eq.{bytes_eq-Decides}

pub of_other_length : (text word : List ℕ) → length text ≢ length word → false ≡ bytes_eq text word
of_other_length text word apart = by (bytes_eq text word) refl
  where
    by : (same : Bool) → bytes_eq text word ≡ same → false ≡ same
    by true same = absurd (apart (ap length ((bytes_eq-Decides text word).0 same)))
    by false same = refl
