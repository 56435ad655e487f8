-- Where the first line feed of some bytes is.
use Rattle.std.specs.Prelude.{◌≡◌, ℕ, ◌+◌, ◌<◌, ◌==◌, Bool, List, ◌∷◌, ◌++◌, length, take, drop}
use Rattle.std.specs.List.{list_any}
use Rattle.mg_feed.specs.Lines.{NoFeed}

-- the first line feed of the bytes is at this place
pub record EndsLine (bytes : List ℕ) (i : ℕ) : Type 0 where
  pub within : i < length bytes
  pub none : NoFeed (take i bytes)
  pub cut : bytes ≡ take i bytes ++ 10 ∷ drop (i + 1) bytes

-- whether the bytes have a line feed
abbrev pub has_feed : List ℕ → Bool
has_feed bytes = list_any (λ b. b == 10) bytes
