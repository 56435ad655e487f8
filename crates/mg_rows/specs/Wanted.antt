-- When the output of a call is the wanted output.
use Rattle.std.specs.Prelude.{◌≡◌, ℕ, ◌≤◌, List, length, take, Option, None, Some}

-- An output is as wanted: it is the wanted text. If a least number of bytes is said, a prefix of the wanted text with at least so many
-- bytes is enough.
abbrev pub IsEnough : List ℕ → Option ℕ → List ℕ → Type 0
IsEnough text None came = came ≡ text
IsEnough text (Some least) came = (least ≤ length came) × (came ≡ take (length came) text)
