-- Texts that a note repeats: control bytes are written as escapes, so that the note stays one line.
use Rattle.std.specs.Prelude.{ℕ, Bool, List, ◌∷◌, [], ◌||◌, ◌==◌, nat_lt, if◌then◌else◌}
use Rattle.std.specs.List.{flat_map}
use Rattle.mg_text.specs.Canonical.{escape}

abbrev pub is_control : ℕ → Bool
is_control b = nat_lt b 32 || b == 127

-- A control byte is written with its escape in the canonical text: `\n`, `\r`, `\t` or three octal digits. All else, a
-- backslash too, is written as it is.
abbrev pub escaped_byte : ℕ → List ℕ
escaped_byte b = if is_control b then escape b else b ∷ []

-- a text as a note repeats it, byte by byte
abbrev pub escaped : List ℕ → List ℕ
escaped text = flat_map escaped_byte text
