-- The bytes of a text, wherever they are kept.
use Rattle.std.specs.Prelude.{ℕ, List, string_bytes}
use Rattle.mg_value.specs.declared.text.Kept.{Kept}
use Rattle.mg_value.specs.declared.text.Kept.TheVariants.{Short, Long}

-- the bytes that are kept
abbrev pub bytes_of : Kept → List ℕ
bytes_of (Short text) = text.bytes
bytes_of (Long text) = string_bytes text
