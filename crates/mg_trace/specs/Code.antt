-- Definitions for the contracts of the crate's inner functions. No other definition rests on them.
use Rattle.std.specs.Prelude.{ℕ, ◌==◌, Bool, List, map}
use Rattle.serde_json.specs.Data.{Data}
use Rattle.serde_json.specs.Written.{compact_text}
use Rattle.mg_feed.specs.Lines.{fed_lines}

-- JSON values as lines of compact JSON
abbrev pub data_text : List Data → List ℕ
data_text ds = fed_lines (map compact_text ds)

-- a byte is a space
abbrev pub is_space : ℕ → Bool
is_space b = b == 32
