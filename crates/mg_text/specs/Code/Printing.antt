-- What the canonical text of one field is. The printer's own functions cite it.
use Rattle.std.specs.Prelude.{ℕ, suc, List, []}
use Rattle.mg_text.specs.Tree.{depth}
use Rattle.mg_text.specs.View.{Value, simple, inner}
use Rattle.mg_text.specs.Canonical.{spelling, scalar_line, message_lines, lines_of}

-- the lines of one field, and how deep it nests
abbrev pub entry_lines : ℕ → List ℕ → Value → List ℕ
entry_lines k name (simple kind bytes) = scalar_line k name kind bytes
entry_lines k name (inner fields) = message_lines k name (lines_of (suc k) fields)

abbrev pub entry_depth : Value → ℕ
entry_depth (simple kind bytes) = 0
entry_depth (inner fields) = suc (depth fields)

abbrev pub value_text : Value → List ℕ
value_text (simple kind bytes) = spelling kind bytes
value_text (inner fields) = []
