-- Where names stand in a list of texts.
use Rattle.std.specs.Prelude.{ℕ, List, [], Bool, not}
use Rattle.std.specs.Str.{bytes_eq}
use Rattle.mg_index.specs.Tables.{IsTable}
use Rattle.mg_index.specs.declared.name_table.NameTable.{NameTable}

-- whether a text is a name: all but the empty text are
abbrev pub is_name : List ℕ → Bool
is_name text = not (bytes_eq text [])

-- The table has the places of the names in the list of texts.
abbrev pub IsIndex : NameTable → List (List ℕ) → Type 0
IsIndex table texts = IsTable is_name table texts
