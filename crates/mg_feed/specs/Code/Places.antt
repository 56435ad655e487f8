-- What a table of names finds.
use Rattle.std.specs.Prelude.{List, map}
use Rattle.mg_index.specs.Places.{is_text}
use Rattle.mg_index.specs.Tables.{IsTable}
use Rattle.mg_index.specs.declared.name_table.NameTable.{NameTable}
use Rattle.mg_feed.specs.declared.places.Placed.{Placed}

-- the table finds the first entry that has a name
abbrev pub Finds : NameTable → List Placed → Type 0
Finds names entries = IsTable is_text names (map (λ entry. entry.name) entries)
