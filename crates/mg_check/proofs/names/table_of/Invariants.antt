-- The table of those that were added.
use Rattle.std.proofs.Common.{take}
use Rattle.mg_index.specs.Tables.{IsTable}
use Rattle.mg_kinds.specs.Kinds.{names_of}
use Rattle.mg_index.specs.Places.{is_text}
use Rattle.mg_check.proofs.names.table_of.Given as goal

abbrev pub invariant-loop-place : goal.invariant-loop-place
invariant-loop-place l = IsTable is_text l.table (take l.place (names_of l.texts))
