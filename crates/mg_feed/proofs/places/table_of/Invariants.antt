-- The table of the names so far.
use Rattle.std.proofs.Common.{take}
use Rattle.mg_feed.specs.Code.Places.{Finds}
use Rattle.mg_feed.proofs.places.table_of.Given as goal

abbrev pub invariant-loop-number : goal.invariant-loop-number
invariant-loop-number l = Finds l.names (take l.number l.entries)
