use Rattle.mg_names.proofs.Standing.{IsTable}
use Rattle.mg_names.proofs.indexing.places_of.Given as goal

abbrev pub invariant-loop-place : goal.invariant-loop-place
invariant-loop-place l = IsTable l.ports l.place l.places
