-- The places so far.
use Rattle.mg_live.specs.Code.Turned.{HasAllBelow}
use Rattle.mg_live.proofs.due.fill.Given as goal

abbrev pub invariant-loop-place : goal.invariant-loop-place
invariant-loop-place l = HasAllBelow l.place l.due.items
