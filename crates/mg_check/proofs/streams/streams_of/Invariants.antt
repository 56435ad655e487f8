-- Those so far.
use Rattle.std.proofs.Common.{◌≡◌, take}
use Rattle.mg_check.specs.Code.Streams.{streams_of}
use Rattle.mg_check.proofs.streams.streams_of.Given as goal

abbrev pub invariant-loop-place : goal.invariant-loop-place
invariant-loop-place l = l.streams.items ≡ take l.place (streams_of l.names l.mets l.writers)
