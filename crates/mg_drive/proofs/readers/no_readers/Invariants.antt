-- The lists so far.
use Rattle.mg_drive.specs.Code.Readers.{AreNoReaders}
use Rattle.mg_drive.proofs.readers.no_readers.Given as goal

abbrev pub invariant-loop-place : goal.invariant-loop-place
invariant-loop-place l = AreNoReaders l.place l.readers.items
