-- The free node is among the readers of the first streams.
use Rattle.std.proofs.Common.{◌≡◌, ℕ, ◌<◌, Some, slice_get}
use Rattle.mg_calc.specs.declared.plan_stream.Producer.{Producer}
use Rattle.mg_sched.specs.Places.{place_of}
use Rattle.mg_sched.specs.Writers.{writer_at}
use Rattle.mg_drive.specs.Code.Readers.{HasReader, ReadersGrow}
use Rattle.mg_drive.proofs.readers.add_reader.Given as goal

abbrev pub invariant-loop-i : goal.invariant-loop-i
invariant-loop-i l = record {
  grows : ReadersGrow l.initial.by_place l.by_place;
  added : (port stream : ℕ) (writer : Producer) → port < l.i → slice_get l.streams port ≡ Some stream → writer_at l.core stream ≡ Some writer → HasReader l.by_place (place_of l.core writer) l.reader;
}
