-- The first free nodes are among the readers.
use Rattle.std.proofs.Common.{◌≡◌, ℕ, ◌<◌, Some, length, slice_get}
use Rattle.mg_free.specs.declared.node.FreeNode.{FreeNode}
use Rattle.mg_drive.specs.Code.Readers.{AreReadersOf}
use Rattle.mg_drive.proofs.readers.add_all.Given as goal

abbrev pub invariant-loop-reader : goal.invariant-loop-reader
invariant-loop-reader l = record {
  long : length l.by_place ≡ length l.initial.by_place;
  each : (reader : ℕ) (free : FreeNode) → reader < l.reader → slice_get l.frees reader ≡ Some free → AreReadersOf l.core free.inputs reader l.by_place;
}
