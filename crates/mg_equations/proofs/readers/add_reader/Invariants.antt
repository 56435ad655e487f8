-- The node is added to the readers of the first streams.
use Rattle.std.proofs.Common.{take}
use Rattle.mg_equations.specs.Code.Readers.{IsAdded}
use Rattle.mg_equations.proofs.readers.add_reader.Given as goal

abbrev pub invariant-loop-input : goal.invariant-loop-input
invariant-loop-input l = IsAdded (take l.input-index l.input-items) l.node l.fn.readers.items l.readers.items
