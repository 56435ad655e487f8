-- The first nodes are among the readers of their streams.
use Rattle.mg_equations.specs.Code.Readers.{HasReaders}
use Rattle.mg_equations.proofs.readers.readers_of.Given as goal

abbrev pub invariant-loop-number : goal.invariant-loop-number
invariant-loop-number l = HasReaders l.plan l.number l.readers.items
