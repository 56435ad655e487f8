use Rattle.std.proofs.Common.{ℕ, ◌≡◌, ◌+◌}
use Rattle.mg_node.specs.Lawful.{AreCell}
use Rattle.mg_turns.specs.Rounds.{CellRounds}
use Rattle.mg_turns.specs.Told.{committed_in}
use Rattle.mg_turns.specs.Code.Running.{CellSteps}
use Rattle.mg_turns.proofs.running.run_sets.Given as goal

abbrev pub invariant-loop-done : goal.invariant-loop-done
invariant-loop-done g l = record {
  cell : AreCell g.C.NodeCalculator.laws l.engine l.intake;
  steps : CellSteps g.C.NodeCalculator.laws l.fn.engine l.engine l.fn.intake l.intake;
  laid : ℕ;
  counts : committed_in l.engine ≡ committed_in l.fn.engine + l.done;
  rounds : CellRounds g.C.NodeCalculator.laws l.done laid l.fn.engine l.engine l.fn.intake l.intake;
}
