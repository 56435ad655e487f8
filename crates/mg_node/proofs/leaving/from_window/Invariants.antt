use Rattle.std.proofs.Common.{◌≡◌}
use Rattle.std.specs.List.{filter_map}
use Rattle.std.specs.VecDeque.{deque_len}
use Rattle.mg_node.specs.Leaving.{calculator_in}
use Rattle.mg_node.proofs.HandedBack.{first_told}
use Rattle.mg_node.proofs.leaving.from_window.Given as goal

abbrev pub invariant-loop-entry : goal.invariant-loop-entry
invariant-loop-entry g l = first_told (filter_map calculator_in l.window.items) ≡ first_told (filter_map calculator_in l.fn.window.items)

abbrev pub decreases-loop-entry : goal.decreases-loop-entry
decreases-loop-entry g l = deque_len l.window
