use Rattle.std.proofs.Common.{◌≡◌}
use Rattle.mg_equations.proofs.solving.prefix_list.Given as goal

abbrev pub invariant-loop-stream : goal.invariant-loop-stream
invariant-loop-stream l = l.prefixes.items ≡ l.yielded
