-- The list so far, followed by what the remaining ports give, is the whole list.
use Rattle.std.proofs.Common.{◌≡◌, ◌++◌, drop}
use Rattle.mg_subgraph.specs.Refusals.{port_names}
use Rattle.mg_check.specs.Code.Streams.{given_from}
use Rattle.mg_check.proofs.sides.add_given.Given as goal

abbrev pub invariant-loop-place : goal.invariant-loop-place
invariant-loop-place l = l.out.items ++ given_from l.place (port_names (drop l.place l.ports)) ≡ l.fn.out.items ++ given_from 0 (port_names l.ports)
