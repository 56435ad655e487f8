-- The list so far, followed by what the remaining ports give, is the whole list.
use Rattle.std.proofs.Common.{◌≡◌, ◌++◌, drop, map}
use Rattle.std.specs.List.{enumerate_from}
use Rattle.mg_kinds.specs.Kinds.{names_of}
use Rattle.mg_check.specs.Code.Edges.{edge_at}
use Rattle.mg_check.proofs.edges.add_edges.Given as goal

abbrev pub invariant-loop-port : goal.invariant-loop-port
invariant-loop-port l = l.out.items ++ map (edge_at l.streams l.node l.back) (enumerate_from l.port (names_of (drop l.port l.inputs))) ≡ l.fn.out.items ++ map (edge_at l.streams l.node l.back) (enumerate_from 0 (names_of l.inputs))
