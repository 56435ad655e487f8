use Rattle.std.proofs.Common.{map, take}
use Rattle.mg_config.specs.Config.{graph_view}
use Rattle.mg_subgraph.specs.Code.Index.{IsIndex}
use Rattle.mg_subgraph.specs.Refusals.{types_of}
use Rattle.mg_subgraph.proofs.library.index_of.Given as goal

abbrev pub invariant-loop-i : goal.invariant-loop-i
invariant-loop-i l = IsIndex l.types (take l.i (types_of (map graph_view l.files)))
