use Rattle.std.proofs.Common.{◌≡◌, ◌++◌, List, take, drop, map}
use Rattle.mg_config.specs.Config.{node_view}
use Rattle.mg_calc.specs.declared.shape.OuterShape.{OuterShape}
use Rattle.mg_check.specs.Choosing.{chosen_nodes, chosen_after}
use Rattle.mg_check.specs.Code.Choices.{choices_view, IsStock, IsWanted}
use Rattle.mg_check.proofs.choosing.choices_of.Given as goal

abbrev pub invariant-loop-place : goal.invariant-loop-place
invariant-loop-place l = record {
  list : (outers : List OuterShape) → IsStock l.stock outers
      → choices_view l.list.items ++ chosen_after outers (map node_view (take l.place l.nodes)) (map node_view (drop l.place l.nodes)) ≡ chosen_nodes outers (map node_view l.nodes);
  wanted : IsWanted l.wanted (map node_view (take l.place l.nodes));
}
