use Rattle.std.proofs.Common.{◌≡◌, ℕ, List, Some, length, map}
use Rattle.std.specs.Prelude.{slice_get}
use Rattle.mg_config.specs.Config.{GraphView, graph_view}
use Rattle.mg_subgraph.specs.Code.Places.{listed, uses_at}
use Rattle.mg_subgraph.proofs.links.all_links.Given as goal

abbrev pub invariant-loop-file : goal.invariant-loop-file
invariant-loop-file l = record {
  same : length l.links.items ≡ l.file-index;
  linked : (place : ℕ) (file : GraphView) (list : List ℕ) → slice_get (map graph_view l.library.files.now) place ≡ Some file → slice_get (map (λ v. v.items) l.links.items) place ≡ Some list
      → (other : ℕ) → listed other list ≡ uses_at (map graph_view l.library.files.now) file.nodes other;
}
