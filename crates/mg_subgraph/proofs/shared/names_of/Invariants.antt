use Rattle.std.proofs.Common.{◌≡◌, ℕ, Some, length, map}
use Rattle.std.specs.Prelude.{slice_get}
use Rattle.mg_config.specs.Config.{GraphView, graph_view}
use Rattle.mg_subgraph.specs.Code.Judged.{AreNames}
use Rattle.mg_subgraph.specs.declared.shared.FileNames.{FileNames}
use Rattle.mg_subgraph.proofs.shared.names_of.Given as goal

abbrev pub invariant-loop-file : goal.invariant-loop-file
invariant-loop-file l = record {
  same : length l.names.items ≡ l.file-index;
  named : (place : ℕ) (file : GraphView) (entry : FileNames) → slice_get (map graph_view l.files) place ≡ Some file → slice_get l.names.items place ≡ Some entry → AreNames entry file;
}
