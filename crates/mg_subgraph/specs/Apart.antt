-- Names that stay apart in an expanded graph, and names that are new in it.
use Rattle.std.specs.Prelude.{◌≡◌, ◌≢◌, List, ℕ, false, Option, None, Some, find}
use Rattle.std.specs.List.{list_any}
use Rattle.std.specs.Str.{bytes_eq}
use Rattle.mg_config.specs.Config.{GraphView}
use Rattle.mg_subgraph.specs.Names.{is_reserved}
use Rattle.mg_subgraph.specs.Refusals.{graph_names}

-- The graph has no name of the form that expansion makes.
abbrev pub IsFree : GraphView → Type 0
IsFree graph = find is_reserved (graph_names graph) ≡ None

-- Two inner names become the same name only if both stand at ports to which the node connects that name.
abbrev pub StayApart : (List ℕ → Option (List ℕ)) → (List ℕ → List ℕ) → Type 0
StayApart outer rename = (first second : List ℕ) → first ≢ second → rename first ≡ rename second → (outer first ≡ Some (rename first)) × (outer second ≡ Some (rename second))

-- The graph doesn't have the name.
abbrev pub IsNew : List ℕ → GraphView → Type 0
IsNew name graph = list_any (bytes_eq name) (graph_names graph) ≡ false

-- An inner name that stands at no connected port becomes a name that the graph doesn't have.
abbrev pub AreNew : (List ℕ → Option (List ℕ)) → (List ℕ → List ℕ) → GraphView → Type 0
AreNew outer rename graph = (name : List ℕ) → outer name ≡ None → IsNew (rename name) graph
