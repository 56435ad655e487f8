-- What the parts of the code keep of a library and its files.
use Rattle.std.specs.Prelude.{ℕ, ◌≡◌, List, [], ◌∷◌, ◌++◌, Bool, true, Option, None, Some, if◌then◌else◌, length, slice_get, find}
use Rattle.mg_config.specs.Config.{NodeView, GraphView}
use Rattle.std.specs.Option.{option_or}
use Rattle.mg_names.specs.declared.port.Port.{Port}
use Rattle.mg_subgraph.specs.Names.{is_reserved}
use Rattle.mg_subgraph.specs.Code.Index.{IsIndex}
use Rattle.mg_subgraph.specs.Library.{uses_file}
use Rattle.mg_subgraph.specs.Refusals.{port_names, node_names, graph_names, shared_name, bad_field_at, no_such_port_at}
use Rattle.mg_subgraph.specs.declared.fault.ExpandFault.{ExpandFault}
use Rattle.mg_subgraph.specs.declared.nodes.Check.{Check}
use Rattle.mg_subgraph.specs.declared.nodes.Check.TheVariants.{Fields, Ports}
use Rattle.mg_subgraph.specs.declared.shared.FileNames.{FileNames}

-- the files whose flags are set, in order
abbrev pub flagged : List Bool → List GraphView → List GraphView
flagged [] files = []
flagged (flag ∷ flags) [] = []
flagged (flag ∷ flags) (file ∷ files) = if flag then file ∷ flagged flags files else flagged flags files

-- The tables have the names at the ports of the file.
pub record AreNames (names : FileNames) (file : GraphView) : Type 0 where
  pub streams : IsIndex names.streams (port_names file.inputs ++ port_names file.outputs)
  pub sides : IsIndex names.sides (port_names file.input_sides ++ port_names file.output_sides)

-- Each entry has the names at the ports of the file at its place.
pub record AreFileNames (files : List GraphView) (names : List FileNames) : Type 0 where
  pub same : length names ≡ length files
  pub named : (place : ℕ) (file : GraphView) (entry : FileNames) → slice_get files place ≡ Some file → slice_get names place ≡ Some entry → AreNames entry file

-- No name stands at two ports of a file that nodes use, directly or not.
abbrev pub AreUnshared : List GraphView → List NodeView → Type 0
AreUnshared library nodes = (place : ℕ) (file : GraphView) → slice_get library place ≡ Some file → uses_file library nodes file ≡ true → shared_name file ≡ None

-- the refusal of a subgraph node that breaks a rule
abbrev pub judge_of : Check → List ℕ → ℕ → NodeView → GraphView → Option ExpandFault
judge_of Fields = bad_field_at
judge_of Ports = no_such_port_at

-- the first reserved name at four lists of ports
abbrev pub reserved_at : List Port → List Port → List Port → List Port → Option (List ℕ)
reserved_at inputs outputs input_sides output_sides =
    option_or (find is_reserved (port_names inputs)) (option_or (find is_reserved (port_names outputs))
    (option_or (find is_reserved (port_names input_sides)) (find is_reserved (port_names output_sides))))

-- the first reserved name of a node: its own, or else at its ports
abbrev pub reserved_in_node : NodeView → Option (List ℕ)
reserved_in_node node = find is_reserved (node_names node)

-- the first reserved name of a graph: at its own ports, or else of a node
abbrev pub reserved_in_graph : GraphView → Option (List ℕ)
reserved_in_graph graph = find is_reserved (graph_names graph)
