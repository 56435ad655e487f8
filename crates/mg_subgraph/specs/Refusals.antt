-- What an expansion is refused for.
use Rattle.std.specs.Prelude.{ℕ, suc, ℤ, pos, List, [], ◌∷◌, ◌++◌, Bool, true, false, ◌==◌, not, nat_lt, Option, None, Some, if◌then◌else◌, map, codes, option_map, find, length}
use Rattle.std.specs.Option.{option_or, option_and_then}
use Rattle.std.specs.List.{list_any, flat_map}
use Rattle.std.specs.Str.{bytes_eq}
use Rattle.mg_text.specs.Tree.{Fields, none, scalar, message}
use Rattle.mg_names.specs.Ports.{has_port}
use Rattle.mg_names.specs.declared.port.Port.{Port}
use Rattle.mg_config.specs.Config.{NodeView, GraphView}
use Rattle.mg_subgraph.specs.Names.{names, is_reserved}
use Rattle.mg_subgraph.specs.Library.{file_of, is_subgraph, used_files, is_recursive}
use Rattle.mg_subgraph.specs.Expanded.{expanded}
use Rattle.mg_subgraph.specs.declared.fault.ExpandFault.{ExpandFault}
use Rattle.mg_subgraph.specs.declared.fault.ExpandFault.TheVariants.{TypeTwice, Recursive, TooManyNodes, ReservedName, PortShared, BadField, NoSuchPort}

-- the first name that stands again later
abbrev pub first_twice : List (List ℕ) → Option (List ℕ)
first_twice [] = None
first_twice (text ∷ texts) = if list_any (names text) texts then Some text else first_twice texts

-- the first answer that a function has for an element of a list
abbrev pub first_some : {A B : Type 0} → (A → Option B) → List A → Option B
first_some answer [] = None
first_some answer (x ∷ xs) = option_or (answer x) (first_some answer xs)

-- the types of files, in the order of the library
abbrev pub types_of : List GraphView → List (List ℕ)
types_of library = map (λ file. file.type_name) library

-- Two files have the same type. The refusal has the first type that another file has too.
abbrev pub type_twice : List GraphView → Option ExpandFault
type_twice library = option_map TypeTwice (first_twice (types_of library))

-- A used file uses itself. The refusal has the first such file in the order of the library.
abbrev pub recursive : GraphView → List GraphView → Option ExpandFault
recursive main library = option_map (λ file. Recursive file.type_name) (find (is_recursive library) (used_files main library))

-- how many nodes a graph may have after expansion
abbrev pub max_nodes : ℕ
max_nodes = 4096

abbrev pub too_many_nodes : GraphView → List GraphView → Option ExpandFault
too_many_nodes main library = if nat_lt max_nodes (length (expanded library main.nodes)) then Some TooManyNodes else None

-- the names at ports
abbrev pub port_names : List Port → List (List ℕ)
port_names ports = map (λ port. port.name) ports

-- the names at four lists of ports, in the order of writing
abbrev pub list_names : List Port → List Port → List Port → List Port → List (List ℕ)
list_names inputs outputs input_sides output_sides =
    port_names inputs ++ (port_names outputs ++ (port_names input_sides ++ port_names output_sides))

-- the names of a node, in the order of writing: its own, and those at its ports
abbrev pub node_names : NodeView → List (List ℕ)
node_names node = node.name ∷ list_names node.inputs node.outputs node.input_sides node.output_sides

-- all names of a graph, in the order of writing: those at its own ports, and those of each node
abbrev pub graph_names : GraphView → List (List ℕ)
graph_names graph = list_names graph.inputs graph.outputs graph.input_sides graph.output_sides ++ flat_map node_names graph.nodes

-- There is a subgraph node, and the graph or a file that it uses has a name of the form of a prefix.
abbrev pub reserved_name : GraphView → List GraphView → Option ExpandFault
reserved_name main library =
    if list_any (is_subgraph library) main.nodes
    then option_map ReservedName (find is_reserved (flat_map graph_names (main ∷ used_files main library)))
    else None

-- the first name that stands at two stream ports of a file, or else at two side packet ports
abbrev pub shared_name : GraphView → Option (List ℕ)
shared_name file =
    option_or (first_twice (port_names file.inputs ++ port_names file.outputs)) (first_twice (port_names file.input_sides ++ port_names file.output_sides))

abbrev pub port_shared_in : GraphView → Option ExpandFault
port_shared_in file = option_map (PortShared file.type_name) (shared_name file)

abbrev pub port_shared : GraphView → List GraphView → Option ExpandFault
port_shared main library = first_some port_shared_in (used_files main library)

-- The first fault of a subgraph node, by a judgement of its number, itself and its file; the nodes are counted from n on.
abbrev pub node_fault : List GraphView → (ℕ → NodeView → GraphView → Option ExpandFault) → ℕ → List NodeView → Option ExpandFault
node_fault library judge n [] = None
node_fault library judge n (node ∷ nodes) =
    option_or (option_and_then (judge n node) (file_of library node.calculator)) (node_fault library judge (suc n) nodes)

-- the first fault of a subgraph node in a file
abbrev pub fault_in : (List ℕ → ℕ → NodeView → GraphView → Option ExpandFault) → List GraphView → GraphView → Option ExpandFault
fault_in judge library file = node_fault library (judge file.type_name) 0 file.nodes

-- the first fault of a subgraph node in the main graph, which is called `main`, or else in the files that it uses
abbrev pub owned_fault : (List ℕ → ℕ → NodeView → GraphView → Option ExpandFault) → GraphView → List GraphView → Option ExpandFault
owned_fault judge main library =
    option_or (node_fault library (judge (codes "main")) 0 main.nodes)
    (first_some (fault_in judge library) (used_files main library))

-- whether there are any fields
abbrev pub has_fields : Fields → Bool
has_fields none = false
has_fields (scalar name kind bytes rest) = true
has_fields (message name inner rest) = true

abbrev pub is_zero : ℤ → Bool
is_zero (pos n) = n == 0
is_zero number = false

-- the name of the first field of a node that a subgraph node can't have
abbrev pub bad_field_of : NodeView → Option (List ℕ)
bad_field_of node =
    if has_fields node.options then Some (codes "options") else
    (if not (length node.back_marks == 0) then Some (codes "input_stream_info") else
    (if not (bytes_eq node.handler []) then Some (codes "input_stream_handler") else
    (if not (is_zero node.max_in_flight) then Some (codes "max_in_flight") else None)))

abbrev pub bad_field_at : List ℕ → ℕ → NodeView → GraphView → Option ExpandFault
bad_field_at owner n node file = option_map (BadField owner n) (bad_field_of node)

abbrev pub bad_field : GraphView → List GraphView → Option ExpandFault
bad_field = owned_fault bad_field_at

-- the first of the given ports whose tag and index no port of a file has
abbrev pub port_beyond : List Port → List Port → Option Port
port_beyond given ports = find (λ port. not (has_port port.tag port.index ports)) given

-- the first port of a node that the file hasn't
abbrev pub missing_port : NodeView → GraphView → Option Port
missing_port node file =
    option_or (port_beyond node.inputs file.inputs) (option_or (port_beyond node.outputs file.outputs)
    (option_or (port_beyond node.input_sides file.input_sides) (port_beyond node.output_sides file.output_sides)))

abbrev pub no_such_port_at : List ℕ → ℕ → NodeView → GraphView → Option ExpandFault
no_such_port_at owner n node file = option_map (NoSuchPort owner n) (missing_port node file)

abbrev pub no_such_port : GraphView → List GraphView → Option ExpandFault
no_such_port = owned_fault no_such_port_at
