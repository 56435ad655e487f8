-- Which files of a library nodes use.
use Rattle.std.specs.Prelude.{ℕ, zero, suc, List, Bool, ◌&&◌, ◌||◌, Option, is_some, find, filter, length}
use Rattle.std.specs.List.{list_any}
use Rattle.mg_config.specs.Config.{NodeView, GraphView}
use Rattle.mg_subgraph.specs.Names.{names}

-- whether a file has this type
abbrev pub is_of : List ℕ → GraphView → Bool
is_of type file = names type file.type_name

-- the file that a calculator names, if it names one
abbrev pub file_of : List GraphView → List ℕ → Option GraphView
file_of library calculator = find (is_of calculator) library

-- whether a node is a subgraph node: its calculator is the type of a file
abbrev pub is_subgraph : List GraphView → NodeView → Bool
is_subgraph library node = is_some (file_of library node.calculator)

-- whether one of the nodes uses a file directly: its calculator is the file's type
abbrev pub uses : List NodeView → GraphView → Bool
uses nodes file = list_any (λ node. is_of node.calculator file) nodes

-- whether nodes use a file directly or through at most so many others
abbrev pub reaches : ℕ → List GraphView → List NodeView → GraphView → Bool
reaches zero library nodes file = uses nodes file
reaches (suc others) library nodes file =
    reaches others library nodes file || list_any (λ other. reaches others library nodes other && uses other.nodes file) library

-- Whether nodes use a file, directly or not. No more files stand between than there are.
abbrev pub uses_file : List GraphView → List NodeView → GraphView → Bool
uses_file library nodes file = reaches (length library) library nodes file

-- the files that a graph uses, directly or not, in the order of the library
abbrev pub used_files : GraphView → List GraphView → List GraphView
used_files main library = filter (uses_file library main.nodes) library

-- whether a file uses itself, directly or not
abbrev pub is_recursive : List GraphView → GraphView → Bool
is_recursive library file = uses_file library file.nodes file
