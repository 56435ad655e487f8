-- The expanded nodes of a graph: each node itself, or the expanded nodes of the file that it uses, renamed.
use Rattle.std.specs.Prelude.{ℕ, zero, suc, List, [], ◌∷◌, ◌++◌, Option, None, Some, map, length}
use Rattle.mg_config.specs.Config.{NodeView, GraphView}
use Rattle.mg_subgraph.specs.Library.{file_of}
use Rattle.mg_subgraph.specs.Names.{renamed}

-- what stands in the place of the node with the number n, if it uses this file or none
abbrev pub replaced : (List NodeView → List NodeView) → ℕ → NodeView → Option GraphView → List NodeView
replaced expand n node None = node ∷ []
replaced expand n node (Some file) = map (renamed n node file) (expand file.nodes)

-- each of the nodes replaced in its place; they are counted from n on
abbrev pub all_replaced : (List NodeView → List NodeView) → List GraphView → ℕ → List NodeView → List NodeView
all_replaced expand library n [] = []
all_replaced expand library n (node ∷ nodes) = replaced expand n node (file_of library node.calculator) ++ all_replaced expand library (suc n) nodes

-- nodes expanded through files that stand in one another at most so deep
abbrev pub expanded_to : ℕ → List GraphView → List NodeView → List NodeView
expanded_to zero library nodes = nodes
expanded_to (suc depth) library nodes = all_replaced (expanded_to depth library) library 0 nodes

-- The expanded nodes. If no file uses itself, files stand in one another no deeper than there are files.
abbrev pub expanded : List GraphView → List NodeView → List NodeView
expanded library nodes = expanded_to (length library) library nodes
