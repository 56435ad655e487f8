-- How many nodes files expand to.
use Rattle.std.specs.Prelude.{ℕ, ◌+◌, ◌≡◌, List, true, false, Option, Some, length, min, slice_get, []}
use Rattle.std.specs.Option.{option_map_or}
use Rattle.mg_config.specs.Config.{NodeView, GraphView}
use Rattle.mg_subgraph.specs.Library.{uses_file, is_recursive}
use Rattle.mg_subgraph.specs.Expanded.{expanded}
use Rattle.mg_subgraph.specs.Refusals.{max_nodes}

-- the number of nodes, or one more than there may be if the number is above that
abbrev pub counted : List NodeView → ℕ
counted nodes = min (length nodes) (max_nodes + 1)

-- None of the files that nodes use, directly or not, uses itself.
abbrev pub AreGrounded : List GraphView → List NodeView → Type 0
AreGrounded library nodes = (place : ℕ) (file : GraphView) → slice_get library place ≡ Some file → uses_file library nodes file ≡ true → is_recursive library file ≡ false

-- the nodes of the file at a place
abbrev pub nodes_at : List GraphView → ℕ → List NodeView
nodes_at library place = option_map_or (λ file. file.nodes) (slice_get library place) []

-- Each size that is kept is that of its file's expanded nodes.
abbrev pub AreSizes : List GraphView → List (Option ℕ) → Type 0
AreSizes library sizes = (place size : ℕ) → slice_get sizes place ≡ Some (Some size) → size ≡ counted (expanded library (nodes_at library place))
