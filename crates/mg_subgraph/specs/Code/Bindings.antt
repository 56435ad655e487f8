-- The new names of a file's contents where a node uses the file, as the code keeps them.
use Rattle.std.specs.Prelude.{ℕ, ◌≡◌, List, ◌++◌, unwrap_or}
use Rattle.mg_config.specs.Config.{NodeView, GraphView}
use Rattle.mg_subgraph.specs.Names.{prefix, joined_name, stream_name, side_name}
use Rattle.mg_subgraph.specs.declared.renaming.Binding.{Binding}
use Rattle.mg_subgraph.specs.declared.renaming.Use.{Use}

-- what an inner name becomes: the name that the node connects, or else the name with a prefix
abbrev pub new_name : Binding → List ℕ → List ℕ → List ℕ
new_name binding front name = unwrap_or (joined_name binding.given_in.now binding.given_out.now binding.inputs.now binding.outputs.now name) (front ++ name)

-- The code has the new names where this node, with the number n, uses this file.
pub record IsUse (used : Use) (n : ℕ) (node : NodeView) (file : GraphView) : Type 0 where
  pub front : used.prefix ≡ prefix n
  pub streams : (name : List ℕ) → new_name used.streams used.prefix name ≡ stream_name n node file name
  pub sides : (name : List ℕ) → new_name used.sides used.prefix name ≡ side_name n node file name
