-- The calculators of nodes, as the code keeps them.
use Rattle.std.specs.Prelude.{ℕ, ◌≡◌, List, Option, length, map, find, option_map}
use Rattle.mg_config.specs.Config.{NodeView, node_view}
use Rattle.mg_calc.specs.declared.shape.OuterShape.{OuterShape}
use Rattle.mg_check.specs.Choosing.{Chosen, chosen_nodes, outers_named, wanted, is_short}
use Rattle.mg_check.specs.Code.Groups.{kept}
use Rattle.mg_check.specs.declared.choosing.Choice.{Choice}
use Rattle.mg_check.specs.declared.choosing.Choices.{Choices}
use Rattle.mg_check.specs.declared.fault.CheckFault.{CheckFault}
use Rattle.mg_check.specs.declared.fault.CheckFault.TheVariants.{NoMoreBoxes}
use Rattle.mg_check.specs.declared.groups.Groups.{Groups}
use Rattle.mg_check.specs.declared.node_kind.NodeKind.{NodeKind}

-- The table has the numbers of the user-supplied calculators, by their names.
abbrev pub IsStock : Groups → List OuterShape → Type 0
IsStock stock outers = (name : List ℕ) → kept stock name ≡ outers_named outers name

-- The table has as many places of each name as nodes want a user-supplied calculator of it.
abbrev pub IsWanted : Groups → List NodeView → Type 0
IsWanted groups nodes = (name : List ℕ) → length (kept groups name) ≡ wanted nodes name

abbrev pub chosen_at : NodeView → NodeKind → Chosen
chosen_at node kind = record { node = node; kind = kind }

abbrev pub choice_view : Choice → Chosen
choice_view choice = chosen_at (node_view choice.node.now) choice.kind

abbrev pub choices_view : List Choice → List Chosen
choices_view choices = map choice_view choices

-- The choices are those of the nodes, with the calculators of this stock, and they count how many nodes want each.
pub record AreChosen (choices : Choices) (stock : Groups) (nodes : List NodeView) : Type 0 where
  pub list : (outers : List OuterShape) → IsStock stock outers → choices_view choices.list.items ≡ chosen_nodes outers nodes
  pub wanted : IsWanted choices.wanted nodes

-- the refusal of a node for whose calculator there are too few
abbrev pub too_few_of : List OuterShape → List NodeView → NodeView → CheckFault
too_few_of outers all node = NoMoreBoxes node.calculator (length (outers_named outers node.calculator)) (wanted all node.calculator)

-- the refusal of the first of some nodes for whose calculator there are too few, by how many of all nodes want it
abbrev pub short_in : List OuterShape → List NodeView → List NodeView → Option CheckFault
short_in outers all nodes = option_map (too_few_of outers all) (find (is_short outers all) nodes)
