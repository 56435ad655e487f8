-- The choice of a calculator for each node. A built-in calculator of the node goes before user-supplied ones of its name.
-- Otherwise each node takes the next user-supplied calculator of its name, in the order of both lists.
use Rattle.std.specs.Prelude.{ℕ, List, [], ◌∷◌, ◌++◌, Bool, ◌&&◌, ◌==◌, nat_lt, Option, None, Some, option_map, is_none, map, filter, length, count_by, position, find, slice_get}
use Rattle.std.specs.List.{enumerate_from}
use Rattle.std.specs.Str.{bytes_eq}
use Rattle.mg_config.specs.Config.{NodeView}
use Rattle.mg_calc.specs.declared.shape.OuterShape.{OuterShape}
use Rattle.mg_kinds.specs.Kinds.{kind_at}
use Rattle.mg_kinds.specs.declared.kind.CalculatorKind.{CalculatorKind}
use Rattle.mg_check.specs.declared.node_kind.NodeKind.{NodeKind}
use Rattle.mg_check.specs.declared.node_kind.NodeKind.TheVariants.{BuiltIn, Outer}
use Rattle.mg_check.specs.declared.fault.CheckFault.{CheckFault}
use Rattle.mg_check.specs.declared.fault.CheckFault.TheVariants.{UnknownCalculator, NoMoreBoxes}

-- the numbers of the user-supplied calculators of a name
abbrev pub outers_named : List OuterShape → List ℕ → List ℕ
outers_named outers name = map (λ e. e.0) (filter (λ e. bytes_eq name e.1.shape.name) (enumerate_from 0 outers))

-- whether a node wants a user-supplied calculator of a name: it names that calculator, and has no built-in one
abbrev pub wants : List ℕ → NodeView → Bool
wants name node = is_none (kind_at node) && bytes_eq name node.calculator

-- how many of these nodes want a user-supplied calculator of a name
abbrev pub wanted : List NodeView → List ℕ → ℕ
wanted nodes name = count_by (wants name) nodes

-- the calculator of a node: a built-in one, or else the next user-supplied calculator after so many were taken
abbrev pub kind_by : Option CalculatorKind → List ℕ → ℕ → Option NodeKind
kind_by (Some kind) numbers taken = Some (BuiltIn kind)
kind_by None numbers taken = option_map Outer (slice_get numbers taken)

-- the calculator of a node that stands after others, if there is one
abbrev pub kind_of : List OuterShape → List NodeView → NodeView → Option NodeKind
kind_of outers before node = kind_by (kind_at node) (outers_named outers node.calculator) (wanted before node.calculator)

-- a node, and the calculator that works at it
pub record Chosen : Type 0 where
  pub node : NodeView
  pub kind : NodeKind

-- further nodes, with a node before them if there is a calculator for it
abbrev pub with_kind : Option NodeKind → NodeView → List Chosen → List Chosen
with_kind None node more = more
with_kind (Some kind) node more = record { node = node; kind = kind } ∷ more

-- the nodes that stand after others and for which there is a calculator, each with its calculator
abbrev pub chosen_after : List OuterShape → List NodeView → List NodeView → List Chosen
chosen_after outers before [] = []
chosen_after outers before (node ∷ nodes) = with_kind (kind_of outers before node) node (chosen_after outers (before ++ node ∷ []) nodes)

-- the nodes for which there is a calculator, each with its calculator; these are all nodes if none is refused for lack of a calculator
abbrev pub chosen_nodes : List OuterShape → List NodeView → List Chosen
chosen_nodes outers nodes = chosen_after outers [] nodes

-- Refusals.

-- whether the calculator of a node is neither built in nor user-supplied
abbrev pub is_unknown : List OuterShape → NodeView → Bool
is_unknown outers node = is_none (kind_at node) && (length (outers_named outers node.calculator) == 0)

abbrev pub unknown_calculator : List OuterShape → List NodeView → Option CheckFault
unknown_calculator outers nodes = option_map UnknownCalculator (position (is_unknown outers) nodes)

-- whether a node's calculator isn't built in, and more nodes want it than there are user-supplied calculators of its name
abbrev pub is_short : List OuterShape → List NodeView → NodeView → Bool
is_short outers nodes node =
    is_none (kind_at node) && nat_lt (length (outers_named outers node.calculator)) (wanted nodes node.calculator)

abbrev pub no_more_boxes : List OuterShape → List NodeView → Option CheckFault
no_more_boxes outers nodes =
    option_map (λ node. NoMoreBoxes node.calculator (length (outers_named outers node.calculator)) (wanted nodes node.calculator))
    (find (is_short outers nodes) nodes)
