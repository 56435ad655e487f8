-- What contracts see of a holder: what its calculator tells of itself, and whether it is user-supplied.
use Rattle.std.specs.Prelude.{◌≡◌, Bool, List, Option, is_some, if◌then◌else◌}
use Rattle.mg_value.specs.Plain.{Plain}
use Rattle.mg_calc.specs.declared.law.Law.{Law}
use Rattle.mg_calc.specs.declared.shape.Shape.{Shape}
use Rattle.mg_calc.specs.declared.call.Call.{Call}
use Rattle.mg_calc.specs.declared.plan_node.PlanNode.{PlanNode}
use Rattle.mg_calc.specs.Law.{table_rules, rules_of}
use Rattle.mg_calc.specs.Rules.{Rules, Laws}
use Rattle.mg_calc.specs.Told.{BoxTold}

pub record HolderView : Type 0 where
  pub law : Law
  pub shape : Shape
  pub state : List Plain
  pub log : Option (List Call)
  pub handed : Bool

-- the view of a holder, from whether its calculator is user-supplied, and what the calculator tells of itself
abbrev pub holder_view : Bool → BoxTold → HolderView
holder_view handed told = record { law = told.law; shape = told.shape; state = told.state; log = told.log; handed = handed }

-- what the calculator of a holder tells of itself
abbrev pub told_by : HolderView → BoxTold
told_by held = record { law = held.law; shape = held.shape; state = held.state; log = held.log }

-- the rules of a holder's calculator: those of its law if it is user-supplied, and those of the table if it is built in
abbrev pub held_rules : Laws → HolderView → Rules
held_rules laws held = if held.handed then rules_of laws held.law else table_rules held.law

-- a holder has a node's law and shape; its calculator is user-supplied exactly if the node is given one
pub record FitsHolder (node : PlanNode) (held : HolderView) : Type 0 where
  pub same_law : held.law ≡ node.law
  pub same_shape : held.shape ≡ node.shape
  pub same_handed : held.handed ≡ is_some node.box_number
