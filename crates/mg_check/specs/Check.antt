-- The plan of an expanded graph, with the user-supplied calculators, or its first refusal.
use Rattle.std.specs.Prelude.{List, Option, None, Some, Result, Ok, Err, IsTrue}
use Rattle.std.specs.Option.{option_or}
use Rattle.mg_config.specs.Config.{GraphView}
use Rattle.mg_calc.specs.declared.plan.Plan.{Plan}
use Rattle.mg_calc.specs.declared.shape.OuterShape.{OuterShape}
use Rattle.mg_calc.specs.Shape.{ParametersFit, IsShapeOf}
use Rattle.mg_check.specs.Fitting.{may_be_outer}
use Rattle.mg_check.specs.Drafts.{drafts, node_refusal}
use Rattle.mg_check.specs.Joining.{join_refusal}
use Rattle.mg_check.specs.Planning.{plan_of}
use Rattle.mg_check.specs.declared.fault.CheckFault.{CheckFault}

-- the first refusal: of nodes by themselves, and then of how they are joined
abbrev pub refusal : List OuterShape → GraphView → Option CheckFault
refusal outers graph = option_or (node_refusal outers graph.nodes) (join_refusal graph (drafts outers graph.nodes))

abbrev pub check_by : Option CheckFault → Plan → Result Plan CheckFault
check_by None plan = Ok plan
check_by (Some fault) plan = Err fault

-- the plan, or the first refusal
abbrev pub check_of : List OuterShape → GraphView → Result Plan CheckFault
check_of outers graph = check_by (refusal outers graph) (plan_of graph (drafts outers graph.nodes))

-- A user-supplied calculator that may have its law has that law's shape, and the law has parameters in their ranges.
abbrev pub IsOuterShape : OuterShape → Type 0
IsOuterShape outer = IsTrue (may_be_outer outer.law) → ParametersFit outer.law × IsShapeOf outer.law outer.shape
