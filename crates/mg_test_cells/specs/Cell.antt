-- The cell of a plan's first node, with the collector after it, as the tests drive it. Each of its parts is lawful for the job that
-- the plan and its inputs make. Between two calls no work is out.
use Rattle.std.specs.Prelude.{◌≡◌, [], map, All, length, is_some, refl}
use Rattle.mg_calc.specs.Rules.{Laws}
use Rattle.mg_calc.specs.declared.plan.Plan.{Plan}
use Rattle.mg_calc.specs.declared.inputs.Inputs.{Inputs}
use Rattle.mg_calc.specs.declared.plan_node.PlanNode.{PlanNode}
use Rattle.mg_calc.specs.Equations.{IsJob}
use Rattle.mg_route.specs.HolderView.{HolderView}
use Rattle.mg_node.specs.Views.{IntakeView, EngineView}
use Rattle.mg_node.specs.Job.{LoggedJob}
use Rattle.mg_node.specs.Lawful.{LawfulEngine, LawfulIntake, Agree, of_node}
use Rattle.mg_node.specs.Fresh.{own_told}

-- the job of a plan and its inputs; no calculator keeps a log
abbrev pub job_of : (laws : Laws) → Plan → Inputs → LoggedJob laws
job_of laws plan inputs = record { job = record { plan = plan; inputs = inputs; laws = laws }; boxes = []; same = refl }

-- the calculator of a node: it is user-supplied if the node has the number of a box
abbrev pub held_of : PlanNode → HolderView
held_of node = record (own_told node) { handed = is_some node.box_number }

-- an engine has given up no packet of its outputs
abbrev pub KeepsAll : EngineView → Type 0
KeepsAll engine = All (λ n. n ≡ 0) (map (λ b. b.gone) engine.outputs)

-- the parts of a cell as the tests drive it are lawful for its job, agree, and have given up no packet
pub record IsCell (laws : Laws) (plan : Plan) (inputs : Inputs) (engine : EngineView) (intake sink : IntakeView) : Type 0 where
  pub is_job : IsJob (record { plan = plan; inputs = inputs; laws = laws })
  pub lawful_engine : LawfulEngine (job_of laws plan inputs) (of_node 0) engine
  pub lawful_intake : LawfulIntake (job_of laws plan inputs) 0 intake
  pub agree : Agree engine intake
  pub lawful_sink : LawfulIntake (job_of laws plan inputs) (length plan.nodes) sink
  pub keeps : KeepsAll engine
