-- What a caller knows of a part that is lawful for a job, without a look at what makes it so.
use Rattle.std.specs.Prelude.{◌≡◌, ℕ, ◌+◌, ◌<◌, ◌≤◌, true, [], length, None}
use Rattle.mg_calc.specs.Rules.{Laws}
use Rattle.mg_calc.specs.declared.plan_node.PlanNode.{PlanNode}
use Rattle.mg_node.specs.declared.role.Role.TheVariants.{Input}
use Rattle.mg_node.specs.Views.{EngineView}
use Rattle.mg_node.specs.Job.{LoggedJob}
use Rattle.mg_node.specs.Lawful.{IsSetUp}

-- the engine of a node: it is set up by the node and begun, and has an output for each output of the node. No more is laid than is claimed,
-- and each of its contexts is idle or with a work.
pub record IsKnown (node : PlanNode) (number : ℕ) (view : EngineView) : Type 0 where
  pub set_up : IsSetUp node number view
  pub begun : view.begun ≡ true
  pub outputs : length view.outputs ≡ length node.outputs
  pub few : view.laid ≤ view.claimed
  pub contexts : length view.idle + length view.window ≡ view.in_flight

-- the engine of a graph input: it has its number, one output, and no works
pub record IsKnownInput {laws : Laws} (job : LoggedJob laws) (number : ℕ) (view : EngineView) : Type 0 where
  pub there : number < length job.job.plan.inputs
  pub role : view.role ≡ Input
  pub number_is : view.node ≡ number
  pub first : view.first ≡ number
  pub one : length view.outputs ≡ 1
  pub laid : view.laid ≡ 0
  pub claimed : view.claimed ≡ 0
  pub window : view.window ≡ []
  pub idle : view.idle ≡ []
  pub fault : view.fault ≡ None
