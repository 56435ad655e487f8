-- A net as the tests drive it: it is of the plan, and its nodes are begun. It stands for the job that the plan and its inputs make,
-- whatever logs the user-supplied calculators had at its start.
use Rattle.std.specs.Prelude.{◌≡◌}
use Rattle.mg_calc.specs.Rules.{Laws}
use Rattle.mg_calc.specs.declared.inputs.Inputs.{Inputs}
use Rattle.mg_calc.specs.declared.plan.Plan.{Plan}
use Rattle.mg_sched.specs.Views.{NetView}
use Rattle.mg_sched.specs.StandsFor.{StandsForSome, IsRunning}

-- a net stands for a job of this plan and these inputs
pub record StandsOver (laws : Laws) (plan : Plan) (inputs : Inputs) (net : NetView) : Type 0 where
  pub stands : StandsForSome laws net
  pub of_job : stands.job.job ≡ record { plan = plan; inputs = inputs; laws = stands.job.job.laws }

-- a net is driven: it is of this plan, its nodes are begun, and it stands for a job of this plan and these inputs
pub record IsDriven (laws : Laws) (plan : Plan) (inputs : Inputs) (net : NetView) : Type 0 where
  pub of_plan : net.plan ≡ plan
  pub running : IsRunning net
  pub stands : StandsForSome laws net
  pub of_job : stands.job.job ≡ record { plan = plan; inputs = inputs; laws = stands.job.job.laws }
