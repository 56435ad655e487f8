-- What a recorded run that isn't accepted leaves of the user-supplied calculators.
use Rattle.std.specs.Prelude.{◌≡◌, ◌⊎◌, ◌≤◌, true, false, List}
use Rattle.mg_value.specs.Payload.{Plain}
use Rattle.mg_settled.specs.Prefix.{StreamPrefix}
use Rattle.mg_calc.specs.declared.plan_node.PlanNode.{PlanNode}
use Rattle.mg_calc.specs.Equations.{Job}
use Rattle.mg_calc.specs.Told.{BoxTold}
use Rattle.mg_answer.specs.Devices.{Device}
use Rattle.mg_node.specs.Had.{FailsToOpen}
use Rattle.mg_drive.specs.Leaves.{KeepsAFront, HadInJob}

-- A calculator was opened and closed. If it tells a log, the log grew by a prefix of its node's calls in a solution, and then by
-- Close. The prefix is Open and perhaps a Process for each of the first sets that the node is shown. If Open fails, the log grew by
-- Open alone. The calculator keeps what its node has reached after these calls.
pub record HadAClose (job : Job) (streams : List (StreamPrefix Plain)) (node : PlanNode) (before now : BoxTold) : Type 0 where
  pub keeps : KeepsAFront job streams node before now
  pub begun : 1 ≤ keeps.count
  pub closed : ((keeps.close ≡ true) × ¬ FailsToOpen job streams node) ⊎ ((keeps.close ≡ false) × FailsToOpen job streams node)

-- Each calculator that a node uses was opened and closed, in the solution of a job.
abbrev pub HadCloses : Job → Device (List BoxTold) → Type 0
HadCloses job boxes = HadInJob HadAClose job boxes
