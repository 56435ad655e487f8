-- What contracts see of a net: a record of plain data.
use Rattle.std.specs.Prelude.{ℕ, Bool, List, Option}
use Rattle.mg_value.specs.Payload.{Plain}
use Rattle.mg_calc.specs.declared.plan.Plan.{Plan}
use Rattle.mg_calc.specs.Told.{BoxTold}
use Rattle.mg_node.specs.Views.{IntakeView, WorkView, EngineView}
use Rattle.mg_throttle.specs.Throttle.{QueueLimits}

-- a work queue. It has the works of a node that are claimed and not performed, in the order in which they were claimed. Its room is how
-- many works may lie there
pub record WorkQueueView : Type 0 where
  pub room : ℕ
  pub works : List WorkView

-- a net
pub record NetView : Type 0 where
  -- its plan, and its side packets
  pub plan : Plan
  pub given : List (Option Plain)
  -- the engines of the nodes, and after them those of the graph inputs. The intakes of the nodes, and after them the collector's. The work
  -- queues of the nodes
  pub engines : List EngineView
  pub intakes : List IntakeView
  pub work_queues : List WorkQueueView
  -- the limits of its queues, and what waits in them as the limits were told
  pub limits : QueueLimits
  -- the places of the user-supplied calculators: those that no node uses lie here
  pub spare : List (Option BoxTold)
  -- of each stream whether all that is laid of it is kept, also what has come along all its edges
  pub kept : List Bool
  -- how many of the nodes are begun, from the first on, and how many are wound up
  pub begun : ℕ
  pub wound : ℕ
