-- Limits that are told anew what waits, place by place.
use Rattle.std.specs.Prelude.{◌≡◌, ℕ, ◌<◌, not, true, false, [], length, Some, slice_get}
use Rattle.mg_calc.specs.declared.edge.Edge.{Edge}
use Rattle.mg_node.specs.Views.{IntakeView, EngineView}
use Rattle.mg_node.specs.Ports.{port_queue}
use Rattle.mg_node.specs.Windows.{has_ended}
use Rattle.mg_throttle.specs.declared.queue.Queue.{Queue}
use Rattle.mg_throttle.specs.Throttle.{AreLimitsOf}
use Rattle.mg_sched.specs.Views.{WorkQueueView, NetView}
use Rattle.mg_sched.specs.Places.{with_engine, with_work_queue, with_limits}
use Rattle.mg_sched.specs.ComesApart.{all_shelved}

-- the works in the work queue of a node stand in its window again
pub record PutsBackAt (node : ℕ) (before now : NetView) : Type 0 where
  pub engine : EngineView
  pub at : slice_get before.engines node ≡ Some engine
  pub work_queue : WorkQueueView
  pub on : slice_get before.work_queues node ≡ Some work_queue
  pub now_is : now ≡ with_work_queue (with_engine before node (all_shelved engine work_queue.works)) node (record work_queue { works = [] })

-- the limits of a net know what waits at the first `noted` consumers, and which of the first `stopped` nodes have ended. No queue of a node
-- that goes on was stopped
pub record ToldTo (noted stopped : ℕ) (start now : NetView) : Type 0 where
  pub same : now ≡ with_limits start now.limits
  pub of_plan : AreLimitsOf start.plan now.limits
  pub waiting : (number : ℕ) (e : Edge) (q : Queue) (intake : IntakeView) → slice_get start.plan.edges number ≡ Some e → slice_get now.limits.queues number ≡ Some q → e.node < noted
      → slice_get start.intakes e.node ≡ Some intake → q.waiting ≡ length (port_queue intake.waits e.port).packets
  pub counts : (number : ℕ) (e : Edge) (q : Queue) (engine : EngineView) → slice_get start.plan.edges number ≡ Some e → slice_get now.limits.queues number ≡ Some q → e.node < stopped → e.node < length start.plan.nodes
      → slice_get start.engines e.node ≡ Some engine → q.counts ≡ not (has_ended engine)
  pub goes_on : (number : ℕ) (e : Edge) (q : Queue) (engine : EngineView) → slice_get start.plan.edges number ≡ Some e → slice_get now.limits.queues number ≡ Some q → e.node < length start.plan.nodes
      → slice_get start.engines e.node ≡ Some engine → has_ended engine ≡ false → q.counts ≡ true
