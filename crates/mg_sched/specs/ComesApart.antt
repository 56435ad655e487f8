-- A net comes apart, into its engines and intakes by their places, its plan, and what stays of it. It is put together of them again.
use Rattle.std.specs.Prelude.{◌≡◌, ℕ, ◌+◌, ◌<◌, ◌≤◌, Bool, true, false, List, [], ◌∷◌, length, Option, Some, None, slice_get}
use Rattle.mg_value.specs.Payload.{Plain}
use Rattle.mg_calc.specs.Rules.{Laws}
use Rattle.mg_calc.specs.declared.edge.Edge.{Edge}
use Rattle.mg_calc.specs.declared.plan.Plan.{Plan}
use Rattle.mg_calc.specs.declared.plan_node.PlanNode.{PlanNode}
use Rattle.mg_calc.specs.Told.{BoxTold}
use Rattle.mg_calc.specs.Equations.{IsJob}
use Rattle.mg_node.specs.Views.{IntakeView, WorkView, OutcomeView, EngineView}
use Rattle.mg_node.specs.Job.{LoggedJob, ports_of}
use Rattle.mg_node.specs.Lawful.{of_node, of_input, LawfulIntake, LawfulEngine, Agree}
use Rattle.mg_node.specs.Leading.{HasStream}
use Rattle.mg_node.specs.Leaving.{NoneOut}
use Rattle.mg_node.specs.Shelves.{shelved}
use Rattle.mg_node.specs.Windows.{has_ended}
use Rattle.mg_throttle.specs.declared.queue.Queue.{Queue}
use Rattle.mg_throttle.specs.Throttle.{QueueLimits, AreLimitsOf}
use Rattle.mg_sched.specs.Views.{WorkQueueView, NetView}
use Rattle.mg_sched.specs.Places.{source_of, with_limits}
use Rattle.mg_sched.specs.StandsFor.{IsJoined, KnowsLimits, HasSpare}

-- what stays of a net whose plan and parts are away: its side packets, its work queues, its limits, and the places of user-supplied
-- calculators. It also has for each stream whether all of it is kept
pub record RestView : Type 0 where
  pub given : List (Option Plain)
  pub work_queues : List WorkQueueView
  pub limits : QueueLimits
  pub spare : List (Option BoxTold)
  pub kept : List Bool

-- what a net comes apart into
pub record PartsView : Type 0 where
  pub plan : Plan
  -- the engines of the nodes, and after them those of the graph inputs; the intakes of the nodes, and after them the collector's
  pub engines : List EngineView
  pub intakes : List IntakeView
  pub rest : RestView

-- the parts of a net
abbrev pub parts_in : NetView → PartsView
parts_in net = record {
  plan = net.plan;
  engines = net.engines;
  intakes = net.intakes;
  rest = record { given = net.given; work_queues = net.work_queues; limits = net.limits; spare = net.spare; kept = net.kept };
}

-- Works that lie in work queues come back.

-- a work as an outcome that wasn't performed
abbrev pub unrun_of : WorkView → OutcomeView
unrun_of work = record { work = work; answer = None }

-- an engine whose window has these works again, not performed
abbrev pub all_shelved : EngineView → List WorkView → EngineView
all_shelved engine [] = engine
all_shelved engine (work ∷ works) = shelved (all_shelved engine works) (unrun_of work)

-- the works in the work queues of the first `count` nodes stand in their windows again. These queues are empty, and all else is what it was
pub record PutsBack (count : ℕ) (engines engines_now : List EngineView) (work_queues work_queues_now : List WorkQueueView) : Type 0 where
  pub engine_count : length engines_now ≡ length engines
  pub work_queue_count : length work_queues_now ≡ length work_queues
  pub shelves : (node : ℕ) (engine : EngineView) (work_queue : WorkQueueView) → node < count → slice_get engines node ≡ Some engine → slice_get work_queues node ≡ Some work_queue
      → slice_get engines_now node ≡ Some (all_shelved engine work_queue.works)
  pub empties : (node : ℕ) (work_queue : WorkQueueView) → node < count → slice_get work_queues node ≡ Some work_queue → slice_get work_queues_now node ≡ Some (record work_queue { works = [] })
  pub others : (place : ℕ) → count ≤ place → slice_get engines_now place ≡ slice_get engines place
  pub other_work_queues : (place : ℕ) → count ≤ place → slice_get work_queues_now place ≡ slice_get work_queues place

-- no work lies in a work queue
abbrev pub NoneOnWorkQueues : NetView → Type 0
NoneOnWorkQueues net = (node : ℕ) (work_queue : WorkQueueView) → slice_get net.work_queues node ≡ Some work_queue → work_queue.works ≡ []

-- a net has come apart: the works in its work queues stand in their windows again, and nothing else has changed
pub record HasComeApart (net : NetView) (parts : PartsView) : Type 0 where
  pub puts_back : PutsBack (length net.plan.nodes) net.engines parts.engines net.work_queues parts.rest.work_queues
  pub others : parts ≡ parts_in (record net { engines = parts.engines; work_queues = parts.rest.work_queues })

-- Parts that are of one net.

-- what stays of a net fits a job, its plan and these engines. There is an empty work queue for each node, with room for its works. The
-- limits are those of the plan. The queues of a node that goes on count
pub record IsRestOf {laws : Laws} (job : LoggedJob laws) (plan : Plan) (engines : List EngineView) (rest : RestView) : Type 0 where
  pub given : rest.given ≡ job.job.inputs.sides
  pub work_queues : length rest.work_queues ≡ length plan.nodes
  pub empty : (node : ℕ) (work_queue : WorkQueueView) (planned : PlanNode) → slice_get rest.work_queues node ≡ Some work_queue → slice_get plan.nodes node ≡ Some planned
      → work_queue ≡ record { room = planned.in_flight; works = [] }
  pub limits : AreLimitsOf plan rest.limits
  pub counts : (number : ℕ) (e : Edge) (q : Queue) (engine : EngineView) → slice_get plan.edges number ≡ Some e → slice_get rest.limits.queues number ≡ Some q
      → e.node < length plan.nodes → slice_get engines e.node ≡ Some engine → has_ended engine ≡ false → q.counts ≡ true
  pub spare : HasSpare job rest.spare
  pub kept : length rest.kept ≡ length plan.streams

-- parts are those of one net for a job. There is a part at each place, and each part is lawful. The engine and the intake of a node agree,
-- and no work is out. At each edge no more came to the port than was laid at the output. The output keeps what hasn't come
pub record ArePartsOf {laws : Laws} (job : LoggedJob laws) (parts : PartsView) : Type 0 where
  pub is_job : IsJob job.job
  pub plan : parts.plan ≡ job.job.plan
  pub engine_count : length parts.engines ≡ length parts.plan.nodes + length parts.plan.inputs
  pub intake_count : length parts.intakes ≡ length parts.plan.nodes + 1
  pub engines : (node : ℕ) (engine : EngineView) → node < length parts.plan.nodes → slice_get parts.engines node ≡ Some engine → LawfulEngine job (of_node node) engine
  pub inputs : (input : ℕ) (engine : EngineView) → slice_get parts.engines (length parts.plan.nodes + input) ≡ Some engine → LawfulEngine job (of_input input) engine
  pub intakes : (consumer : ℕ) (intake : IntakeView) → slice_get parts.intakes consumer ≡ Some intake → LawfulIntake job consumer intake
  pub agree : (node : ℕ) (engine : EngineView) (intake : IntakeView) → node < length parts.plan.nodes → slice_get parts.engines node ≡ Some engine → slice_get parts.intakes node ≡ Some intake
      → Agree engine intake
  pub none_out : (node : ℕ) (engine : EngineView) → node < length parts.plan.nodes → slice_get parts.engines node ≡ Some engine → NoneOut engine
  pub edges : (e : Edge) (number place : ℕ) (engine : EngineView) (intake : IntakeView) → slice_get parts.plan.edges number ≡ Some e → source_of parts.plan e ≡ Some place
      → slice_get parts.engines place ≡ Some engine → slice_get parts.intakes e.node ≡ Some intake → IsJoined engine e intake
  pub rest : IsRestOf job parts.plan parts.engines parts.rest

-- there is a job for which parts are those of one net
pub record AreParts (laws : Laws) (parts : PartsView) : Type 0 where
  pub job : LoggedJob laws
  pub parts_of : ArePartsOf job parts

-- an edge is in its place. It leads from an engine that has its stream to the port of that stream, and no other edge leads there
pub record IsInPlace (parts : PartsView) (number : ℕ) (e : Edge) : Type 0 where
  pub place : ℕ
  pub from : source_of parts.plan e ≡ Some place
  pub engine : EngineView
  pub at : slice_get parts.engines place ≡ Some engine
  pub leaves : HasStream engine e
  pub intake : IntakeView
  pub to : slice_get parts.intakes e.node ≡ Some intake
  pub port : slice_get (ports_of parts.plan e.node) e.port ≡ Some e.stream
  pub alone : (other : ℕ) (x : Edge) → slice_get parts.plan.edges other ≡ Some x → x.node ≡ e.node → x.port ≡ e.port → other ≡ number

-- Put together.

-- the net that has these parts: every node counts as begun, and none as wound up
abbrev pub net_of : PartsView → NetView
net_of parts = record {
  plan = parts.plan;
  given = parts.rest.given;
  engines = parts.engines;
  intakes = parts.intakes;
  work_queues = parts.rest.work_queues;
  limits = parts.rest.limits;
  spare = parts.rest.spare;
  kept = parts.rest.kept;
  begun = length parts.plan.nodes;
  wound = 0;
}

-- a net that was put together of parts: it has these, and its limits know what waits
pub record IsPutTogether (parts : PartsView) (net : NetView) : Type 0 where
  pub made : net ≡ with_limits (net_of parts) net.limits
  pub knows : KnowsLimits net
