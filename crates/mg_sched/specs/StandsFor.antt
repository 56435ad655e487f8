-- What a net stands for. Each of its parts is lawful for the job, and what two parts have to agree on holds. Its limits know what waits. A
-- net that stands for a job is somewhere on the way to the job's solution, in whatever order its steps were made.
use Rattle.std.specs.Prelude.{◌≡◌, ◌≢◌, ℕ, ◌+◌, ◌<◌, ◌≤◌, not, nat_lt, Bool, true, false, List, length, All, AllPairs, Any, Option, Some, None, IfSome, slice_get}
use Rattle.mg_calc.specs.Rules.{Laws}
use Rattle.mg_calc.specs.declared.edge.Edge.{Edge}
use Rattle.mg_calc.specs.Told.{BoxTold}
use Rattle.mg_calc.specs.Equations.{IsJob}
use Rattle.mg_stream.specs.Queue.{count_of}
use Rattle.mg_node.specs.Views.{IntakeView, EntryView, EngineView}
use Rattle.mg_node.specs.Job.{LoggedJob}
use Rattle.mg_node.specs.Ports.{port_queue}
use Rattle.mg_node.specs.Lawful.{of_node, of_input, LawfulIntake, LawfulWork, LawfulEngine, Agree}
use Rattle.mg_node.specs.Begun.{LawfulUnbegun}
use Rattle.mg_node.specs.Claims.{has_ended}
use Rattle.mg_node.specs.Shelves.{IsOut}
use Rattle.mg_node.specs.IntakeStanding.{HasGrown}
use Rattle.mg_node.specs.Leading.{output_at}
use Rattle.mg_throttle.specs.declared.queue.Queue.{Queue}
use Rattle.mg_throttle.specs.Throttle.{AreLimitsOf}
use Rattle.mg_sched.specs.Views.{WorkQueueView, NetView}
use Rattle.mg_sched.specs.Places.{source_of}

-- Cells.

-- the works of a work queue are those of its engine that are out. Each is out and lawful, no two have one number, and none is missing
pub record HasWorks {laws : Laws} (job : LoggedJob laws) (engine : EngineView) (work_queue : WorkQueueView) : Type 0 where
  pub room : work_queue.room ≡ engine.in_flight
  pub out : All (IsOut engine) work_queue.works
  pub lawful : All (LawfulWork job) work_queue.works
  pub apart : AllPairs (λ a b. a.number ≢ b.number) work_queue.works
  pub complete : (place : ℕ) (entry : EntryView) → slice_get engine.window place ≡ Some entry → entry.outcome ≡ None
      → Any (λ w. w.number ≡ engine.laid + place) work_queue.works

-- an engine is lawful, begun or not
abbrev pub IsEngine : {laws : Laws} → LoggedJob laws → Bool → ℕ → EngineView → Type 0
IsEngine {laws} job true node engine = LawfulEngine job (of_node node) engine
IsEngine {laws} job false node engine = LawfulUnbegun job node engine

-- the parts of a node are one cell
pub record IsCell {laws : Laws} (job : LoggedJob laws) (begun : Bool) (node : ℕ) (engine : EngineView) (intake : IntakeView) (work_queue : WorkQueueView) : Type 0 where
  pub lawful_engine : IsEngine job begun node engine
  pub lawful_intake : LawfulIntake job node intake
  pub agree : Agree engine intake
  pub works : HasWorks job engine work_queue

-- Edges.

-- an edge joins an engine and an intake. No more came to the port than was laid at the output, and the output keeps what hasn't come
pub record IsJoined (engine : EngineView) (e : Edge) (intake : IntakeView) : Type 0 where
  pub came : HasGrown (port_queue intake.waits e.port) (output_at engine e)
  pub kept : (output_at engine e).gone ≤ count_of (port_queue intake.waits e.port)

-- Limits.

-- limits know what waits: the queue of each edge has as many packets as wait at its port, and counts unless its node has ended
pub record KnowsQueue (net : NetView) (e : Edge) (q : Queue) : Type 0 where
  pub waiting : (intake : IntakeView) → slice_get net.intakes e.node ≡ Some intake → q.waiting ≡ length (port_queue intake.waits e.port).packets
  pub counts : (engine : EngineView) → e.node < length net.plan.nodes → slice_get net.engines e.node ≡ Some engine → q.counts ≡ not (has_ended engine)

pub record KnowsLimits (net : NetView) : Type 0 where
  pub of_plan : AreLimitsOf net.plan net.limits
  pub queues : (number : ℕ) (e : Edge) (q : Queue) → slice_get net.plan.edges number ≡ Some e → slice_get net.limits.queues number ≡ Some q → KnowsQueue net e q

-- Calculators.

-- the places of the user-supplied calculators. Each calculator that a node uses is gone from its place. Each other calculator lies there,
-- as it was at the start
pub record HasSpare {laws : Laws} (job : LoggedJob laws) (spare : List (Option BoxTold)) : Type 0 where
  pub count : length spare ≡ length job.boxes
  pub numbers : All (λ n. IfSome n.box_number (λ place. place < length spare)) job.job.plan.nodes
  pub used : (place : ℕ) → slice_get spare place ≡ Some None → Any (λ n. n.box_number ≡ Some place) job.job.plan.nodes
  pub unused : (place : ℕ) (told : BoxTold) → slice_get spare place ≡ Some (Some told)
      → All (λ n. ¬ (n.box_number ≡ Some place)) job.job.plan.nodes × (slice_get job.boxes place ≡ Some told)

-- Nets.

-- a net is one of a job. It has a part at each place, each part is lawful, and what two parts have to agree on holds
pub record IsNetOf {laws : Laws} (job : LoggedJob laws) (net : NetView) : Type 0 where
  pub is_job : IsJob job.job
  pub plan : net.plan ≡ job.job.plan
  pub given : net.given ≡ job.job.inputs.sides
  -- a part at each place
  pub engines : length net.engines ≡ length net.plan.nodes + length net.plan.inputs
  pub intakes : length net.intakes ≡ length net.plan.nodes + 1
  pub work_queues : length net.work_queues ≡ length net.plan.nodes
  -- each part is lawful
  pub cells : (node : ℕ) (engine : EngineView) (intake : IntakeView) (work_queue : WorkQueueView) → slice_get net.engines node ≡ Some engine → slice_get net.intakes node ≡ Some intake
      → slice_get net.work_queues node ≡ Some work_queue → IsCell job (nat_lt node net.begun) node engine intake work_queue
  pub inputs : (input : ℕ) (engine : EngineView) → slice_get net.engines (length net.plan.nodes + input) ≡ Some engine → LawfulEngine job (of_input input) engine
  pub collector : (intake : IntakeView) → slice_get net.intakes (length net.plan.nodes) ≡ Some intake → LawfulIntake job (length net.plan.nodes) intake
  -- at each edge engine and intake agree
  pub edges : (e : Edge) (number place : ℕ) (engine : EngineView) (intake : IntakeView) → slice_get net.plan.edges number ≡ Some e → source_of net.plan e ≡ Some place
      → slice_get net.engines place ≡ Some engine → slice_get net.intakes e.node ≡ Some intake → IsJoined engine e intake
  pub limits : KnowsLimits net
  pub spare : HasSpare job net.spare
  pub kept : length net.kept ≡ length net.plan.streams
  pub begun : net.begun ≤ length net.plan.nodes
  pub not_wound : net.wound ≡ 0

-- a net stands for a job
unfoldable pub StandsFor : {laws : Laws} → LoggedJob laws → NetView → Type 0
StandsFor {laws} job net = IsNetOf job net

-- there is a job for which a net stands
pub record StandsForSome (laws : Laws) (net : NetView) : Type 0 where
  pub job : LoggedJob laws
  pub stands : StandsFor job net

-- every node is begun
abbrev pub IsRunning : NetView → Type 0
IsRunning net = net.begun ≡ length net.plan.nodes
