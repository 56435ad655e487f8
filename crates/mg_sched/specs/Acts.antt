-- The steps of a net. These definitions say what each event does to which part, and exactly when it does nothing. A step changes a net at
-- the named parts alone.
use Rattle.std.specs.Prelude.{◌≡◌, ◌≢◌, ℕ, ◌+◌, ◌<◌, ◌⊎◌, ◌||◌, ◌==◌, not, true, false, List, [], ◌∷◌, ◌++◌, map, length, All, Contains, Option, Some, None, slice_get, if◌then◌else◌, ⊤}
use Rattle.std.specs.List.{list_any}
use Rattle.mg_calc.specs.Rules.{Laws}
use Rattle.mg_calc.specs.declared.edge.Edge.{Edge}
use Rattle.mg_calc.specs.declared.event.Event.{Event}
use Rattle.mg_calc.specs.declared.event.Event.TheVariants.{Deliver, Advance, Claim, Perform, Commit, Relax}
use Rattle.mg_calc.specs.declared.event.Effect.{Effect}
use Rattle.mg_calc.specs.declared.event.Effect.TheVariants.{Did, Idle, OutOfMemory}
use Rattle.mg_calc.specs.declared.plan_stream.Producer.TheVariants.{Input}
use Rattle.mg_calc.specs.Plan.{graph_input, source_node, feeders}
use Rattle.mg_node.specs.declared.delivered.Delivered.{Delivered}
use Rattle.mg_node.specs.declared.delivered.Delivered.TheVariants.{Moved, OutOfMemory as NoRoom}
use Rattle.mg_node.specs.declared.claimed.Claimed.TheVariants.{Work, Answered, NotReady, InFlightFull, Draining, Ended, OutOfMemory as NoMemory}
use Rattle.mg_node.specs.Views.{IntakeView, WorkView, PerformedView, EngineView}
use Rattle.mg_node.specs.Ports.{port_queue}
use Rattle.mg_node.specs.Delivery.{Delivers}
use Rattle.mg_node.specs.Leading.{output_at}
use Rattle.mg_node.specs.Advances.{advanced, is_advanced}
use Rattle.mg_node.specs.Claims.{Claims, has_ended}
use Rattle.mg_node.specs.Running.{IsPerformed}
use Rattle.mg_node.specs.Shelves.{outcome_of, shelved, shelf_at, Unshelves}
use Rattle.mg_node.specs.Commits.{Commits}
use Rattle.mg_throttle.specs.declared.queue.Queue.{Queue}
use Rattle.mg_calc.specs.Reaching.{producer_of}
use Rattle.mg_throttle.specs.Throttle.{QueueLimits, noted, relaxed, stopped, is_full, IsThrottled}
use Rattle.mg_sched.specs.Views.{WorkQueueView, NetView}
use Rattle.mg_sched.specs.Places.{source_of, lengths_of, first_edge, with_engine, with_intake, with_work_queue, with_limits}

-- an event's node or edge is of the plan
abbrev pub IsEventOf : NetView → Event → Type 0
IsEventOf net (Deliver edge) = edge < length net.plan.edges
IsEventOf net (Advance node) = node < length net.plan.nodes
IsEventOf net (Claim node) = node < length net.plan.nodes
IsEventOf net (Perform node number) = node < length net.plan.nodes
IsEventOf net (Commit node number) = node < length net.plan.nodes
IsEventOf net Relax = ⊤

-- nothing happened
pub record Rests (effect : Effect) (before now : NetView) : Type 0 where
  pub idle : effect ≡ Idle
  pub same : now ≡ before

-- Limits hear what waits.

-- queues that are told their lengths, one after the other, from the queue of this number on
abbrev pub all_noted : List Queue → ℕ → List ℕ → List Queue
all_noted queues number [] = queues
all_noted queues number (n ∷ ns) = all_noted (noted queues number n) (number + 1) ns

-- a net whose limits are told the lengths of queues, from the queue of this number on
abbrev pub with_noted : NetView → ℕ → List ℕ → NetView
with_noted net number ns = with_limits net (record net.limits { queues = all_noted net.limits.queues number ns })

-- Deliveries.

-- an edge leads from a graph input that is throttled
pub record IsHeld (net : NetView) (e : Edge) : Type 0 where
  pub input : ℕ
  pub from : producer_of net.plan e.stream ≡ Some (Input input)
  pub throttled : IsThrottled net.plan net.limits (graph_input input)

-- the effect of a delivery
abbrev pub effect_of : Delivered → Effect
effect_of (Moved packets raised) = if not (packets == 0) || raised then Did else Idle
effect_of (NoRoom packets) = OutOfMemory

-- all packets that the port hasn't got go along an edge, and then the bound. A step moves at most 2^32 - 1 packets. The limits hear how
-- many packets wait now
pub record Brings (number : ℕ) (e : Edge) (effect : Effect) (before now : NetView) : Type 0 where
  pub place : ℕ
  pub from : source_of before.plan e ≡ Some place
  pub engine : EngineView
  pub at : slice_get before.engines place ≡ Some engine
  pub intake : IntakeView
  pub to : slice_get before.intakes e.node ≡ Some intake
  pub answer : Delivered
  pub intake_now : IntakeView
  pub moved : Delivers answer (output_at engine e) e.port 4294967295 intake.waits intake_now.waits
  pub claimed : intake_now.claimed ≡ intake.claimed
  pub still : answer ≡ Moved 0 false → intake_now ≡ intake
  pub effect_is : effect ≡ effect_of answer
  pub now_is : now ≡ with_noted (with_intake before e.node intake_now) number (length (port_queue intake_now.waits e.port).packets ∷ [])

-- what a delivery along the edge of this number does. It does nothing if the edge leads from a graph input that is throttled. Otherwise
-- packets go along the edge
pub record DeliversAlong (number : ℕ) (effect : Effect) (before now : NetView) : Type 0 where
  pub edge : Edge
  pub there : slice_get before.plan.edges number ≡ Some edge
  pub delivered : (IsHeld before edge × Rests effect before now) ⊎ (¬ IsHeld before edge × Brings number edge effect before now)

-- Advances.

-- a node's outputs are raised as far as what waits tells
pub record NodeAdvances (node : ℕ) (effect : Effect) (before now : NetView) : Type 0 where
  pub engine : EngineView
  pub at : slice_get before.engines node ≡ Some engine
  pub intake : IntakeView
  pub to : slice_get before.intakes node ≡ Some intake
  pub effect_is : effect ≡ (if is_advanced engine intake.waits then Did else Idle)
  pub now_is : now ≡ with_engine before node (advanced engine intake.waits)

-- Claims.

-- a node is a source that is throttled
pub record IsHeldSource (net : NetView) (node : ℕ) : Type 0 where
  pub feeds : Contains (feeders net.plan) (source_node node)
  pub throttled : IsThrottled net.plan net.limits (source_node node)

-- a work that is handed out lies in the work queue
pub record TakesWork (engine engine_now : EngineView) (intake intake_now : IntakeView) (work_queue work_queue_now : WorkQueueView) : Type 0 where
  pub work : WorkView
  pub claims : Claims {C = ℕ} (Work work) engine engine_now intake intake_now
  pub on_work_queue : work_queue_now ≡ record work_queue { works = work_queue.works ++ work ∷ [] }

-- what a claim gives, by its effect
abbrev pub ClaimsBy : Effect → EngineView → EngineView → IntakeView → IntakeView → WorkQueueView → WorkQueueView → Type 0
ClaimsBy Did engine engine_now intake intake_now work_queue work_queue_now =
    TakesWork engine engine_now intake intake_now work_queue work_queue_now ⊎ (Claims {C = ℕ} Answered engine engine_now intake intake_now × (work_queue_now ≡ work_queue))
ClaimsBy Idle engine engine_now intake intake_now work_queue work_queue_now =
    (Claims {C = ℕ} NotReady engine engine_now intake intake_now
    ⊎ (Claims {C = ℕ} InFlightFull engine engine_now intake intake_now
    ⊎ (Claims {C = ℕ} Draining engine engine_now intake intake_now
    ⊎ Claims {C = ℕ} Ended engine engine_now intake intake_now)))
    × (work_queue_now ≡ work_queue)
ClaimsBy OutOfMemory engine engine_now intake intake_now work_queue work_queue_now = Claims {C = ℕ} NoMemory engine engine_now intake intake_now × (work_queue_now ≡ work_queue)

-- a node's engine claims from its intake, and the limits hear how many packets wait now at each of its ports
pub record ClaimsNext (node : ℕ) (effect : Effect) (before now : NetView) : Type 0 where
  pub engine : EngineView
  pub at : slice_get before.engines node ≡ Some engine
  pub intake : IntakeView
  pub to : slice_get before.intakes node ≡ Some intake
  pub work_queue : WorkQueueView
  pub on : slice_get before.work_queues node ≡ Some work_queue
  pub engine_now : EngineView
  pub intake_now : IntakeView
  pub work_queue_now : WorkQueueView
  pub claims : ClaimsBy effect engine engine_now intake intake_now work_queue work_queue_now
  pub now_is : now
      ≡ with_noted (with_work_queue (with_intake (with_engine before node engine_now) node intake_now) node work_queue_now) (first_edge before.plan node) (lengths_of intake_now.waits)

-- what the claim of a node does: nothing if it is a source that is throttled, and otherwise the node claims its next work
abbrev pub NodeClaims : ℕ → Effect → NetView → NetView → Type 0
NodeClaims node effect before now = (IsHeldSource before node × Rests effect before now) ⊎ (¬ IsHeldSource before node × ClaimsNext node effect before now)

-- Works.

-- a work leaves the work queue, is performed, and stands in its window as performed and not committed. Out of memory: it lies where it lay
abbrev pub PerformedBy : Laws → Effect → ℕ → EngineView → WorkQueueView → List WorkView → WorkView → NetView → NetView → Type 0
PerformedBy laws Did node engine work_queue left work before now =
    (p : PerformedView) × IsPerformed laws work p × (now ≡ with_work_queue (with_engine before node (shelved engine (outcome_of p))) node (record work_queue { works = left }))
PerformedBy laws Idle node engine work_queue left work before now = ⊥
PerformedBy laws OutOfMemory node engine work_queue left work before now = now ≡ before

-- a node's work of this number lies in the node's work queue, and is performed
pub record Performs (laws : Laws) (node number : ℕ) (effect : Effect) (work_queue : WorkQueueView) (before now : NetView) : Type 0 where
  pub engine : EngineView
  pub at : slice_get before.engines node ≡ Some engine
  pub work : WorkView
  pub front : List WorkView
  pub back : List WorkView
  pub works : work_queue.works ≡ front ++ work ∷ back
  pub number_is : work.number ≡ number
  pub performed : PerformedBy laws effect node engine work_queue (front ++ back) work before now

-- a node's work of this number is performed, or no such work lies in the node's work queue
pub record NodePerforms (laws : Laws) (node number : ℕ) (effect : Effect) (before now : NetView) : Type 0 where
  pub work_queue : WorkQueueView
  pub on : slice_get before.work_queues node ≡ Some work_queue
  pub performed : (All (λ w. w.number ≢ number) work_queue.works × Rests effect before now) ⊎ Performs laws node number effect work_queue before now

-- Commits.

-- the limits once a node's engine is this one: if it has ended, the node's queues don't count
abbrev pub stopped_by : ℕ → EngineView → QueueLimits → QueueLimits
stopped_by node engine limits = if has_ended engine then record limits { queues = map (stopped node) limits.queues } else limits

-- what is performed and not committed leaves its window's entry and is committed
pub record CommitsTo (node number : ℕ) (engine : EngineView) (p : PerformedView) (before now : NetView) : Type 0 where
  pub taken : EngineView
  pub takes : Unshelves (Some p) engine taken number
  pub laid : ℕ
  pub engine_now : EngineView
  pub commits : Commits (outcome_of p) laid taken engine_now
  pub now_is : now ≡ with_limits (with_engine before node engine_now) (stopped_by node engine_now before.limits)

-- what is performed and not committed is committed. Out of memory: it stays in the window
abbrev pub CommittedBy : Effect → ℕ → ℕ → EngineView → PerformedView → NetView → NetView → Type 0
CommittedBy Did node number engine p before now = CommitsTo node number engine p before now
CommittedBy Idle node number engine p before now = ⊥
CommittedBy OutOfMemory node number engine p before now = now ≡ before

-- what a commit does: it commits what is performed and not committed, and does nothing if there is no such work
abbrev pub CommittedAt : ℕ → ℕ → Option PerformedView → Effect → EngineView → NetView → NetView → Type 0
CommittedAt node number None effect engine before now = Rests effect before now
CommittedAt node number (Some p) effect engine before now = CommittedBy effect node number engine p before now

-- a node's work of this number is committed, or no such work stands in the node's window as performed and not committed
pub record NodeCommits (node number : ℕ) (effect : Effect) (before now : NetView) : Type 0 where
  pub engine : EngineView
  pub at : slice_get before.engines node ≡ Some engine
  pub committed : CommittedAt node number (shelf_at engine number) effect engine before now

-- Limits are relaxed if a queue is full.

abbrev pub IsAnyFull : QueueLimits → Type 0
IsAnyFull limits = list_any is_full limits.queues ≡ true

abbrev pub LimitsRelax : Effect → NetView → NetView → Type 0
LimitsRelax effect before now =
    (¬ IsAnyFull before.limits × Rests effect before now)
    ⊎ (IsAnyFull before.limits × (effect ≡ Did) × (now ≡ with_limits before (record before.limits { queues = map relaxed before.limits.queues })))

-- A step: what an event does to a net, by its effect.
abbrev pub Acts : Laws → Event → Effect → NetView → NetView → Type 0
Acts laws (Deliver edge) effect before now = DeliversAlong edge effect before now
Acts laws (Advance node) effect before now = NodeAdvances node effect before now
Acts laws (Claim node) effect before now = NodeClaims node effect before now
Acts laws (Perform node number) effect before now = NodePerforms laws node number effect before now
Acts laws (Commit node number) effect before now = NodeCommits node number effect before now
Acts laws Relax effect before now = LimitsRelax effect before now
