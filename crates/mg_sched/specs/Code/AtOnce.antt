-- How far a node's next work came at once: which steps a net has made.
use Rattle.std.specs.Prelude.{◌≡◌, ℕ, ◌<◌, Bool, true, false, List, [], ◌∷◌, ◌++◌, length, Option, Some, None, slice_get}
use Rattle.mg_calc.specs.Rules.{Laws}
use Rattle.mg_calc.specs.declared.event.Event.{Event}
use Rattle.mg_calc.specs.declared.event.Event.TheVariants.{Claim, Perform, Commit}
use Rattle.mg_calc.specs.declared.event.Effect.TheVariants.{Idle, OutOfMemory}
use Rattle.mg_node.specs.declared.at_once.AtOnce.{AtOnce}
use Rattle.mg_node.specs.declared.at_once.AtOnce.TheVariants.{Other, NotReady as NoSet}
use Rattle.mg_node.specs.declared.claimed.Claimed.{Claimed}
use Rattle.mg_node.specs.declared.claimed.Claimed.TheVariants.{NotReady, InFlightFull, Draining, Ended}
use Rattle.mg_node.specs.Views.{IntakeView, WorkView, PerformedView, EngineView}
use Rattle.mg_node.specs.Running.{IsPerformed}
use Rattle.mg_node.specs.Claims.{Claims}
use Rattle.mg_node.specs.AtOnce.{DoesAtOnce}
use Rattle.mg_sched.specs.declared.reached.Reached.{Reached}
use Rattle.mg_sched.specs.declared.reached.Reached.TheVariants.{Nothing, NotClaimed, Answered, Claimed as OnlyClaimed, Performed, Committed}
use Rattle.mg_sched.specs.Views.{WorkQueueView, NetView}
use Rattle.mg_sched.specs.Places.{lengths_of, first_edge, with_engine, with_intake, with_work_queue}
use Rattle.mg_sched.specs.Acts.{Acts, with_noted}
use Rattle.mg_sched.specs.Runs.{IsRun}
use Rattle.mg_sched.specs.StandsFor.{StandsForSome, IsRunning}

-- a node's engine claims from its intake, and the limits hear how many packets wait now at each of its ports. What is handed out lies in no
-- work queue
pub record NodeHandsOut {C : Type 0} (node : ℕ) (claimed : Claimed C) (before now : NetView) : Type 0 where
  pub engine : EngineView
  pub at : slice_get before.engines node ≡ Some engine
  pub intake : IntakeView
  pub to : slice_get before.intakes node ≡ Some intake
  pub engine_now : EngineView
  pub intake_now : IntakeView
  pub claims : Claims {C = C} claimed engine engine_now intake intake_now
  pub now_is : now ≡ with_noted (with_intake (with_engine before node engine_now) node intake_now) (first_edge before.plan node) (lengths_of intake_now.waits)

-- no set was claimed to be shown
abbrev pub did_nothing : {C : Type 0} → AtOnce C → Bool
did_nothing Other = true
did_nothing NoSet = true
did_nothing done = false

-- a node's engine shows the node's next set to its calculator. The limits hear how many packets wait now at each of the node's ports
pub record ShowsTo (laws : Laws) {C : Type 0} (node : ℕ) (done : AtOnce C) (before now : NetView) : Type 0 where
  pub engine : EngineView
  pub at : slice_get before.engines node ≡ Some engine
  pub intake : IntakeView
  pub to : slice_get before.intakes node ≡ Some intake
  pub engine_now : EngineView
  pub intake_now : IntakeView
  pub does : DoesAtOnce laws {C = C} done engine engine_now intake intake_now
  pub now_is : now ≡ with_noted (with_intake (with_engine before node engine_now) node intake_now) (first_edge before.plan node) (lengths_of intake_now.waits)

-- an engine tries to show a node's next set. Nothing changes, or a claim finds that no set is ready, or the set is claimed and shown
abbrev pub ShowsAt : (laws : Laws) {C : Type 0} → ℕ → AtOnce C → NetView → NetView → Type 0
ShowsAt laws node Other before now = now ≡ before
ShowsAt laws {C} node NoSet before now = NodeHandsOut {C = C} node NotReady before now
ShowsAt laws {C} node done before now = ShowsTo laws {C = C} node done before now

-- a claim took nothing
abbrev pub took_none : {C : Type 0} → Claimed C → Bool
took_none NotReady = true
took_none InFlightFull = true
took_none Draining = true
took_none Ended = true
took_none claimed = false

-- a net with a work after those in a work queue
abbrev pub with_work : NetView → ℕ → WorkQueueView → WorkView → NetView
with_work net node work_queue work = with_work_queue net node (record work_queue { works = work_queue.works ++ work ∷ [] })

-- a work is handed out. If it lay in the work queue of its node, the net would stand for some job, and all nodes would be begun
pub record IsHandedOut (laws : Laws) (net : NetView) (node : ℕ) (work : WorkView) : Type 0 where
  pub work_queue : WorkQueueView
  pub on : slice_get net.work_queues node ≡ Some work_queue
  pub stands : StandsForSome laws (with_work net node work_queue work)
  pub running : IsRunning (with_work net node work_queue work)
  pub there : node < length net.plan.nodes

-- a work that is handed out was performed
pub record IsPerformedOut (laws : Laws) (net : NetView) (node number : ℕ) (performed : PerformedView) : Type 0 where
  pub work : WorkView
  pub out : IsHandedOut laws net node work
  pub done : IsPerformed laws work performed
  pub number_is : number ≡ work.number

-- the steps after the claim of a work, as far as the work came
abbrev pub steps_after : ℕ → Reached → List Event
steps_after node (Performed number) = Perform node number ∷ []
steps_after node (Committed number) = Perform node number ∷ Commit node number ∷ []
steps_after node reached = []

-- all steps that were made for a node's next work, as far as it came
abbrev pub steps_of : ℕ → Reached → List Event
steps_of node Nothing = []
steps_of node NotClaimed = []
steps_of node reached = Claim node ∷ steps_after node reached

-- a net has a node's next work in the node's work queue. It becomes another net by the steps after the claim, as far as the work came
abbrev pub ComesOn : Laws → ℕ → Reached → NetView → NetView → Type 0
ComesOn laws node Nothing before now = ⊥
ComesOn laws node NotClaimed before now = ⊥
ComesOn laws node reached before now = IsRun laws (steps_after node reached) before now

-- a net becomes another one by the claim, the performance and the commit of a node's next work, as far as the work came
abbrev pub Comes : Laws → ℕ → Reached → NetView → NetView → Type 0
Comes laws node Nothing before now = (now ≡ before) × Acts laws (Claim node) Idle before before
Comes laws node NotClaimed before now = Acts laws (Claim node) OutOfMemory before now
Comes laws node reached before now = IsRun laws (steps_of node reached) before now

-- whether something was done, or none if there was no memory for the next step
abbrev pub did_of : Reached → Option Bool
did_of Nothing = Some false
did_of NotClaimed = None
did_of Answered = Some true
did_of OnlyClaimed = None
did_of (Performed number) = None
did_of (Committed number) = Some true

-- a hearer has heard these events after those that it had heard before
abbrev pub HearsMore : {H : Type 0} → (H → H → List Event → Type 0) → H → H → List Event → Type 0
HearsMore {H} has_heard before now more = (began : H) (events : List Event) → has_heard began before events → has_heard began now (events ++ more)
