-- Parts of a net that have nothing to do, told by these parts alone: that stays so, whatever becomes of the other parts.
use Rattle.std.specs.Prelude.{◌≡◌, ◌≢◌, ℕ, ◌+◌, ◌<◌, ◌≤◌, ◌⊎◌, false, List, [], length, Option, Some, None, slice_get, ⊤}
use Rattle.mg_calc.specs.Rules.{Laws}
use Rattle.mg_calc.specs.declared.edge.Edge.{Edge}
use Rattle.mg_calc.specs.declared.plan.Plan.{Plan}
use Rattle.mg_calc.specs.declared.event.Event.{Event}
use Rattle.mg_calc.specs.declared.event.Event.TheVariants.{Deliver, Advance, Claim, Perform, Commit, Relax}
use Rattle.mg_node.specs.declared.delivered.Delivered.TheVariants.{Moved}
use Rattle.mg_node.specs.declared.claimed.Claimed.TheVariants.{NotReady, InFlightFull, Draining, Ended}
use Rattle.mg_node.specs.Views.{IntakeView, EngineView}
use Rattle.mg_node.specs.Delivery.{Delivers}
use Rattle.mg_node.specs.Leading.{output_at}
use Rattle.mg_node.specs.Advances.{is_advanced}
use Rattle.mg_node.specs.Claims.{Claims}
use Rattle.mg_node.specs.Shelves.{shelf_at}
use Rattle.mg_ready.specs.Ready.{ReadyNodes, IsIn, ChangesOnly}
use Rattle.mg_sched.specs.Views.{WorkQueueView, NetView}
use Rattle.mg_calc.specs.declared.event.Effect.TheVariants.{Idle}
use Rattle.mg_sched.specs.Places.{source_of}
use Rattle.mg_sched.specs.Acts.{Acts}
use Rattle.mg_sched.specs.Code.Agendas.{AgendaView, IsAgendaOf, LeadsFrom, IsFirstFrom}
use Rattle.mg_sched.specs.Code.Left.{RestsAt}

-- Steps change the parts of one place.

-- the place of an event is that of its node, and of a delivery that of the consumer; limits have none
abbrev pub IsAt : Plan → Event → ℕ → Type 0
IsAt plan (Deliver edge) place = (e : Edge) → slice_get plan.edges edge ≡ Some e → e.node ≡ place
IsAt plan (Advance node) place = node ≡ place
IsAt plan (Claim node) place = node ≡ place
IsAt plan (Perform node number) place = node ≡ place
IsAt plan (Commit node number) place = node ≡ place
IsAt plan Relax place = ⊤

-- the parts of all other places are as they were
pub record OnlyAt (place : ℕ) (before now : NetView) : Type 0 where
  pub engines : (other : ℕ) → other ≢ place → slice_get now.engines other ≡ slice_get before.engines other
  pub intakes : (other : ℕ) → other ≢ place → slice_get now.intakes other ≡ slice_get before.intakes other
  pub work_queues : (other : ℕ) → other ≢ place → slice_get now.work_queues other ≡ slice_get before.work_queues other

-- an agenda has noted the places whose parts are no longer as they were
pub record Notes (before : NetView) (agenda : AgendaView) (now : NetView) (agenda_now : AgendaView) : Type 0 where
  pub grows : (place : ℕ) → IsIn agenda.touched place → IsIn agenda_now.touched place
  pub engines : (place : ℕ) → ¬ IsIn agenda_now.touched place → slice_get now.engines place ≡ slice_get before.engines place
  pub intakes : (place : ℕ) → ¬ IsIn agenda_now.touched place → slice_get now.intakes place ≡ slice_get before.intakes place
  pub work_queues : (place : ℕ) → ¬ IsIn agenda_now.touched place → slice_get now.work_queues place ≡ slice_get before.work_queues place

-- Parts with nothing to do.

-- all has come along an edge: a delivery would move nothing, and raise nothing
abbrev pub HasBrought : EngineView → Edge → IntakeView → Type 0
HasBrought engine e intake = Delivers (Moved 0 false) (output_at engine e) e.port 4294967295 intake.waits intake.waits

-- a node has no work to claim, to perform or to commit, and no output to raise
pub record IsDone (engine : EngineView) (intake : IntakeView) (work_queue : WorkQueueView) : Type 0 where
  pub claims : Claims {C = ℕ} NotReady engine engine intake intake
      ⊎ (Claims {C = ℕ} InFlightFull engine engine intake intake
      ⊎ (Claims {C = ℕ} Draining engine engine intake intake
      ⊎ Claims {C = ℕ} Ended engine engine intake intake))
  pub works : work_queue.works ≡ []
  pub shelf : (number : ℕ) → shelf_at engine number ≡ None
  pub raises : is_advanced engine intake.waits ≡ false

-- each node that isn't touched has nothing to do, and along each edge between two places that aren't touched all has come
pub record RestBut (plan : Plan) (engines : List EngineView) (intakes : List IntakeView) (work_queues : List WorkQueueView) (touched : ReadyNodes) : Type 0 where
  pub edges : (number place : ℕ) (e : Edge) (engine : EngineView) (intake : IntakeView) → slice_get plan.edges number ≡ Some e → e.node ≤ length plan.nodes → source_of plan e ≡ Some place
      → ¬ IsIn touched place → ¬ IsIn touched e.node → slice_get engines place ≡ Some engine → slice_get intakes e.node ≡ Some intake → HasBrought engine e intake
  pub nodes : (node : ℕ) (engine : EngineView) (intake : IntakeView) (work_queue : WorkQueueView) → node < length plan.nodes → ¬ IsIn touched node
      → slice_get engines node ≡ Some engine → slice_get intakes node ≡ Some intake → slice_get work_queues node ≡ Some work_queue → IsDone engine intake work_queue

-- nothing of a net has anything to do but at the places that an agenda has noted
abbrev pub RestsBut : NetView → AgendaView → Type 0
RestsBut net agenda = RestBut net.plan net.engines net.intakes net.work_queues agenda.touched

-- an agenda that is kept from sweep to sweep, if there is one, is for the nets of a plan
abbrev pub IsKeptBy : Plan → Option AgendaView → Type 0
IsKeptBy plan None = ⊤
IsKeptBy plan (Some agenda) = IsAgendaOf plan agenda

-- an agenda is kept, and nothing has anything to do but at the places that it has noted
abbrev pub RestsButKept : Plan → List EngineView → List IntakeView → List WorkQueueView → Option AgendaView → Type 0
RestsButKept plan engines intakes work_queues None = ⊥
RestsButKept plan engines intakes work_queues (Some agenda) = RestBut plan engines intakes work_queues agenda.touched

-- What is touched from outside between two sweeps.

-- the last `count` places are touched
pub record WakesLast (count : ℕ) (before now : AgendaView) : Type 0 where
  pub heads : length now.heads ≡ length before.heads
  pub starts : now.starts ≡ before.starts
  pub links : now.links ≡ before.links
  pub grows : (place : ℕ) → IsIn before.touched place → IsIn now.touched place
  pub woken : (place : ℕ) → place < length before.heads → length before.heads ≤ place + count → IsIn now.touched place

-- the places of some graph inputs are touched. The place of the first graph input is `from`
pub record WakesAt (from : ℕ) (inputs : List ℕ) (before now : AgendaView) : Type 0 where
  pub heads : length now.heads ≡ length before.heads
  pub starts : now.starts ≡ before.starts
  pub links : now.links ≡ before.links
  pub grows : (place : ℕ) → IsIn before.touched place → IsIn now.touched place
  pub woken : (i input : ℕ) → slice_get inputs i ≡ Some input → IsIn now.touched (from + input)

-- one place is touched
pub record Touches (place : ℕ) (before now : AgendaView) : Type 0 where
  pub heads : length now.heads ≡ length before.heads
  pub starts : now.starts ≡ before.starts
  pub links : now.links ≡ before.links
  pub touched : IsIn now.touched place
  pub only : ChangesOnly before.touched now.touched place

-- an agenda that is kept changes like this, and if none is kept, none is kept afterwards
abbrev pub OfKept : (AgendaView → AgendaView → Type 0) → Option AgendaView → Option AgendaView → Type 0
OfKept P None now = now ≡ None
OfKept P (Some before) None = ⊥
OfKept P (Some before) (Some now) = P before now

-- Places with nothing to do.

-- nothing goes along an edge and along the later ones from the same place
abbrev pub EdgesRestFrom : Laws → Plan → Option ℕ → NetView → Type 0
EdgesRestFrom laws plan first net = (place low number : ℕ) → IsFirstFrom plan low place first → low ≤ number → LeadsFrom plan place number → Acts laws (Deliver number) Idle net net

-- nothing goes along the edges from a place
abbrev pub EdgesRestBehind : Laws → NetView → ℕ → Type 0
EdgesRestBehind laws net place = (number : ℕ) → LeadsFrom net.plan place number → Acts laws (Deliver number) Idle net net

-- nothing goes along the edges into a place
abbrev pub EdgesRestInto : Laws → NetView → ℕ → Type 0
EdgesRestInto laws net place = (number : ℕ) (e : Edge) → slice_get net.plan.edges number ≡ Some e → e.node ≡ place → Acts laws (Deliver number) Idle net net

-- nothing goes along the edges into a place and from it, and the node there, if there is one, has nothing to do
pub record RestsHere (laws : Laws) (net : NetView) (place : ℕ) : Type 0 where
  pub into : EdgesRestInto laws net place
  pub behind : EdgesRestBehind laws net place
  pub node : place < length net.plan.nodes → RestsAt laws net place
