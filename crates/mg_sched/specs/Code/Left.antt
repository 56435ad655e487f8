-- What is left to do in a net: a number that each step lessens. The numbers of a net only grow, and fit in 64 bits.
use Rattle.std.specs.Prelude.{◌≡◌, ℕ, ◌+◌, ◌-◌, ◌*◌, ◌^◌, ◌<◌, ◌||◌, Bool, true, false, [], sum_by, slice_get, Option, Some, None, IsSome, IsSomeAnd, is_some, if◌then◌else◌}
use Rattle.std.specs.List.{list_any}
use Rattle.mg_time.specs.Time.{done}
use Rattle.mg_calc.specs.Rules.{Laws}
use Rattle.mg_calc.specs.Plan.{numbers}
use Rattle.mg_calc.specs.declared.event.Event.{Event}
use Rattle.mg_calc.specs.declared.event.Event.TheVariants.{Deliver, Advance, Claim}
use Rattle.mg_calc.specs.declared.event.Effect.{Effect}
use Rattle.mg_calc.specs.declared.event.Effect.TheVariants.{Did, Idle}
use Rattle.mg_stream.specs.Queue.{count_of}
use Rattle.mg_node.specs.Views.{IntakeView, OutcomeView, EntryView, EngineView}
use Rattle.mg_node.specs.Ports.{ports_in, port_queue}
use Rattle.mg_node.specs.Lawful.{is_close}
use Rattle.mg_node.specs.Shelves.{shelf_at}
use Rattle.mg_node.specs.Windows.{has_ended}
use Rattle.mg_sched.specs.Views.{WorkQueueView, NetView}
use Rattle.mg_sched.specs.Acts.{Acts}
use Rattle.mg_sched.specs.AtRest.{MayGoOn}

-- the steps that are left of a work that is back in its window. It has to be claimed again, performed and committed. Once it is performed
-- it has only to be committed
abbrev pub outcome_left : OutcomeView → ℕ
outcome_left o = if is_some o.answer then 1 else 3

-- the steps that are left of a work that is claimed: while it is out, it has to be performed and committed
abbrev pub came_left : Option OutcomeView → ℕ
came_left None = 2
came_left (Some o) = outcome_left o

-- the steps that are left of an entry of a window
abbrev pub entry_left : EntryView → ℕ
entry_left entry = if entry.committed then 0 else came_left entry.outcome

-- what is left of Close: 4, until it is claimed or the node has ended
abbrev pub close_left : EngineView → ℕ
close_left e = if has_ended e || list_any (λ entry. is_close entry.phase) e.window then 0 else 4

-- what is left of an engine: the works that may still be claimed, those in its window, and how far its outputs may be raised
abbrev pub engine_left : EngineView → ℕ
engine_left e = 4 * (2 ^ 65 - e.claimed) + sum_by entry_left e.window + close_left e + sum_by (λ b. done - b.bound) e.outputs

-- what is left of an intake: the packets that its ports may still get, and how far these may be raised
abbrev pub intake_left : IntakeView → ℕ
intake_left i = sum_by (λ port. (2 ^ 65 - count_of (port_queue i.waits port)) + (done - (port_queue i.waits port).bound)) (numbers (ports_in i.waits))

-- what is left of a queue: how far its limit may be relaxed
abbrev pub limit_left : Option ℕ → ℕ
limit_left None = 0
limit_left (Some limit) = 2 ^ 65 - limit

-- what is left of all parts of a net
abbrev pub left_in : NetView → ℕ
left_in net = sum_by engine_left net.engines + sum_by intake_left net.intakes + sum_by (λ q. limit_left q.limit) net.limits.queues

-- some steps did something, so that less is left, or they left the net as it was
abbrev pub Goes : Bool → NetView → NetView → Type 0
Goes true before now = left_in now < left_in before
Goes false before now = now ≡ before

-- a step did something, so that less is left, or its event has nothing to do
abbrev pub Steps : Laws → Bool → Event → NetView → NetView → Type 0
Steps laws true event before now = left_in now < left_in before
Steps laws false event before now = (now ≡ before) × Acts laws event Idle before before

-- Parts that have nothing to do.

-- no work of a node is claimed and not performed
abbrev pub HasNoWork : NetView → ℕ → Type 0
HasNoWork net node = (work_queue : WorkQueueView) → slice_get net.work_queues node ≡ Some work_queue → work_queue.works ≡ []

-- a node has works that are claimed and not performed, and the first has this number
abbrev pub HasWork : NetView → ℕ → ℕ → Type 0
HasWork net node number = (work_queue : WorkQueueView) → slice_get net.work_queues node ≡ Some work_queue → IsSomeAnd (slice_get work_queue.works 0) (λ w. w.number ≡ number)

-- no work of a node is performed and not committed
abbrev pub HasNoShelf : NetView → ℕ → Type 0
HasNoShelf net node = (engine : EngineView) (number : ℕ) → slice_get net.engines node ≡ Some engine → shelf_at engine number ≡ None

-- a node's work of this number is performed and not committed
abbrev pub HasShelf : NetView → ℕ → ℕ → Type 0
HasShelf net node number = (engine : EngineView) → slice_get net.engines node ≡ Some engine → IsSome (shelf_at engine number)

-- a node has no work to claim, to perform or to commit
pub record WorksRest (laws : Laws) (net : NetView) (node : ℕ) : Type 0 where
  pub claims : Acts laws (Claim node) Idle net net
  pub works : HasNoWork net node
  pub shelf : HasNoShelf net node

-- a node has nothing to do: no work to claim, to perform or to commit, and no output to raise
pub record RestsAt (laws : Laws) (net : NetView) (node : ℕ) : Type 0 where
  pub claims : Acts laws (Claim node) Idle net net
  pub works : HasNoWork net node
  pub shelf : HasNoShelf net node
  pub advances : Acts laws (Advance node) Idle net net

-- the first `count` nodes have nothing to do
abbrev pub NodesRest : Laws → NetView → ℕ → Type 0
NodesRest laws net count = (node : ℕ) → node < count → RestsAt laws net node

-- nothing goes along the first `count` edges
abbrev pub EdgesRest : Laws → NetView → ℕ → Type 0
EdgesRest laws net count = (edge : ℕ) → edge < count → Acts laws (Deliver edge) Idle net net

-- Looks.

-- the effect of a step that has memory, by whether it did something
abbrev pub effect_if : Bool → Effect
effect_if true = Did
effect_if false = Idle

-- an event was found that would do something; or none was, `rest` says which events would do nothing, and the net is as it was
abbrev pub Finds : Laws → Bool → Type 0 → NetView → NetView → Type 0
Finds laws true rest before now = MayGoOn laws before
Finds laws false rest before now = (now ≡ before) × rest
