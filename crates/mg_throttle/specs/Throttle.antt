-- Throttling, after the page Real-time Streams of the MediaPipe framework: a feeder may not feed while a queue that it
-- reaches is full. The feeders of a plan are its graph inputs and the nodes without inputs, in this order.
use Rattle.std.specs.Prelude.{◌≡◌, ℕ, ℤ, pos, negsuc, ◌+◌, ◌<◌, ◌&&◌, ◌==◌, nat_lt, nat_le, Bool, true, false, List, length, map, All, Any, Contains, Option, Some, None, slice_get, slice_index_or, [], ◌∷◌, zero, suc, ◌↔◌, if◌then◌else◌}
use Rattle.mg_calc.specs.declared.plan.Plan.{Plan}
use Rattle.mg_calc.specs.declared.edge.Edge.{Edge}
use Rattle.mg_calc.specs.declared.plan_stream.Producer.TheVariants.{Input}
use Rattle.mg_calc.specs.Reaching.{producer_of}
use Rattle.mg_calc.specs.Plan.{Feeder, graph_input, source_node, feeders, writer_of}
use Rattle.mg_throttle.specs.declared.queue.Queue.{Queue}

-- Which nodes a feeder reaches.

-- a feeder reaches a node over edges that aren't back edges. A source reaches itself, and a graph input reaches a node that
-- reads it. A feeder that reaches a node reaches the nodes that read that node's streams
pub data FeederReaches (plan : Plan) (feeder : Feeder) : ℕ → Type 0 where
  itself : (n : ℕ) → feeder ≡ source_node n → FeederReaches plan feeder n
  reads : (e : Edge) (input : ℕ) → Contains plan.edges e → e.back ≡ false
      → feeder ≡ graph_input input → producer_of plan e.stream ≡ Some (Input input) → FeederReaches plan feeder e.node
  goes_on : (e : Edge) (writer : ℕ) → Contains plan.edges e → e.back ≡ false
      → writer_of plan e ≡ Some writer → FeederReaches plan feeder writer → FeederReaches plan feeder e.node

-- Queues.

-- a limit of 0 is 100, and a negative one is none
abbrev pub limit_of : ℤ → Option ℕ
limit_of (negsuc n) = None
limit_of (pos n) = Some (if n == 0 then 100 else n)

-- a number of packets reaches a limit, if there is one
abbrev pub is_limit_reached : Option ℕ → ℕ → Bool
is_limit_reached None packets = false
is_limit_reached (Some limit) packets = nat_le limit packets

-- a queue is full: it counts, and holds its limit of packets or more
abbrev pub is_full : Queue → Bool
is_full q = q.counts && is_limit_reached q.limit q.waiting

-- the queue of an edge at first: it is empty, and counts if its consumer is a node, and not the collector
abbrev pub new_queue : ℕ → Option ℕ → Edge → Queue
new_queue nodes limit e = record { node = e.node; waiting = 0; limit = limit; counts = nat_lt e.node nodes }

-- queues, once that of an edge is noted to hold a number of packets
abbrev pub noted : List Queue → ℕ → ℕ → List Queue
noted [] edge packets = []
noted (q ∷ qs) zero packets = record q { waiting = packets } ∷ qs
noted (q ∷ qs) (suc edge) packets = q ∷ noted qs edge packets

-- a queue whose limit is relaxed: if the queue is full, the limit becomes one more than its length
abbrev pub relaxed : Queue → Queue
relaxed q = if is_full q then record q { limit = Some (q.waiting + 1) } else q

-- a queue, once a node has stopped: it no longer counts if it is one of that node
abbrev pub stopped : ℕ → Queue → Queue
stopped node q = if q.node == node then record q { counts = false } else q

-- All queues of a plan, and for each node, which feeders reach it.
pub record QueueLimits : Type 0 where
  -- a queue for each edge
  pub queues : List Queue
  -- for each node, and for each feeder, whether the feeder reaches it
  pub reached : List (List Bool)
  -- how many feeders there are
  pub feeders : ℕ

-- which feeders reach a node
abbrev pub reached_at : List (List Bool) → ℕ → List Bool
reached_at rows node = slice_index_or rows node []

-- a feeder reaches a node, both by number
abbrev pub is_reached : List (List Bool) → ℕ → ℕ → Bool
is_reached rows feeder node = slice_index_or (reached_at rows node) feeder false

-- the limits are those of a plan
pub record AreLimitsOf (plan : Plan) (t : QueueLimits) : Type 0 where
  pub queues : map (λ q. q.node) t.queues ≡ map (λ e. e.node) plan.edges
  -- a queue of the collector never counts
  pub collector : All (λ q. q.node ≡ length plan.nodes → q.counts ≡ false) t.queues
  pub marked_nodes : length t.reached ≡ length plan.nodes
  pub marked_feeders : t.feeders ≡ length (feeders plan)
  pub reached : (node number : ℕ) (feeder : Feeder) → node < length plan.nodes → slice_get (feeders plan) number ≡ Some feeder
      → (is_reached t.reached number node ≡ true) ↔ FeederReaches plan feeder node

-- a feeder is throttled: a queue is full, and the feeder reaches its node
abbrev pub IsThrottled : Plan → QueueLimits → Feeder → Type 0
IsThrottled plan t feeder = Any (λ q. (is_full q ≡ true) × FeederReaches plan feeder q.node) t.queues
