-- A net with another cell at a node. Some parts of this cell are what they were.
use Rattle.std.proofs.Common.{◌≡◌, ℕ, ◌≤◌, zero, suc, List, [], ◌∷◌, map, set, get_or, Some, slice_get, ap, ap₂, sym, refl, ◌∙◌, arith}
use Rattle.mg_value.specs.Payload.{Plain}
use Rattle.mg_stream.specs.Queue.{Waiting}
use Rattle.mg_stream.specs.Pool.{Backlog, empty_backlog}
use Rattle.mg_node.specs.Views.{IntakeView, EngineView}
use Rattle.mg_node.specs.IntakeStanding.{Stays}
use Rattle.mg_throttle.specs.Throttle.{QueueLimits}
use Rattle.mg_sched.specs.Views.{WorkQueueView, NetView}
use Rattle.mg_sched.specs.Places.{with_engine, with_work_queue, with_limits}
use Rattle.mg_node.proofs.Lemmas.{same_put}
use Rattle.mg_sched.proofs.Changed.{with_cell}

-- the engine alone changed, and perhaps the limits
pub only_engine : (net : NetView) (node : ℕ) (engine : EngineView) (intake : IntakeView) (work_queue : WorkQueueView) (limits : QueueLimits) → slice_get net.intakes node ≡ Some intake → slice_get net.work_queues node ≡ Some work_queue
    → with_cell net node engine intake work_queue limits ≡ with_limits (with_engine net node engine) limits
only_engine net node engine intake work_queue limits to on =
    ap₂ (λ (is : List IntakeView) (ds : List WorkQueueView). (let v : NetView = record net { engines = set net.engines node engine; intakes = is; work_queues = ds; limits = limits } in v)) (same_put net.intakes node intake to) (same_put net.work_queues node work_queue on)

-- the engine and the work queue changed
pub engine_and_work_queue : (net : NetView) (node : ℕ) (engine : EngineView) (intake : IntakeView) (work_queue : WorkQueueView) → slice_get net.intakes node ≡ Some intake
    → with_cell net node engine intake work_queue net.limits ≡ with_work_queue (with_engine net node engine) node work_queue
engine_and_work_queue net node engine intake work_queue to =
    ap (λ (is : List IntakeView). (let v : NetView = record net { engines = set net.engines node engine; intakes = is; work_queues = set net.work_queues node work_queue } in v)) (same_put net.intakes node intake to)

pub stays_so : (q : Waiting Plain) → Stays q q
stays_so q = record { count = refl; bound = refl }

-- how many packets are given up, by number
gone_get : (bs : List (Backlog Plain)) (k : ℕ) → (get_or bs k empty_backlog).gone ≡ get_or (map (λ b. b.gone) bs) k 0
gone_get [] zero = refl
gone_get [] (suc k) = refl
gone_get (b ∷ bs) zero = refl
gone_get (b ∷ bs) (suc k) = gone_get bs k

pub gone_same : (bs cs : List (Backlog Plain)) (k : ℕ) → map (λ b. b.gone) bs ≡ map (λ b. b.gone) cs → (get_or bs k empty_backlog).gone ≤ (get_or cs k empty_backlog).gone
gone_same bs cs k same = (let e = gone_get bs k ∙ ap (λ (ns : List ℕ). get_or ns k 0) same ∙ sym (gone_get cs k) in omega (arith, e))
