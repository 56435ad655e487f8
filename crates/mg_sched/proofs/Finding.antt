-- What a step finds in a net that stands for a job: parts at their places, which are one cell.
use Rattle.std.proofs.Common.{◌≡◌, ℕ, ◌+◌, ◌<◌, Bool, true, false, List, length, Some, slice_get, get_or, set, nat_lt, zero, suc, [], ◌∷◌, ap, sym, refl, subst, ◌∙◌, arith}
use Rattle.std.proofs.lemmas.Bool.Decides.{nat_tests}
use Rattle.std.proofs.lemmas.Option.{slice_get_read, slice_get-get_or}
use Rattle.mg_calc.specs.Rules.{Laws}
use Rattle.mg_calc.specs.declared.edge.Edge.{Edge}
use Rattle.mg_calc.specs.Plan.{IsValid}
use Rattle.mg_node.specs.Views.{IntakeView, EngineView}
use Rattle.mg_node.specs.Job.{LoggedJob}
use Rattle.mg_node.specs.Lawful.{AreCell, LawfulEngine, LawfulIntake, Agree, of_node}
use Rattle.mg_throttle.specs.Throttle.{AreLimitsOf}
use Rattle.mg_sched.specs.Views.{WorkQueueView, NetView}
use Rattle.mg_sched.specs.StandsFor.{IsCell, StandsFor, StandsForSome, IsRunning}

-- the plan is valid
pub valid : {laws : Laws} (net : NetView) → StandsForSome laws net → IsValid net.plan
unfolding StandsFor
valid {laws} net h = subst IsValid (sym h.stands.plan) h.stands.is_job.plan

-- there is a part at each place
pub places : {laws : Laws} (net : NetView) → StandsForSome laws net → (length net.engines ≡ length net.plan.nodes + length net.plan.inputs) × (length net.intakes ≡ length net.plan.nodes + 1) × (length net.work_queues ≡ length net.plan.nodes)
unfolding StandsFor
places {laws} net h = (h.stands.engines, h.stands.intakes, h.stands.work_queues)

pub of_plan : {laws : Laws} (net : NetView) → StandsForSome laws net → AreLimitsOf net.plan net.limits
unfolding StandsFor
of_plan {laws} net h = h.stands.limits.of_plan

is_below : (n m : ℕ) → n < m → nat_lt n m ≡ true
is_below n m h = grind (arith, nat_tests)

-- the parts of a node are a cell
pub cell_at : {laws : Laws} (job : LoggedJob laws) (net : NetView) (node : ℕ) (engine : EngineView) (intake : IntakeView) (work_queue : WorkQueueView) → StandsFor job net → IsRunning net → node < length net.plan.nodes → slice_get net.engines node ≡ Some engine
    → slice_get net.intakes node ≡ Some intake → slice_get net.work_queues node ≡ Some work_queue → IsCell job true node engine intake work_queue
unfolding StandsFor
cell_at {laws} job net node engine intake work_queue h running there at to on =
    let less : node < net.begun = omega (arith, there, running) in
    subst (λ (b : Bool). IsCell job b node engine intake work_queue) (is_below node net.begun less) (h.cells node engine intake work_queue at to on)

-- a part at a place, as it is found
pub found : {X : Type 0} (xs : List X) (i : ℕ) → i < length xs → (x : X) × (slice_get xs i ≡ Some x)
found [] i h = absurd (omega (arith, h))
found (x ∷ xs) zero h = (x, refl)
found (x ∷ xs) (suc i) h = found xs i (omega (arith, h))

pub are_cell : {laws : Laws} (net : NetView) (node : ℕ) (engine : EngineView) (intake : IntakeView) → StandsForSome laws net → IsRunning net → node < length net.plan.nodes → slice_get net.engines node ≡ Some engine → slice_get net.intakes node ≡ Some intake
    → AreCell laws engine intake
are_cell {laws} net node engine intake h running there at to =
    let long = (places net h).2 in
    let work_queue = found net.work_queues node (omega (arith, there, long)) in
    let c = cell_at h.job net node engine intake work_queue.0 h.stands running there at to work_queue.1 in
    record { job = h.job; number = node; lawful_engine = c.lawful_engine; lawful_intake = c.lawful_intake; agree = c.agree }

-- each is lawful for the job
pub parts_lawful : {laws : Laws} (net : NetView) (node : ℕ) (engine : EngineView) (intake : IntakeView) (h : StandsForSome laws net) → IsRunning net → node < length net.plan.nodes → slice_get net.engines node ≡ Some engine → slice_get net.intakes node ≡ Some intake
    → LawfulEngine h.job (of_node node) engine × LawfulIntake h.job node intake × Agree engine intake
parts_lawful {laws} net node engine intake h running there at to =
    let long = (places net h).2 in
    let work_queue = found net.work_queues node (omega (arith, there, long)) in
    let c = cell_at h.job net node engine intake work_queue.0 h.stands running there at to work_queue.1 in
    (c.lawful_engine, c.lawful_intake, c.agree)

-- what was read at a place within is found there
pub read_at : {X : Type 0} (xs : List X) (i : ℕ) (x : X) → i < length xs → x ≡ get_or xs i x → slice_get xs i ≡ Some x
read_at xs i x within is = slice_get_read xs (length xs) i x refl within is

-- a node has an engine, an intake and a work queue
pub engine_there : {laws : Laws} (net : NetView) (node : ℕ) → StandsForSome laws net → node < length net.plan.nodes → node < length net.engines
engine_there {laws} net node h there = (let long = (places net h).0 in omega (arith, long, there))

pub intake_there : {laws : Laws} (net : NetView) (node : ℕ) → StandsForSome laws net → node < length net.plan.nodes → node < length net.intakes
intake_there {laws} net node h there = (let long = (places net h).1 in omega (arith, long, there))

pub work_queue_there : {laws : Laws} (net : NetView) (node : ℕ) → StandsForSome laws net → node < length net.plan.nodes → node < length net.work_queues
work_queue_there {laws} net node h there = (let long = (places net h).2 in omega (arith, long, there))

-- The same of parts that are read of a net as it is kept.

pub engine_read : {laws : Laws} (shown net : NetView) (node : ℕ) (engine : EngineView) → shown ≡ net → StandsForSome laws net → node < length net.plan.nodes → engine ≡ get_or shown.engines node engine → slice_get net.engines node ≡ Some engine
engine_read {laws} shown net node engine is h there value =
    subst (λ (v : NetView). slice_get v.engines node ≡ Some engine) is (read_at shown.engines node engine (subst (λ (v : NetView). node < length v.engines) (sym is) (engine_there net node h there)) value)

pub intake_read : {laws : Laws} (shown net : NetView) (node : ℕ) (intake : IntakeView) → shown ≡ net → StandsForSome laws net → node < length net.plan.nodes → intake ≡ get_or shown.intakes node intake → slice_get net.intakes node ≡ Some intake
intake_read {laws} shown net node intake is h there value =
    subst (λ (v : NetView). slice_get v.intakes node ≡ Some intake) is (read_at shown.intakes node intake (subst (λ (v : NetView). node < length v.intakes) (sym is) (intake_there net node h there)) value)

pub work_queue_read : {laws : Laws} (shown net : NetView) (node : ℕ) (work_queue : WorkQueueView) → shown ≡ net → StandsForSome laws net → node < length net.plan.nodes → work_queue ≡ get_or shown.work_queues node work_queue → slice_get net.work_queues node ≡ Some work_queue
work_queue_read {laws} shown net node work_queue is h there value =
    subst (λ (v : NetView). slice_get v.work_queues node ≡ Some work_queue) is (read_at shown.work_queues node work_queue (subst (λ (v : NetView). node < length v.work_queues) (sym is) (work_queue_there net node h there)) value)

pub engine_fits : {laws : Laws} (shown net : NetView) (node n : ℕ) → shown ≡ net → StandsForSome laws net → node < length net.plan.nodes → n ≡ length shown.engines → node < n
engine_fits {laws} shown net node n is h there long =
    let within = subst (λ (v : NetView). node < length v.engines) (sym is) (engine_there net node h there) in omega (arith, within, long)

pub intake_fits : {laws : Laws} (shown net : NetView) (node n : ℕ) → shown ≡ net → StandsForSome laws net → node < length net.plan.nodes → n ≡ length shown.intakes → node < n
intake_fits {laws} shown net node n is h there long =
    let within = subst (λ (v : NetView). node < length v.intakes) (sym is) (intake_there net node h there) in omega (arith, within, long)

pub work_queue_fits : {laws : Laws} (shown net : NetView) (node n : ℕ) → shown ≡ net → StandsForSome laws net → node < length net.plan.nodes → n ≡ length shown.work_queues → node < n
work_queue_fits {laws} shown net node n is h there long =
    let within = subst (λ (v : NetView). node < length v.work_queues) (sym is) (work_queue_there net node h there) in omega (arith, within, long)

-- an edge that is read; what stands past the last one is none of them
abbrev pub no_edge : Edge
no_edge = record { stream = 0; node = 0; port = 0; back = false }

pub edge_read : (shown net : NetView) (number : ℕ) (edges : List Edge) → shown ≡ net → number < length net.plan.edges → edges ≡ shown.plan.edges → slice_get net.plan.edges number ≡ Some (get_or edges number no_edge)
edge_read shown net number edges is within same =
    slice_get-get_or net.plan.edges number no_edge within ∙ ap (λ (es : List Edge). Some (get_or es number no_edge)) (sym (same ∙ ap (λ (v : NetView). v.plan.edges) is))

-- parts at other places
pub engine_read_at : (shown net : NetView) (place : ℕ) (engine : EngineView) → shown ≡ net → place < length net.engines → engine ≡ get_or shown.engines place engine → slice_get net.engines place ≡ Some engine
engine_read_at shown net place engine is within value =
    subst (λ (v : NetView). slice_get v.engines place ≡ Some engine) is (read_at shown.engines place engine (subst (λ (v : NetView). place < length v.engines) (sym is) within) value)

pub intake_read_at : (shown net : NetView) (place : ℕ) (intake : IntakeView) → shown ≡ net → place < length net.intakes → intake ≡ get_or shown.intakes place intake → slice_get net.intakes place ≡ Some intake
intake_read_at shown net place intake is within value =
    subst (λ (v : NetView). slice_get v.intakes place ≡ Some intake) is (read_at shown.intakes place intake (subst (λ (v : NetView). place < length v.intakes) (sym is) within) value)

-- what was put at a place within is found there
pub put_here : {X : Type 0} (xs : List X) (i : ℕ) (x : X) → i < length xs → slice_get (set xs i x) i ≡ Some x
put_here [] i x h = absurd (omega (arith, h))
put_here (y ∷ xs) zero x h = refl
put_here (y ∷ xs) (suc i) x h = put_here xs i x (omega (arith, h))

pub put_long : {X : Type 0} (xs : List X) (i : ℕ) (x : X) → length (set xs i x) ≡ length xs
put_long [] i x = refl
put_long (y ∷ xs) zero x = refl
put_long (y ∷ xs) (suc i) x = ap suc (put_long xs i x)
