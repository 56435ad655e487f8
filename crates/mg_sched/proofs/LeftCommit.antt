-- A commit leaves less to do.
use Rattle.std.proofs.Common.{◌≡◌, ℕ, ℤ, ◌+◌, ◌-◌, ◌<◌, ◌≤◌, ◌||◌, ◌==◌, Bool, true, false, List, [], ◌∷◌, length, map, Option, Some, None, IfSome, Result, Ok, slice_get, sum_by, is_some, ap, sym, refl, subst, ◌∙◌, arith, if◌then◌else◌}
use Rattle.std.specs.List.{list_any}
use Rattle.std.proofs.lemmas.List.{length-map}
use Rattle.std.proofs.lemmas.List.Sums.{sum_by-cons}
use Rattle.mg_value.specs.Payload.{Plain}
use Rattle.mg_stream.specs.Pool.{Backlog}
use Rattle.mg_calc.specs.Rules.{Laws}
use Rattle.mg_calc.specs.declared.event.Effect.{Effect}
use Rattle.mg_calc.specs.declared.event.Effect.TheVariants.{Did, Idle, OutOfMemory}
use Rattle.mg_node.specs.Views.{PerformedView, OutcomeView, EntryView, EngineView}
use Rattle.mg_node.specs.Job.{LoggedJob}
use Rattle.mg_node.specs.Lawful.{of_node, is_close, StandsAt, LawfulEngine}
use Rattle.mg_node.specs.Windows.{has_ended, ready_of}
use Rattle.mg_node.specs.Shelves.{outcome_of, shelf_at, Unshelves}
use Rattle.mg_node.specs.Commits.{Front, answer_laid, has_stopped, with_ready, front_laid, front_of, fault_at, committed_entry, window_with, Commits, SomeJobHasEngine}
use Rattle.mg_node.specs.Standing.{EngineGrows}
use Rattle.mg_node.proofs.Lemmas.{commit_grows, committed_whole, engine_further, found_at, is_some_map, IsFound, unshelved_lawful, unshelved_out, unshelving_grows}
use Rattle.mg_throttle.specs.declared.queue.Queue.{Queue}
use Rattle.mg_throttle.specs.Throttle.{QueueLimits, stopped}
use Rattle.mg_sched.specs.Views.{NetView}
use Rattle.mg_sched.specs.Places.{with_engine, with_limits}
use Rattle.mg_sched.specs.StandsFor.{StandsFor, IsRunning}
use Rattle.mg_sched.specs.Acts.{stopped_by, CommitsTo, CommittedAt, NodeCommits}
use Rattle.mg_sched.specs.Code.Left.{came_left, entry_left, engine_left, intake_left, limit_left, left_in}
use Rattle.mg_sched.proofs.Finding.{cell_at, found}
use Rattle.mg_sched.proofs.SumsFall.{sum_put}
use Rattle.mg_sched.proofs.LeftParts.{queue_left, engine_put, put_less, not_idle}
use Rattle.mg_sched.proofs.LeftEngines.{any_put, close_by, closes, window_left, window_less, outputs_less, out_left}
use Rattle.mg_sched.proofs.LeftPerform.{same_left, less_left}

-- What is ready at the front of a window is laid. Then less is left of the window, and Close leaves it only if the node has stopped.

abbrev front_left : Front → ℕ
front_left front = window_left (has_stopped front) front.window

close_step : (close failed later : Bool) → close_by ((close || failed) || later) ≤ close_by (false || (close || later))
close_step true failed later = omega arith
close_step false true later = omega arith
close_step false false later = omega arith

entry_step : (entry : EntryView) (entries : List EntryView) (failed : Bool) → window_left (is_close entry.phase || failed) entries ≤ window_left false (entry ∷ entries)
entry_step entry entries failed =
    let close = close_step (is_close entry.phase) failed (list_any closes entries) in
    let sums = sum_by-cons entry_left entry entries in
    omega (arith, close, sums)

ready_less : (offset : Option ℤ) (entry : EntryView) (entries : List EntryView) (front : Front) (ready : Option PerformedView) → front.window ≡ entry ∷ entries → has_stopped front ≡ false
    → ((f : Front) → f.window ≡ entries → front_left (front_laid offset entries f) ≤ front_left f) → front_left (with_ready ready front (λ p. front_laid offset entries (answer_laid offset entry.phase p.work.context p.answer entries front))) ≤ front_left front
ready_less offset entry entries front None window goes again = omega arith
ready_less offset entry entries front (Some p) window goes again =
    let next = answer_laid offset entry.phase p.work.context p.answer entries front in
    let whole : front_left front ≡ window_left false (entry ∷ entries) = ap (λ (b : Bool). window_left b front.window) goes ∙ ap (window_left false) window in
    let step : front_left next ≤ window_left false (entry ∷ entries) = entry_step entry entries (is_some next.fault) in
    let later : front_left (front_laid offset entries next) ≤ front_left next = again next refl in
    omega (arith, whole, step, later)

stop_less : (stopped : Bool) (front go : Front) (n : ℕ) → front_left front ≤ n → (stopped ≡ false → front_left go ≤ n) → front_left (if stopped then front else go) ≤ n
stop_less true front go n l m = l
stop_less false front go n l m = m refl

front_less : (offset : Option ℤ) (entries : List EntryView) (front : Front) → front.window ≡ entries → front_left (front_laid offset entries front) ≤ front_left front
front_less offset [] front window = omega arith
front_less offset (entry ∷ entries) front window =
    stop_less (has_stopped front) front (with_ready (ready_of entry) front (λ p. front_laid offset entries (answer_laid offset entry.phase p.work.context p.answer entries front))) (front_left front) (omega arith)
    (λ goes. ready_less offset entry entries front (ready_of entry) window goes (λ f is. front_less offset entries f is))

-- Engines.

-- what is found in an entry has only to be committed
found_left : (entry : EntryView) (p : PerformedView) → IsFound entry p → entry_left entry ≡ 1
found_left entry p f = λ i. if f.left i then 0 else came_left ((f.there ∙ ap Some f.performed) i)

found_phase : {laws : Laws} (job : LoggedJob laws) (node : ℕ) (engine : EngineView) (number : ℕ) (entry : EntryView) (p : PerformedView) → LawfulEngine job (of_node node) engine → slice_get engine.window (number - engine.laid) ≡ Some entry → IsFound entry p → p.work.phase ≡ entry.phase
unfolding LawfulEngine
found_phase {laws} job node engine number entry p h at f =
    let stands : StandsAt job node (engine.laid + (number - engine.laid)) entry.phase f.outcome =
    subst (λ (o : Option OutcomeView). IfSome o (λ x. StandsAt job node (engine.laid + (number - engine.laid)) entry.phase x)) f.there (h.entries (number - engine.laid) entry at).outcome in
    ap (λ (o : OutcomeView). o.work.phase) (sym f.performed) ∙ stands.phase_is

-- an engine that commits
commit_engine : {laws : Laws} (job : LoggedJob laws) (node number laid : ℕ) (engine taken now : EngineView) (p : PerformedView) → LawfulEngine job (of_node node) engine → shelf_at engine number ≡ Some p → Unshelves (Some p) engine taken number → Commits (outcome_of p) laid taken now
    → engine_left now < engine_left engine
commit_engine {laws} job node number laid engine taken now p h is takes commits =
    let outcome = outcome_of p in
    let lawful = (unshelved_lawful job node engine taken number p is takes h).0 in
    let some : SomeJobHasEngine laws taken = record { job = job; number = node; lawful = lawful } in
    let it = found_at engine number p is in
    let out = (unshelved_out job node engine taken number p h is takes).out in
    let window = window_with taken outcome in
    -- the entry is claimed again, and committed
    let entry : EntryView = record { phase = p.work.phase; outcome = None; committed = false } in
    let one = ap (λ (v : EngineView). sum_by entry_left v.window) takes in
    let one_put = sum_put entry_left engine.window (number - engine.laid) it.1 entry it.2 in
    let one_left = found_left it.1 p it.3 in
    let two_put = sum_put entry_left taken.window (p.work.number - taken.laid) out.entry (committed_entry outcome) out.there in
    let two_left = out_left job node taken p.work out lawful in
    let close : list_any closes window ≡ list_any closes engine.window = any_put closes taken.window (p.work.number - taken.laid) out.entry (committed_entry outcome) out.there (ap is_close (sym out.phase_is))
    ∙ ap (λ (v : EngineView). list_any closes v.window) takes
    ∙ any_put closes engine.window (number - engine.laid) it.1 entry it.2 (ap is_close (found_phase job node engine number it.1 p h it.2 it.3)) in
    let same_close : close_by (has_ended engine || list_any closes window) ≡ close_by (has_ended engine || list_any closes engine.window) = ap (λ (b : Bool). close_by (has_ended engine || b)) close in
    -- the works that are ready are laid
    let w = committed_whole taken (record taken { window = window }) outcome refl some in
    let front = front_of taken window w.whole in
    let last = front_laid taken.offset window front in
    let has = commits.front w.whole w.stand in
    let laid_left : front_left last ≤ front_left front = front_less taken.offset window front refl in
    let stopped : has_stopped front ≡ has_ended engine = ap (λ (b : Bool). taken.closed || b) (is_some_map _ taken.fault) ∙ ap has_ended takes in
    let before : front_left front ≡ window_left (has_ended engine) window = ap (λ (b : Bool). window_left b window) stopped in
    let ended : has_ended now ≡ has_stopped last = ap has_ended has.others ∙ ap (λ (b : Bool). last.closed || b) (is_some_map (fault_at taken.node) last.fault) in
    let after : window_left (has_ended now) now.window ≡ front_left last = ap (λ (b : Bool). window_left b now.window) ended ∙ ap (λ (v : EngineView). window_left (has_stopped last) v.window) has.others in
    let less : window_left (has_ended now) now.window < window_left (has_ended engine) engine.window = omega (arith, one, one_put, one_left, two_put, two_left, same_close, laid_left, before, after) in
    -- outputs only grow
    let result : Result ℕ ℕ = Ok laid in
    let grows : EngineGrows engine now = engine_further engine taken now (unshelving_grows (Some p) engine taken number takes) (commit_grows {E = ℕ} outcome result taken now some commits tt) in
    let given_up = commits.given_up ∙ ap (λ (v : EngineView). map (λ (b : Backlog Plain). b.gone) v.outputs) takes in
    let long : length now.outputs ≡ length engine.outputs = sym (length-map now.outputs (λ (b : Backlog Plain). b.gone)) ∙ ap (λ (ns : List ℕ). length ns) given_up ∙ length-map engine.outputs (λ (b : Backlog Plain). b.gone) in
    window_less engine now (ap (λ (v : EngineView). v.claimed) commits.others ∙ ap (λ (v : EngineView). v.claimed) takes) less (outputs_less engine.outputs now.outputs long grows.outputs)

-- Limits: a node that has ended changes none of them.
one_stopped : (b : Bool) (q : Queue) → (if b then record q { counts = false } else q).limit ≡ q.limit
one_stopped true q = refl
one_stopped false q = refl

stopped_left : (node : ℕ) (qs : List Queue) → sum_by queue_left (map (stopped node) qs) ≡ sum_by queue_left qs
stopped_left node [] = refl
stopped_left node (q ∷ qs) =
    let first : queue_left (stopped node q) ≡ queue_left q = ap limit_left (one_stopped (q.node == node) q) in
    let later = stopped_left node qs in
    let one = sum_by-cons queue_left (stopped node q) (map (stopped node) qs) in
    let two = sum_by-cons queue_left q qs in
    omega (arith, first, later, one, two)

ended_left : (ended : Bool) (node : ℕ) (limits : QueueLimits) → sum_by queue_left (if ended then record limits { queues = map (stopped node) limits.queues } else limits).queues ≡ sum_by queue_left limits.queues
ended_left true node limits = stopped_left node limits.queues
ended_left false node limits = refl

stopped_same : (net : NetView) (node : ℕ) (engine : EngineView) → left_in (with_limits net (stopped_by node engine net.limits)) ≡ left_in net
stopped_same net node engine = ap (λ (n : ℕ). sum_by engine_left net.engines + sum_by intake_left net.intakes + n) (ended_left (has_ended engine) node net.limits)

-- Nets.
laid_less : {laws : Laws} (job : LoggedJob laws) (node number : ℕ) (engine : EngineView) (p : PerformedView) (before now : NetView) → node < length before.plan.nodes → IsRunning before → StandsFor job before → slice_get before.engines node ≡ Some engine
    → shelf_at engine number ≡ Some p → CommitsTo node number engine p before now → left_in now < left_in before
unfolding StandsFor
laid_less {laws} job node number engine p before now within running h at is c =
    let long = h.work_queues in
    let more = h.intakes in
    let work_queue = found before.work_queues node (omega (arith, within, long)) in
    let intake = found before.intakes node (omega (arith, within, more)) in
    let cell = cell_at job before node engine intake.0 work_queue.0 h running within at intake.1 work_queue.1 in
    let next = with_engine before node c.engine_now in
    let limits : left_in now ≡ left_in next = ap left_in c.now_is ∙ stopped_same next node c.engine_now in
    subst (λ (n : ℕ). n < left_in before) (sym limits)
    (put_less (left_in next) (left_in before) (engine_left c.engine_now) (engine_left engine) (engine_put before node engine c.engine_now at)
    (commit_engine job node number c.laid engine c.taken c.engine_now p cell.lawful_engine is c.takes c.commits))

taken_less : {laws : Laws} (job : LoggedJob laws) (node number : ℕ) (r : Option PerformedView) (engine : EngineView) (before now : NetView) → node < length before.plan.nodes → IsRunning before → StandsFor job before → slice_get before.engines node ≡ Some engine
    → shelf_at engine number ≡ r → CommittedAt node number r Did engine before now → left_in now < left_in before
taken_less {laws} job node number None engine before now within running h at is c = absurd (not_idle c.idle)
taken_less {laws} job node number (Some p) engine before now within running h at is c = laid_less job node number engine p before now within running h at is c

pub commit_less : {laws : Laws} (job : LoggedJob laws) (node number : ℕ) (before now : NetView) → node < length before.plan.nodes → IsRunning before → StandsFor job before → NodeCommits node number Did before now → left_in now < left_in before
commit_less {laws} job node number before now within running h c = taken_less job node number (shelf_at c.engine number) c.engine before now within running h c.at refl c.committed

-- and what did nothing leaves as much
taken_no_more : {laws : Laws} (job : LoggedJob laws) (node number : ℕ) (r : Option PerformedView) (effect : Effect) (engine : EngineView) (before now : NetView) → node < length before.plan.nodes → IsRunning before → StandsFor job before → slice_get before.engines node ≡ Some engine
    → shelf_at engine number ≡ r → CommittedAt node number r effect engine before now → left_in now ≤ left_in before
taken_no_more {laws} job node number None effect engine before now within running h at is c = same_left before now c.same
taken_no_more {laws} job node number (Some p) Did engine before now within running h at is c = less_left (left_in now) (left_in before) (laid_less job node number engine p before now within running h at is c)
taken_no_more {laws} job node number (Some p) Idle engine before now within running h at is c = absurd c
taken_no_more {laws} job node number (Some p) OutOfMemory engine before now within running h at is c = same_left before now c

pub commit_no_more : {laws : Laws} (job : LoggedJob laws) (node number : ℕ) (effect : Effect) (before now : NetView) → node < length before.plan.nodes → IsRunning before → StandsFor job before → NodeCommits node number effect before now → left_in now ≤ left_in before
commit_no_more {laws} job node number effect before now within running h c = taken_no_more job node number (shelf_at c.engine number) effect c.engine before now within running h c.at refl c.committed
