-- How works are performed and committed: what the parts of a net tell of a work, and what has become of the net then.
use Rattle.std.proofs.Common.{◌≡◌, ◌≢◌, ℕ, ◌+◌, ◌<◌, ◌≤◌, Bool, true, false, List, [], ◌∷◌, ◌++◌, length, length-append, map, take, drop, set, get_or, All, Option, Some, None, slice_get, inl, inr, ap, sym, refl, subst, ◌∙◌, arith, if◌then◌else◌}
use Rattle.std.proofs.lemmas.List.{length-set, set-set}
use Rattle.mg_calc.specs.Rules.{Laws}
use Rattle.mg_calc.specs.declared.event.Effect.TheVariants.{Did, Idle, OutOfMemory}
use Rattle.mg_node.specs.Views.{WorkView, PerformedView, OutcomeView, EngineView}
use Rattle.mg_node.specs.Job.{LoggedJob}
use Rattle.mg_node.specs.Lawful.{of_node, LawfulEngine, LawfulWork}
use Rattle.mg_node.specs.Claims.{has_ended}
use Rattle.mg_node.specs.Running.{SomeJobHas, IsPerformed}
use Rattle.mg_node.specs.Shelves.{IsOut, shelved, outcome_of, shelf_at, Unshelves}
use Rattle.mg_node.specs.Commits.{Commits}
use Rattle.mg_node.proofs.Lemmas.{back_in_place, get_set, put_there, same_put, some_same}
use Rattle.mg_throttle.specs.Throttle.{QueueLimits, stopped}
use Rattle.mg_sched.specs.Views.{WorkQueueView, NetView}
use Rattle.mg_sched.specs.Places.{with_engine, with_work_queue, with_limits}
use Rattle.mg_sched.specs.StandsFor.{HasWorks, StandsForSome, IsRunning}
use Rattle.mg_sched.specs.Acts.{Performs, NodePerforms, stopped_by, CommitsTo, CommittedAt, NodeCommits}
use Rattle.mg_sched.specs.Code.WorkQueues.{TakesFrom}
use Rattle.mg_sched.proofs.Finding.{cell_at, found, of_plan, read_at, engine_there, intake_there, work_queue_there, engine_read}
use Rattle.mg_sched.proofs.Middles.{all_middle}
use Rattle.mg_sched.proofs.WorkQueueRoom.{works_fit, window_fits}

-- What a net that stands for a job tells of its parts.

pub lawful_at : {laws : Laws} (net : NetView) (node : ℕ) (engine : EngineView) (h : StandsForSome laws net) → IsRunning net → node < length net.plan.nodes → slice_get net.engines node ≡ Some engine → LawfulEngine h.job (of_node node) engine
lawful_at {laws} net node engine h running there at =
    let intake = found net.intakes node (intake_there net node h there) in
    let work_queue = found net.work_queues node (work_queue_there net node h there) in
    (cell_at h.job net node engine intake.0 work_queue.0 h.stands running there at intake.1 work_queue.1).lawful_engine

pub works_at : {laws : Laws} (net : NetView) (node : ℕ) (engine : EngineView) (work_queue : WorkQueueView) (h : StandsForSome laws net) → IsRunning net → node < length net.plan.nodes → slice_get net.engines node ≡ Some engine → slice_get net.work_queues node ≡ Some work_queue → HasWorks h.job engine work_queue
works_at {laws} net node engine work_queue h running there at on =
    let intake = found net.intakes node (intake_there net node h there) in
    (cell_at h.job net node engine intake.0 work_queue h.stands running there at intake.1 on).works

-- limits have a mark for each node
pub marked : {laws : Laws} (shown net : NetView) (node : ℕ) → shown ≡ net → StandsForSome laws net → node < length net.plan.nodes → node < length shown.limits.reached
marked {laws} shown net node is h there =
    let marks = (of_plan net h).marked_nodes in
    subst (λ (v : NetView). node < length v.limits.reached) (sym is) (let within : node < length net.limits.reached = omega (arith, there, marks) in within)

pub still_there : {laws : Laws} (shown net : NetView) (node : ℕ) (engine : EngineView) → shown ≡ net → StandsForSome laws net → node < length net.plan.nodes → node < length (set shown.engines node engine)
still_there {laws} shown net node engine is h there =
    let within = subst (λ (v : NetView). node < length v.engines) (sym is) (engine_there net node h there) in
    let long = length-set shown.engines node engine in
    omega (arith, within, long)

pub engine_within : (shown net : NetView) (node n : ℕ) → shown ≡ net → node < length net.engines → n ≡ length shown.engines → node < n
engine_within shown net node n is there long =
    let within = subst (λ (v : NetView). node < length v.engines) (sym is) there in omega (arith, within, long)

-- the parts that stand there already change nothing
same_engine : (net : NetView) (node : ℕ) (engine : EngineView) → slice_get net.engines node ≡ Some engine → with_engine net node engine ≡ net
same_engine net node engine at = ap (λ (es : List EngineView). (let v : NetView = record net { engines = es } in v)) (same_put net.engines node engine at)

same_work_queue : (net : NetView) (node : ℕ) (work_queue : WorkQueueView) → slice_get net.work_queues node ≡ Some work_queue → with_work_queue net node work_queue ≡ net
same_work_queue net node work_queue on = ap (λ (ds : List WorkQueueView). (let v : NetView = record net { work_queues = ds } in v)) (same_put net.work_queues node work_queue on)

-- How the queues of a node that has ended stop.

abbrev stopped_if : ℕ → Bool → QueueLimits → QueueLimits
stopped_if node ended limits = if ended then record limits { queues = map (stopped node) limits.queues } else limits

ended_at : (shown net : NetView) (node : ℕ) (read engine : EngineView) (ended : Bool) → shown ≡ net → node < length net.engines → read ≡ get_or shown.engines node read → slice_get net.engines node ≡ Some engine → ended ≡ has_ended read → has_ended engine ≡ ended
ended_at shown net node read engine ended is there value at tells =
    let own : slice_get net.engines node ≡ Some read =
    subst (λ (v : NetView). slice_get v.engines node ≡ Some read) is (read_at shown.engines node read (subst (λ (v : NetView). node < length v.engines) (sym is) there) value) in
    ap has_ended (some_same (slice_get net.engines node) engine read at own) ∙ sym tells

pub stops : (shown net : NetView) (node : ℕ) (read engine : EngineView) (now : QueueLimits) → shown ≡ net → node < length net.engines → read ≡ get_or shown.engines node read → slice_get net.engines node ≡ Some engine → true ≡ has_ended read
    → now ≡ record shown.limits { queues = map (stopped node) shown.limits.queues } → with_limits shown now ≡ with_limits net (stopped_by node engine net.limits)
stops shown net node read engine now is there value at tells now_is =
    let ended = ended_at shown net node read engine true is there value at tells in
    let limits : now ≡ stopped_by node engine net.limits =
    now_is ∙ ap (λ (v : NetView). stopped_if node true v.limits) is ∙ ap (λ (b : Bool). stopped_if node b net.limits) (sym ended) in
    ap (λ (v : NetView). with_limits v now) is ∙ ap (with_limits net) limits

pub goes_on : (shown net : NetView) (node : ℕ) (read engine : EngineView) → shown ≡ net → node < length net.engines → read ≡ get_or shown.engines node read → slice_get net.engines node ≡ Some engine → false ≡ has_ended read
    → net ≡ with_limits net (stopped_by node engine net.limits)
goes_on shown net node read engine is there value at tells =
    let ended = ended_at shown net node read engine false is there value at tells in
    ap (λ (b : Bool). with_limits net (stopped_if node b net.limits)) (sym ended)

-- How commits end.

-- what is taken out of a window is out
pub taken_out : {laws : Laws} (shown net : NetView) (node : ℕ) (read taken : EngineView) (p : PerformedView) (outcome : OutcomeView) → shown ≡ net → StandsForSome laws net → IsRunning net → node < length net.plan.nodes → read ≡ get_or shown.engines node read
    → ((job : LoggedJob laws) (owner : ℕ) → LawfulEngine job (of_node owner) read → IsOut taken p.work) → outcome ≡ outcome_of p → IsOut taken outcome.work
taken_out {laws} shown net node read taken p outcome is h running there value out outcome_is =
    subst (λ (o : OutcomeView). IsOut taken o.work) (sym outcome_is) (out h.job node (lawful_at net node read h running there (engine_read shown net node read is h there value)))

pub commits_none : {laws : Laws} (shown net : NetView) (node number : ℕ) (read now : EngineView) → shown ≡ net → StandsForSome laws net → node < length net.plan.nodes → read ≡ get_or shown.engines node read → None ≡ shelf_at read number → now ≡ read
    → NodeCommits node number Idle net (with_engine shown node now)
commits_none {laws} shown net node number read now is h there value none same =
    let at = engine_read shown net node read is h there value in
    record {
      engine = read;
      at = at;
      committed = subst (λ (o : Option PerformedView). CommittedAt node number o Idle read net (with_engine shown node now)) none
          (record { idle = refl; same = ap (λ (v : NetView). with_engine v node now) is ∙ ap (with_engine net node) same ∙ same_engine net node read at });
    }

pub commits_did : {laws : Laws} (shown net : NetView) (node number : ℕ) (read taken now : EngineView) (p : PerformedView) (outcome : OutcomeView) (laid : ℕ) (after : NetView) → shown ≡ net → StandsForSome laws net → node < length net.plan.nodes
    → read ≡ get_or shown.engines node read → Some p ≡ shelf_at read number → Unshelves (Some p) read taken number → outcome ≡ outcome_of p → Commits outcome laid taken now
    → ((engine : EngineView) → slice_get (set shown.engines node now) node ≡ Some engine → after ≡ with_limits (with_engine shown node now) (stopped_by node engine shown.limits)) → NodeCommits node number Did net after
commits_did {laws} shown net node number read taken now p outcome laid after is h there value finds takes outcome_is commits ends =
    let at = engine_read shown net node read is h there value in
    let stands : slice_get shown.engines node ≡ Some read = subst (λ (v : NetView). slice_get v.engines node ≡ Some read) (sym is) at in
    let to : CommitsTo node number read p net after = record {
      taken = taken;
      takes = takes;
      laid = laid;
      engine_now = now;
      commits = subst (λ (o : OutcomeView). Commits o laid taken now) outcome_is commits;
      now_is = ends now (get_set shown.engines node read now stands) ∙ ap (λ (v : NetView). with_limits (with_engine v node now) (stopped_by node now v.limits)) is;
    } in
    record { engine = read; at = at; committed = subst (λ (o : Option PerformedView). CommittedAt node number o Did read net after) finds to }

pub commits_not : {laws : Laws} (shown net : NetView) (node number : ℕ) (read taken now : EngineView) (p : PerformedView) (outcome : OutcomeView) → shown ≡ net → StandsForSome laws net → IsRunning net → node < length net.plan.nodes
    → read ≡ get_or shown.engines node read → Some p ≡ shelf_at read number → Unshelves (Some p) read taken number → outcome ≡ outcome_of p → now ≡ shelved taken outcome → NodeCommits node number OutOfMemory net (with_engine shown node now)
commits_not {laws} shown net node number read taken now p outcome is h running there value finds takes outcome_is now_is =
    let at = engine_read shown net node read is h there value in
    let same : now ≡ read = now_is ∙ ap (shelved taken) outcome_is ∙ back_in_place h.job node read taken number p (lawful_at net node read h running there at) (sym finds) takes in
    record {
      engine = read;
      at = at;
      committed = subst (λ (o : Option PerformedView). CommittedAt node number o OutOfMemory read net (with_engine shown node now)) finds
          (ap (λ (v : NetView). with_engine v node now) is ∙ ap (with_engine net node) same ∙ same_engine net node read at);
    }

-- What leaves a work queue.

pub work_lawful : {laws : Laws} (net : NetView) (node number place : ℕ) (work_queue left : WorkQueueView) (work : WorkView) → StandsForSome laws net → IsRunning net → node < length net.plan.nodes → slice_get net.work_queues node ≡ Some work_queue → TakesFrom number place work work_queue left → SomeJobHas laws work
work_lawful {laws} net node number place work_queue left work h running there on t =
    let engine = found net.engines node (engine_there net node h there) in
    let works = works_at net node engine.0 work_queue h running there engine.1 on in
    record { job = h.job; lawful = (all_middle (LawfulWork h.job) t.front t.back work (subst (All (LawfulWork h.job)) t.works works.lawful)).1 }

work_out : {laws : Laws} (job : LoggedJob laws) (engine : EngineView) (number place : ℕ) (work_queue left : WorkQueueView) (work : WorkView) → HasWorks job engine work_queue → TakesFrom number place work work_queue left → IsOut engine work
work_out {laws} job engine number place work_queue left work works t = (all_middle (IsOut engine) t.front t.back work (subst (All (IsOut engine)) t.works works.out)).1

-- a work is out in whatever state its context is
done_out : {laws : Laws} (engine : EngineView) (work : WorkView) (p : PerformedView) → IsPerformed laws work p → IsOut engine work → IsOut engine p.work
done_out {laws} engine work p performed o =
    subst (IsOut engine) (sym performed.same) (record { node_is = o.node_is; laid = o.laid; entry = o.entry; there = o.there; out = o.out; phase_is = o.phase_is })

pub performed_out : {laws : Laws} (net : NetView) (node number place : ℕ) (engine : EngineView) (work_queue left : WorkQueueView) (work : WorkView) (p : PerformedView) (outcome : OutcomeView) → StandsForSome laws net → IsRunning net → node < length net.plan.nodes
    → slice_get net.engines node ≡ Some engine → slice_get net.work_queues node ≡ Some work_queue → TakesFrom number place work work_queue left → IsPerformed laws work p → outcome ≡ outcome_of p → IsOut engine outcome.work
performed_out {laws} net node number place engine work_queue left work p outcome h running there at on t performed outcome_is =
    subst (λ (o : OutcomeView). IsOut engine o.work) (sym outcome_is)
    (done_out engine work p performed (work_out h.job engine number place work_queue left work (works_at net node engine work_queue h running there at on) t))

length_middle : (front back : List WorkView) (work : WorkView) → length (front ++ work ∷ back) ≡ length (front ++ back) + 1
length_middle front back work =
    let more = length-append front (work ∷ back) in
    let less = length-append front back in
    omega (arith, more, less)

-- The work queue, as it is once a work has left it.

pub left_is : {laws : Laws} (shown net : NetView) (node : ℕ) (left again : WorkQueueView) → shown ≡ net → StandsForSome laws net → node < length net.plan.nodes → again ≡ get_or (set shown.work_queues node left) node again → again ≡ left
left_is {laws} shown net node left again is h there value =
    let less = subst (λ (v : NetView). node < length v.work_queues) (sym is) (work_queue_there net node h there) in
    let long = length-set shown.work_queues node left in
    put_there shown.work_queues node left again (read_at (set shown.work_queues node left) node again (omega (arith, less, long)) value)

pub has_room : {laws : Laws} (net : NetView) (node number place : ℕ) (work_queue left again : WorkQueueView) (work : WorkView) → StandsForSome laws net → IsRunning net → node < length net.plan.nodes → slice_get net.work_queues node ≡ Some work_queue → TakesFrom number place work work_queue left
    → again ≡ left → length again.works < again.room
has_room {laws} net node number place work_queue left again work h running there on t same =
    let engine = found net.engines node (engine_there net node h there) in
    let works = works_at net node engine.0 work_queue h running there engine.1 on in
    let few = works_fit h.job engine.0 work_queue works in
    let fits = window_fits h.job node engine.0 (lawful_at net node engine.0 h running there engine.1) in
    let room = works.room in
    let long : length work_queue.works ≡ length (t.front ++ t.back) + 1 = ap length t.works ∙ length_middle t.front t.back work in
    subst (λ (d : WorkQueueView). length d.works < d.room) (sym (same ∙ t.left)) (let less : length (t.front ++ t.back) < work_queue.room = omega (arith, few, fits, room, long) in less)

pub has_place : (number place : ℕ) (work_queue left again : WorkQueueView) (work : WorkView) → TakesFrom number place work work_queue left → again ≡ left → place ≤ length again.works
has_place number place work_queue left again work t same =
    let at = t.place_is in
    let long = length-append t.front t.back in
    subst (λ (d : WorkQueueView). place ≤ length d.works) (sym (same ∙ t.left)) (let le : place ≤ length (t.front ++ t.back) = omega (arith, at, long) in le)

back_between : {X : Type 0} (front back : List X) (x : X) → take (length front) (front ++ back) ++ x ∷ drop (length front) (front ++ back) ≡ front ++ x ∷ back
back_between [] [] x = refl
back_between [] (y ∷ back) x = refl
back_between {X} (y ∷ front) back x = ap (λ (zs : List X). y ∷ zs) (back_between front back x)

-- a work that is laid where it lay leaves the work queue as it was
abbrev put_at : ℕ → WorkView → WorkQueueView → WorkQueueView
put_at place work work_queue = record work_queue { works = take place work_queue.works ++ work ∷ drop place work_queue.works }

lies_again : (number place : ℕ) (work_queue left again now : WorkQueueView) (work back_work : WorkView) → TakesFrom number place work work_queue left → again ≡ left → back_work ≡ work → now ≡ put_at place back_work again → now ≡ work_queue
lies_again number place work_queue left again now work back_work t same unchanged now_is =
    now_is ∙ ap (λ (w : WorkView). put_at place w again) unchanged ∙ ap (put_at place work) (same ∙ t.left)
    ∙ ap (λ (n : ℕ). put_at n work (record work_queue { works = t.front ++ t.back })) (sym t.place_is)
    ∙ ap (λ (ws : List WorkView). (let d : WorkQueueView = record work_queue { works = ws } in d)) (back_between t.front t.back work ∙ sym t.works)

-- How works are performed.

pub performs_none : {laws : Laws} (shown net : NetView) (node number : ℕ) (work_queue now : WorkQueueView) → shown ≡ net → slice_get net.work_queues node ≡ Some work_queue → All (λ w. w.number ≢ number) work_queue.works → now ≡ work_queue → NodePerforms laws node number Idle net (with_work_queue shown node now)
performs_none {laws} shown net node number work_queue now is on none same = record {
  work_queue = work_queue;
  on = on;
  performed = inl (none, record { idle = refl; same = ap (λ (v : NetView). with_work_queue v node now) is ∙ ap (with_work_queue net node) same ∙ same_work_queue net node work_queue on });
}

pub performs_did : {laws : Laws} (shown net : NetView) (node number place : ℕ) (engine engine_now : EngineView) (work_queue left : WorkQueueView) (work : WorkView) (p : PerformedView) (outcome : OutcomeView) → shown ≡ net
    → slice_get net.engines node ≡ Some engine → slice_get net.work_queues node ≡ Some work_queue → TakesFrom number place work work_queue left → IsPerformed laws work p → outcome ≡ outcome_of p → engine_now ≡ shelved engine outcome
    → NodePerforms laws node number Did net (with_work_queue (with_engine shown node engine_now) node left)
performs_did {laws} shown net node number place engine engine_now work_queue left work p outcome is at on t performed outcome_is now_is =
    let performs : Performs laws node number Did work_queue net (with_work_queue (with_engine shown node engine_now) node left) = record {
      engine = engine;
      at = at;
      work = work;
      front = t.front;
      back = t.back;
      works = t.works;
      number_is = t.number_is;
      performed = (
        p,
        performed,
        ap (λ (v : NetView). with_work_queue (with_engine v node engine_now) node left) is
            ∙ ap (λ (e : EngineView). with_work_queue (with_engine net node e) node left) (now_is ∙ ap (shelved engine) outcome_is)
            ∙ ap (with_work_queue (with_engine net node (shelved engine (outcome_of p))) node) t.left,
      );
    } in
    record { work_queue = work_queue; on = on; performed = inr performs }

pub performs_not : {laws : Laws} (shown net : NetView) (node number place : ℕ) (work_queue left again now : WorkQueueView) (work back_work : WorkView) → shown ≡ net → StandsForSome laws net → node < length net.plan.nodes
    → slice_get net.work_queues node ≡ Some work_queue → TakesFrom number place work work_queue left → again ≡ left → back_work ≡ work → now ≡ put_at place back_work again
    → NodePerforms laws node number OutOfMemory net (with_work_queue (with_work_queue shown node left) node now)
performs_not {laws} shown net node number place work_queue left again now work back_work is h there on t same unchanged now_is =
    let engine = found net.engines node (engine_there net node h there) in
    let work_queues : (let v : NetView = record net { work_queues = set (set net.work_queues node left) node now } in v) ≡ with_work_queue net node now =
    ap (λ (ds : List WorkQueueView). (let v : NetView = record net { work_queues = ds } in v)) (set-set net.work_queues node left now) in
    let performs : Performs laws node number OutOfMemory work_queue net (with_work_queue (with_work_queue shown node left) node now) = record {
      engine = engine.0;
      at = engine.1;
      work = work;
      front = t.front;
      back = t.back;
      works = t.works;
      number_is = t.number_is;
      performed = ap (λ (v : NetView). with_work_queue (with_work_queue v node left) node now) is ∙ work_queues
          ∙ ap (with_work_queue net node) (lies_again number place work_queue left again now work back_work t same unchanged now_is) ∙ same_work_queue net node work_queue on;
    } in
    record { work_queue = work_queue; on = on; performed = inr performs }
