-- What comes of a node's next work that is claimed, performed and committed at once.
use Rattle.std.proofs.Common.{◌≡◌, ℕ, zero, suc, ◌-◌, ◌<◌, Bool, true, false, List, [], ◌∷◌, ◌++◌, length, set, Option, Some, None, slice_get, inl, inr, ap, sym, refl, subst, ◌∙◌, append-nil, arith}
use Rattle.std.proofs.lemmas.List.{length-set, set-set}
use Rattle.std.proofs.lemmas.Option.{same_Some}
use Rattle.mg_calc.specs.Rules.{Laws}
use Rattle.mg_calc.specs.declared.event.Event.{Event}
use Rattle.mg_calc.specs.declared.event.Event.TheVariants.{Claim, Perform, Commit}
use Rattle.mg_calc.specs.declared.event.Effect.{Effect}
use Rattle.mg_calc.specs.declared.event.Effect.TheVariants.{Did, Idle, OutOfMemory}
use Rattle.mg_node.specs.declared.claimed.Claimed.{Claimed}
use Rattle.mg_node.specs.declared.claimed.Claimed.TheVariants.{Work, Answered, NotReady, InFlightFull, Draining, Ended, OutOfMemory as NoMemory}
use Rattle.mg_node.specs.Views.{IntakeView, WorkView, PerformedView, OutcomeView, EntryView, EngineView}
use Rattle.mg_node.specs.Job.{LoggedJob}
use Rattle.mg_node.specs.Claims.{AreSame, Claims, LawfulClaim}
use Rattle.mg_node.specs.Lawful.{of_node, LawfulEngine, LawfulIntake, Agree}
use Rattle.mg_node.specs.Running.{SomeJobHas, IsPerformed}
use Rattle.mg_node.specs.Shelves.{IsOut, back, shelved, outcome_of, shelf_at}
use Rattle.mg_node.specs.Commits.{Commits, SomeJobHasEngine, HasFront, front_laid, front_of, committed_entry, window_with}
use Rattle.mg_node.proofs.Lemmas.{get_set, same_put}
use Rattle.mg_node.proofs.ShelfLaws.{found_again}
use Rattle.mg_sched.specs.declared.reached.Reached.{Reached}
use Rattle.mg_sched.specs.declared.reached.Reached.TheVariants.{Nothing, NotClaimed, Answered as OnlyAnswered, Claimed as OnlyClaimed, Performed, Committed}
use Rattle.mg_sched.specs.Views.{WorkQueueView, NetView}
use Rattle.mg_sched.specs.Places.{with_engine, with_intake, with_work_queue, with_limits, first_edge, lengths_of}
use Rattle.mg_sched.specs.StandsFor.{StandsForSome, IsRunning}
use Rattle.mg_sched.specs.Acts.{IsHeldSource, Acts, ClaimsBy, ClaimsNext, with_noted, stopped_by, CommitsTo}
use Rattle.mg_sched.specs.Acts as acts
use Rattle.mg_sched.specs.Sweeps.{Becomes, itself}
use Rattle.mg_sched.specs.Runs.{IsRun}
use Rattle.mg_sched.specs.Heard.{Heard, HeardSome}
use Rattle.mg_sched.specs.Code.WorkQueues.{TakesFrom}
use Rattle.mg_sched.specs.Code.Left.{Steps}
use Rattle.mg_sched.specs.Code.AtOnce.{NodeHandsOut, took_none, with_work, IsHandedOut, steps_of, ComesOn, Comes, did_of, HearsMore}
use Rattle.mg_sched.proofs.Finding.{cell_at, found, work_queue_there, parts_lawful}
use Rattle.mg_sched.proofs.ClaimKeeps.{room_left}
use Rattle.mg_sched.proofs.Working.{lawful_at, marked, work_lawful, has_room, performed_out, performs_did}
use Rattle.mg_sched.proofs.ActsRun.{acts_run}
use Rattle.mg_sched.proofs.ActsStand.{acts_stand}
use Rattle.mg_sched.proofs.IdleStays.{claimed_none, idle_same}
use Rattle.mg_sched.proofs.Becoming.{becomes_one}
use Rattle.mg_sched.proofs.Sweeping.{steps_none}
use Rattle.mg_sched.proofs.RunsOn.{run_becomes, run_less}

-- an intake from which a work was claimed is lawful
pub intake_claimed : {laws : Laws} {C : Type 0} (net : NetView) (node : ℕ) (engine engine_now : EngineView) (intake intake_now : IntakeView) (claimed : Claimed C) (some : StandsForSome laws net) → IsRunning net → node < length net.plan.nodes
    → slice_get net.engines node ≡ Some engine → slice_get net.intakes node ≡ Some intake
    → ((job : LoggedJob laws) (number : ℕ) → LawfulEngine job (of_node number) engine → LawfulIntake job number intake → Agree engine intake → LawfulClaim {C = C} job number claimed engine_now intake_now)
    → LawfulIntake some.job node intake_now
intake_claimed {laws} {C} net node engine engine_now intake intake_now claimed some running there at to keeps =
    let parts = parts_lawful net node engine intake some running there at to in
    (keeps some.job node parts.0 parts.1 parts.2).lawful_intake

-- A claim whose work lies in no work queue is, with the work laid there, the claim of a net.

pub hands_work : {C : Type 0} (node : ℕ) (work : WorkView) (before now : NetView) (work_queue : WorkQueueView) → NodeHandsOut {C = C} node (Work work) before now → slice_get before.work_queues node ≡ Some work_queue
    → ClaimsNext node Did before (with_work now node work_queue work)
hands_work {C} node work before now work_queue h on =
    let more : WorkQueueView = record work_queue { works = work_queue.works ++ work ∷ [] } in
    record {
      engine = h.engine;
      at = h.at;
      intake = h.intake;
      to = h.to;
      work_queue = work_queue;
      on = on;
      engine_now = h.engine_now;
      intake_now = h.intake_now;
      work_queue_now = more;
      claims = inl (record { work = work; claims = h.claims; on_work_queue = refl });
      now_is = ap (λ (v : NetView). with_work_queue v node more) h.now_is;
    }

-- its work queues are as they were
pub work_queues_kept : {C : Type 0} (node : ℕ) (claimed : Claimed C) (before now : NetView) → NodeHandsOut {C = C} node claimed before now → now.work_queues ≡ before.work_queues
work_queues_kept {C} node claimed before now h = ap (λ (v : NetView). v.work_queues) h.now_is

pub on_kept : {C : Type 0} (node : ℕ) (claimed : Claimed C) (before now : NetView) (work_queue : WorkQueueView) → NodeHandsOut {C = C} node claimed before now → slice_get before.work_queues node ≡ Some work_queue → slice_get now.work_queues node ≡ Some work_queue
on_kept {C} node claimed before now work_queue h on = ap (λ (ds : List WorkQueueView). slice_get ds node) (work_queues_kept node claimed before now h) ∙ on

-- and there is room on them for the work
pub work_queue_room : {laws : Laws} {C : Type 0} (node : ℕ) (work : WorkView) (before now : NetView) (work_queue : WorkQueueView) (some : StandsForSome laws before) → IsRunning before → node < length before.plan.nodes → NodeHandsOut {C = C} node (Work work) before now
    → slice_get now.work_queues node ≡ Some work_queue → length work_queue.works < work_queue.room
work_queue_room {laws} {C} node work before now work_queue some running there h on =
    let was : slice_get before.work_queues node ≡ Some work_queue = ap (λ (ds : List WorkQueueView). slice_get ds node) (sym (work_queues_kept node (let w : Claimed C = Work work in w) before now h)) ∙ on in
    room_left some.job node work h.engine h.engine_now h.intake h.intake_now work_queue (cell_at some.job before node h.engine h.intake work_queue some.stands running there h.at h.to was) h.claims

-- and so is a claim that hands out no work
pub hands_none : {C : Type 0} (node : ℕ) (claimed : Claimed C) (effect : Effect) (before now : NetView) (work_queue : WorkQueueView) (h : NodeHandsOut {C = C} node claimed before now) → slice_get before.work_queues node ≡ Some work_queue
    → ClaimsBy effect h.engine h.engine_now h.intake h.intake_now work_queue work_queue → ClaimsNext node effect before now
hands_none {C} node claimed effect before now work_queue h on claims = record {
  engine = h.engine;
  at = h.at;
  intake = h.intake;
  to = h.to;
  work_queue = work_queue;
  on = on;
  engine_now = h.engine_now;
  intake_now = h.intake_now;
  work_queue_now = work_queue;
  claims = claims;
  now_is = h.now_is
      ∙ ap (λ (ds : List WorkQueueView). with_noted (record (with_intake (with_engine before node h.engine_now) node h.intake_now) { work_queues = ds }) (first_edge before.plan node) (lengths_of h.intake_now.waits))
      (sym (same_put before.work_queues node work_queue on));
}

-- If a claim took nothing, the net is as it was, also once the limits hear what waits.
idle_claims : {C : Type 0} (claimed : Claimed C) (engine engine_now : EngineView) (intake intake_now : IntakeView) (work_queue : WorkQueueView) → took_none claimed ≡ true → Claims {C = C} claimed engine engine_now intake intake_now
    → ClaimsBy Idle engine engine_now intake intake_now work_queue work_queue × AreSame engine intake engine_now intake_now
idle_claims {C} (Work work) engine engine_now intake intake_now work_queue none claims = absurd cc
idle_claims {C} Answered engine engine_now intake intake_now work_queue none claims = absurd cc
idle_claims {C} NotReady engine engine_now intake intake_now work_queue none claims = ((inl claims, refl), claims.2)
idle_claims {C} InFlightFull engine engine_now intake intake_now work_queue none claims = ((inr (inl claims), refl), claims.3)
idle_claims {C} Draining engine engine_now intake intake_now work_queue none claims = ((inr (inr (inl claims)), refl), claims.3)
idle_claims {C} Ended engine engine_now intake intake_now work_queue none claims = ((inr (inr (inr claims)), refl), claims.1)
idle_claims {C} NoMemory engine engine_now intake intake_now work_queue none claims = absurd cc

pub took_nothing : {laws : Laws} {C : Type 0} (claimed : Claimed C) (node : ℕ) (net : NetView) (some : StandsForSome laws net) → IsRunning net → node < length net.plan.nodes → (engine engine_now : EngineView) (intake intake_now : IntakeView)
    → slice_get net.engines node ≡ Some engine → slice_get net.intakes node ≡ Some intake → took_none claimed ≡ true → Claims {C = C} claimed engine engine_now intake intake_now
    → with_intake (with_engine net node engine_now) node intake_now ≡ with_noted (with_intake (with_engine net node engine_now) node intake_now) (first_edge net.plan node) (lengths_of intake_now.waits)
took_nothing {laws} {C} claimed node net some running there engine engine_now intake intake_now at to none claims =
    let work_queue = found net.work_queues node (work_queue_there net node some there) in
    let idle = idle_claims claimed engine engine_now intake intake_now work_queue.0 none claims in
    let taken : NetView = with_intake (with_engine net node engine_now) node intake_now in
    let noted : NetView = with_noted taken (first_edge net.plan node) (lengths_of intake_now.waits) in
    let h : NodeHandsOut {C = C} node claimed net noted =
    record { engine = engine; at = at; intake = intake; to = to; engine_now = engine_now; intake_now = intake_now; claims = claims; now_is = refl } in
    let again : noted ≡ net = claimed_none some.job node net noted some.stands running there (hands_none node claimed Idle net noted work_queue.0 h work_queue.1 idle.0) in
    let engines : set net.engines node engine_now ≡ net.engines = ap (set net.engines node) idle.1.same_engine ∙ same_put net.engines node engine at in
    let intakes : set net.intakes node intake_now ≡ net.intakes = ap (set net.intakes node) idle.1.same_intake ∙ same_put net.intakes node intake to in
    let same : taken ≡ net = λ i. record net { engines = engines i; intakes = intakes i } in
    same ∙ sym again

-- With the work in its work queue the net stands for a job, as it does after a claim.
abbrev pub handed_out : (laws : Laws) {C : Type 0} (node : ℕ) (work : WorkView) (before now : NetView) (work_queue : WorkQueueView) (some : StandsForSome laws before) → IsRunning before → node < length before.plan.nodes → ¬ IsHeldSource before node
    → NodeHandsOut {C = C} node (Work work) before now → slice_get before.work_queues node ≡ Some work_queue → IsHandedOut laws now node work
handed_out laws {C} node work before now work_queue some running there free h on =
    let claims : Acts laws (Claim node) Did before (with_work now node work_queue work) = inr (free, hands_work node work before now work_queue h on) in
    record {
      work_queue = work_queue;
      on = on_kept node (let w : Claimed C = Work work in w) before now work_queue h on;
      stands = record { job = some.job; stands = acts_stand some.job (Claim node) Did before (with_work now node work_queue work) there running some.stands claims };
      running = acts_run laws (Claim node) Did before (with_work now node work_queue work) running claims;
      there = subst (λ (v : NetView). node < length v.plan.nodes) (sym h.now_is) there;
    }

-- nothing was done
pub nothing_came : {laws : Laws} (node : ℕ) (before now : NetView) → StandsForSome laws before → IsRunning before → node < length before.plan.nodes → Acts laws (Claim node) Idle before now → Comes laws node Nothing before now
nothing_came {laws} node before now some running there is =
    let same = idle_same some.job (Claim node) before now there running some.stands is in
    (same, (steps_none laws (Claim node) before now same is).1)

-- a work is claimed, and comes on
pub comes : (laws : Laws) (node : ℕ) (reached : Reached) (before between now : NetView) → node < length before.plan.nodes → Acts laws (Claim node) Did before between → ComesOn laws node reached between now → Comes laws node reached before now
comes laws node Nothing before between now there claims on = absurd on
comes laws node NotClaimed before between now there claims on = absurd on
comes laws node OnlyAnswered before between now there claims on = (between, there, claims, on)
comes laws node OnlyClaimed before between now there claims on = (between, there, claims, on)
comes laws node (Performed number) before between now there claims on = (between, there, claims, on)
comes laws node (Committed number) before between now there claims on = (between, there, claims, on)

-- A commit is the same if the work came back before, and was taken out again.
commits_again : (engine : EngineView) (outcome : OutcomeView) (number count : ℕ) (now : EngineView) → number ≡ outcome.work.number → Commits outcome count engine now
    → Commits outcome count (record engine { window = set (shelved engine outcome).window (number - engine.laid) (record { phase = outcome.work.phase; outcome = None; committed = false }) }) now
commits_again engine outcome number count now is c =
    let place = outcome.work.number - engine.laid in
    let entry : EntryView = record { phase = outcome.work.phase; outcome = None; committed = false } in
    let again : List EntryView = set (set (set engine.window place (back outcome)) (number - engine.laid) entry) place (committed_entry outcome) in
    let same : again ≡ window_with engine outcome =
    ap (λ (n : ℕ). set (set (set engine.window place (back outcome)) (n - engine.laid) entry) place (committed_entry outcome)) is
    ∙ set-set (set engine.window place (back outcome)) place entry (committed_entry outcome) ∙ set-set engine.window place (back outcome) (committed_entry outcome) in
    record {
      counted = c.counted;
      given_up = c.given_up;
      others = c.others;
      front = λ whole stand.
          let h : HasFront engine now (front_laid engine.offset again (front_of engine again whole)) =
          subst (λ (w : List EntryView). HasFront engine now (front_laid engine.offset w (front_of engine w whole))) (sym same) (c.front whole stand) in
          record { outputs = h.outputs; given_up = h.given_up; others = h.others };
    }

-- A work that is handed out: with it in its work queue the net stands for a job.

-- what is found stands within
pub below : {X : Type 0} (xs : List X) (i : ℕ) (x : X) → slice_get xs i ≡ Some x → i < length xs
below [] i x is = absurd cc
below (y ∷ xs) zero x is = omega arith
below (y ∷ xs) (suc i) x is = (let less = below xs i x is in omega (arith, less))

pub with_engine_within : (shown net : NetView) (node : ℕ) (engine : EngineView) → shown ≡ net → node < length net.engines → node < length (set shown.engines node engine)
with_engine_within shown net node engine is there =
    let within = subst (λ (v : NetView). node < length v.engines) (sym is) there in
    let long = length-set shown.engines node engine in
    omega (arith, within, long)

module _ {laws : Laws} (net : NetView) (node number : ℕ) (work_queue : WorkQueueView) (work : WorkView) (on : slice_get net.work_queues node ≡ Some work_queue) (some : StandsForSome laws (with_work net node work_queue work)) (running : IsRunning (with_work net node work_queue work))
    (there : node < length net.plan.nodes) (number_is : number ≡ work.number) where
  abbrev laid : NetView
  laid = with_work net node work_queue work

  abbrev full : WorkQueueView
  full = record work_queue { works = work_queue.works ++ work ∷ [] }

  -- the work queue once it is taken from there
  abbrev left : WorkQueueView
  left = record work_queue { works = work_queue.works ++ [] }

  left_is : left ≡ work_queue
  left_is = ap (λ (ws : List WorkView). (let d : WorkQueueView = record work_queue { works = ws } in d)) (append-nil work_queue.works)

  full_on : slice_get laid.work_queues node ≡ Some full
  full_on = get_set net.work_queues node work_queue full on

  pub takes : TakesFrom number (length work_queue.works) work full left
  takes = record { front = work_queue.works; back = []; place_is = refl; works = refl; number_is = sym number_is; left = refl }

  pub has_room_again : length work_queue.works < work_queue.room
  has_room_again = has_room laid node number (length work_queue.works) full left work_queue work some running there full_on takes (sym left_is)

  pub marks : (shown : NetView) → shown ≡ net → node < length shown.limits.reached
  marks shown is = subst (λ (v : NetView). node < length v.limits.reached) (sym is) (marked laid laid node refl some there)

  pub lawful_work : SomeJobHas laws work
  lawful_work = work_lawful laid node number (length work_queue.works) full left work some running there full_on takes

  module _ (engine : EngineView) (at : slice_get net.engines node ≡ Some engine) where
    pub some_engine : SomeJobHasEngine laws engine
    some_engine = record { job = some.job; number = node; lawful = lawful_at laid node engine some running there at }

    pub is_out : (p : PerformedView) (outcome : OutcomeView) → IsPerformed laws work p → outcome ≡ outcome_of p → IsOut engine outcome.work
    is_out p outcome performed is = performed_out laid node number (length work_queue.works) engine full left work p outcome some running there at full_on takes performed is

    -- without it the work queue is as it was
    off_again : (engine_now : EngineView) → with_work_queue (with_engine laid node engine_now) node left ≡ with_engine net node engine_now
    off_again engine_now = ap (λ (ds : List WorkQueueView). (let v : NetView = record (with_engine net node engine_now) { work_queues = ds } in v))
        (set-set net.work_queues node full left ∙ ap (set net.work_queues node) left_is ∙ same_put net.work_queues node work_queue on)

    -- it is performed
    pub performs : (p : PerformedView) (outcome : OutcomeView) (engine_now : EngineView) → IsPerformed laws work p → outcome ≡ outcome_of p → engine_now ≡ shelved engine outcome → acts.NodePerforms laws node number Did laid (with_engine net node engine_now)
    performs p outcome engine_now performed is now_is =
        subst (acts.NodePerforms laws node number Did laid) (off_again engine_now)
        (performs_did laid laid node number (length work_queue.works) engine engine_now full left work p outcome refl at full_on takes performed is now_is)

    -- and committed
    pub commits : (p : PerformedView) (engine_now : EngineView) (count : ℕ) (now : NetView) → IsPerformed laws work p → Commits (outcome_of p) count engine engine_now
        → now ≡ with_limits (with_engine net node engine_now) (stopped_by node engine_now net.limits) → acts.NodeCommits node number Did (with_engine net node (shelved engine (outcome_of p))) now
    commits p engine_now count now performed commit now_is =
        let shelf = shelved engine (outcome_of p) in
        let between = with_engine net node shelf in
        let out = is_out p (outcome_of p) performed refl in
        let numbered : p.work.number ≡ number = ap (λ (w : WorkView). w.number) performed.same ∙ sym number_is in
        let taken : EngineView = record shelf { window = set shelf.window (number - shelf.laid) (record { phase = p.work.phase; outcome = None; committed = false }) } in
        let finds : shelf_at shelf number ≡ Some p = ap (shelf_at shelf) (sym numbered) ∙ found_again engine (outcome_of p) out in
        let to : CommitsTo node number shelf p between now = record {
          taken = taken;
          takes = refl;
          laid = count;
          engine_now = engine_now;
          commits = commits_again engine (outcome_of p) number count engine_now (sym numbered) commit;
          now_is = now_is ∙ ap (λ (es : List EngineView). with_limits (record net { engines = es }) (stopped_by node engine_now net.limits)) (sym (set-set net.engines node shelf engine_now));
        } in
        record { engine = shelf; at = get_set net.engines node engine shelf at; committed = subst (λ (r : Option PerformedView). acts.CommittedAt node number r Did shelf between now) (sym finds) to }

    pub finishes : (p : PerformedView) (outcome : OutcomeView) (engine_now : EngineView) (count : ℕ) (now : NetView) → IsPerformed laws work p → outcome ≡ outcome_of p → Commits outcome count engine engine_now
        → now ≡ with_limits (with_engine net node engine_now) (stopped_by node engine_now net.limits) → IsRun laws (Perform node number ∷ Commit node number ∷ []) laid now
    finishes p outcome engine_now count now performed is commit now_is =
        let between = with_engine net node (shelved engine (outcome_of p)) in (
          between,
          there,
          performs p (outcome_of p) (shelved engine (outcome_of p)) performed refl refl,
          (now, there, commits p engine_now count now performed (subst (λ (o : OutcomeView). Commits o count engine engine_now) is commit) now_is, refl),
        )

-- What hears the steps.

pub heard_run : (laws : Laws) {H : Type 0} (has_heard : H → H → List Event → Type 0) (a b : H) (events : List Event) (net there : NetView) → IsRun laws events net there → HearsMore has_heard a b events → Heard laws has_heard a b net there
heard_run laws {H} has_heard a b events net there run hears = λ began es heard. (events, run, hears began es heard)

-- What becomes of a net.

pub comes_becomes : {laws : Laws} (node : ℕ) (reached : Reached) (before now : NetView) → node < length before.plan.nodes → Comes laws node reached before now → Becomes laws before now
comes_becomes {laws} node Nothing before now there c = subst (λ (v : NetView). Becomes laws before v) (sym c.0) itself
comes_becomes {laws} node NotClaimed before now there c = becomes_one (Claim node) OutOfMemory before now there c
comes_becomes {laws} node OnlyAnswered before now there c = run_becomes (steps_of node OnlyAnswered) before now c
comes_becomes {laws} node OnlyClaimed before now there c = run_becomes (steps_of node OnlyClaimed) before now c
comes_becomes {laws} node (Performed number) before now there c = run_becomes (steps_of node (Performed number)) before now c
comes_becomes {laws} node (Committed number) before now there c = run_becomes (steps_of node (Committed number)) before now c

pub comes_heard : (laws : Laws) {H : Type 0} (has_heard : H → H → List Event → Type 0) (a b : H) (node : ℕ) (reached : Reached) (did : Bool) (before now : NetView) → Comes laws node reached before now → did_of reached ≡ Some did
    → HearsMore has_heard a b (steps_of node reached) → Heard laws has_heard a b before now
comes_heard laws {H} has_heard a b node Nothing did before now c is hears = heard_run laws has_heard a b [] before now c.0 hears
comes_heard laws {H} has_heard a b node NotClaimed did before now c is hears = absurd cc
comes_heard laws {H} has_heard a b node OnlyAnswered did before now c is hears = heard_run laws has_heard a b (steps_of node OnlyAnswered) before now c hears
comes_heard laws {H} has_heard a b node OnlyClaimed did before now c is hears = absurd cc
comes_heard laws {H} has_heard a b node (Performed number) did before now c is hears = absurd cc
comes_heard laws {H} has_heard a b node (Committed number) did before now c is hears = heard_run laws has_heard a b (steps_of node (Committed number)) before now c hears

pub comes_heard_some : (laws : Laws) {H : Type 0} (has_heard : H → H → List Event → Type 0) (a b : H) (node : ℕ) (reached : Reached) (before now : NetView) → Comes laws node reached before now → did_of reached ≡ None
    → HearsMore has_heard a b (steps_of node reached) → HeardSome laws has_heard a b before
comes_heard_some laws {H} has_heard a b node Nothing before now c is hears = absurd cc
comes_heard_some laws {H} has_heard a b node NotClaimed before now c is hears = (before, heard_run laws has_heard a b [] before before refl hears)
comes_heard_some laws {H} has_heard a b node OnlyAnswered before now c is hears = absurd cc
comes_heard_some laws {H} has_heard a b node OnlyClaimed before now c is hears = (now, heard_run laws has_heard a b (steps_of node OnlyClaimed) before now c hears)
comes_heard_some laws {H} has_heard a b node (Performed number) before now c is hears = (now, heard_run laws has_heard a b (steps_of node (Performed number)) before now c hears)
comes_heard_some laws {H} has_heard a b node (Committed number) before now c is hears = absurd cc

pub comes_steps : {laws : Laws} (node : ℕ) (reached : Reached) (did : Bool) (before now : NetView) (some : StandsForSome laws before) → IsRunning before → Comes laws node reached before now → did_of reached ≡ Some did → Steps laws did (Claim node) before now
comes_steps {laws} node Nothing did before now some running c is = subst (λ (d : Bool). Steps laws d (Claim node) before now) (same_Some false did is) c
comes_steps {laws} node NotClaimed did before now some running c is = absurd cc
comes_steps {laws} node OnlyAnswered did before now some running c is = subst (λ (d : Bool). Steps laws d (Claim node) before now) (same_Some true did is) (run_less some.job (Claim node) [] before now c running some.stands)
comes_steps {laws} node OnlyClaimed did before now some running c is = absurd cc
comes_steps {laws} node (Performed number) did before now some running c is = absurd cc
comes_steps {laws} node (Committed number) did before now some running c is =
    subst (λ (d : Bool). Steps laws d (Claim node) before now) (same_Some true did is) (run_less some.job (Claim node) (Perform node number ∷ Commit node number ∷ []) before now c running some.stands)
