-- What comes of a node's next set that is shown to the node's calculator in place.
use Rattle.std.proofs.Common.{◌≡◌, ℕ, ◌<◌, true, false, List, length, set, Some, slice_get, inl, inr, ap, sym, refl, subst, ◌∙◌}
use Rattle.std.proofs.lemmas.List.{set-set}
use Rattle.mg_calc.specs.Rules.{Laws}
use Rattle.mg_calc.specs.declared.event.Effect.TheVariants.{Idle}
use Rattle.mg_node.specs.declared.at_once.AtOnce.{AtOnce}
use Rattle.mg_node.specs.declared.at_once.AtOnce.TheVariants.{Other, NotReady as NoSet, Claimed as OnlyClaimed, Performed as OnlyPerformed, Committed as AllDone}
use Rattle.mg_node.specs.declared.claimed.Claimed.TheVariants.{Work, NotReady}
use Rattle.mg_node.specs.Views.{IntakeView, WorkView, EngineView}
use Rattle.mg_node.specs.Job.{LoggedJob}
use Rattle.mg_node.specs.Lawful.{LawfulEngine, LawfulIntake, of_node, Agree}
use Rattle.mg_node.specs.Shelves.{shelved, outcome_of}
use Rattle.mg_node.specs.Commits.{Commits}
use Rattle.mg_node.specs.AtOnce.{IsDoneBetween, DoesAtOnce}
use Rattle.mg_node.proofs.Lemmas.{get_set, same_put}
use Rattle.mg_sched.specs.declared.reached.Reached.{Reached}
use Rattle.mg_sched.specs.declared.reached.Reached.TheVariants.{Nothing, Claimed, Performed, Committed}
use Rattle.mg_sched.specs.Views.{WorkQueueView, NetView}
use Rattle.mg_sched.specs.Places.{with_engine, with_intake, with_limits, first_edge, lengths_of}
use Rattle.mg_sched.specs.StandsFor.{StandsForSome, IsRunning}
use Rattle.mg_sched.specs.Acts.{IsHeldSource, with_noted, stopped_by}
use Rattle.mg_sched.specs.Code.AtOnce.{NodeHandsOut, ShowsTo, ShowsAt, did_nothing, with_work, IsHandedOut, ComesOn, Comes}
use Rattle.mg_sched.proofs.Finding.{found, work_queue_there, parts_lawful}
use Rattle.mg_sched.proofs.WorkingAtOnce.{hands_work, hands_none, on_kept, work_queue_room, handed_out, nothing_came, comes, took_nothing, below, marks, performs, finishes}

-- If no set was shown the net is as it was.
pub shows_none : {laws : Laws} {C : Type 0} (done : AtOnce C) (node : ℕ) (net : NetView) (some : StandsForSome laws net) → IsRunning net → node < length net.plan.nodes → (engine engine_now : EngineView) (intake intake_now : IntakeView)
    → slice_get net.engines node ≡ Some engine → slice_get net.intakes node ≡ Some intake → did_nothing done ≡ true → DoesAtOnce laws {C = C} done engine engine_now intake intake_now
    → ShowsAt laws {C = C} node done net (with_intake (with_engine net node engine_now) node intake_now)
shows_none {laws} {C} Other node net some running there engine engine_now intake intake_now at to none does =
    let engines : set net.engines node engine_now ≡ net.engines = ap (set net.engines node) does.same_engine ∙ same_put net.engines node engine at in
    let intakes : set net.intakes node intake_now ≡ net.intakes = ap (set net.intakes node) does.same_intake ∙ same_put net.intakes node intake to in
    λ i. record net { engines = engines i; intakes = intakes i }
shows_none {laws} {C} NoSet node net some running there engine engine_now intake intake_now at to none does = record {
  engine = engine;
  at = at;
  intake = intake;
  to = to;
  engine_now = engine_now;
  intake_now = intake_now;
  claims = does;
  now_is = took_nothing {C = C} NotReady node net some running there engine engine_now intake intake_now at to refl does;
}
shows_none {laws} {C} (OnlyClaimed work) node net some running there engine engine_now intake intake_now at to none does = absurd cc
shows_none {laws} {C} (OnlyPerformed number) node net some running there engine engine_now intake intake_now at to none does = absurd cc
shows_none {laws} {C} (AllDone number) node net some running there engine engine_now intake intake_now at to none does = absurd cc

pub shows_some : {laws : Laws} {C : Type 0} (done : AtOnce C) (node : ℕ) (before now : NetView) → did_nothing done ≡ false → ShowsTo laws {C = C} node done before now → ShowsAt laws {C = C} node done before now
shows_some {laws} {C} Other node before now some h = absurd cc
shows_some {laws} {C} NoSet node before now some h = absurd cc
shows_some {laws} {C} (OnlyClaimed work) node before now some h = h
shows_some {laws} {C} (OnlyPerformed number) node before now some h = h
shows_some {laws} {C} (AllDone number) node before now some h = h

-- What a step by step turn is made of.

module _ {laws : Laws} (C : Type 0) (node : ℕ) (before now : NetView) (some : StandsForSome laws before) (running : IsRunning before) (there : node < length before.plan.nodes) (free : ¬ IsHeldSource before node) where
  abbrev work_queue_of : WorkQueueView
  work_queue_of = (found before.work_queues node (work_queue_there before node some there)).0

  work_queue_on : slice_get before.work_queues node ≡ Some work_queue_of
  work_queue_on = (found before.work_queues node (work_queue_there before node some there)).1

  -- A work is claimed.
  hands_of : (work : WorkView) → ShowsTo laws {C = C} node (OnlyClaimed work) before now → NodeHandsOut {C = C} node (Work work) before now
  hands_of work h = record { engine = h.engine; at = h.at; intake = h.intake; to = h.to; engine_now = h.engine_now; intake_now = h.intake_now; claims = h.does; now_is = h.now_is }

  pub claimed_below : (work : WorkView) → ShowsTo laws {C = C} node (OnlyClaimed work) before now → node < length now.work_queues
  claimed_below work h = below now.work_queues node work_queue_of (on_kept {C = C} node (Work work) before now work_queue_of (hands_of work h) work_queue_on)

  pub claimed_room : (work : WorkView) → ShowsTo laws {C = C} node (OnlyClaimed work) before now → (work_queue : WorkQueueView) → slice_get now.work_queues node ≡ Some work_queue → length work_queue.works < work_queue.room
  claimed_room work h = λ work_queue on. work_queue_room {C = C} node work before now work_queue some running there (hands_of work h) on

  pub comes_claimed : (work : WorkView) (last : NetView) → ShowsTo laws {C = C} node (OnlyClaimed work) before now → ((work_queue : WorkQueueView) → slice_get now.work_queues node ≡ Some work_queue → last ≡ with_work now node work_queue work) → Comes laws node Claimed before last
  comes_claimed work last h put =
      let out = handed_out laws {C = C} node work before now work_queue_of some running there free (hands_of work h) work_queue_on in
      comes laws node Claimed before (with_work now node work_queue_of work) last there (inr (free, hands_work {C = C} node work before now work_queue_of (hands_of work h) work_queue_on)) (put work_queue_of out.on)

  pub none_ready : NodeHandsOut {C = C} node NotReady before now → Comes laws node Nothing before now
  none_ready h = nothing_came node before now some running there (inr (free, hands_none {C = C} node NotReady Idle before now work_queue_of h work_queue_on (inl h.claims, refl)))

  -- the net once the set is claimed
  abbrev claimed_net : EngineView → IntakeView → NetView
  claimed_net between intake = with_noted (with_intake (with_engine before node between) node intake) (first_edge before.plan node) (lengths_of intake.waits)

  module _ (number : ℕ) (engine between engine_now : EngineView) (intake intake_now : IntakeView) (at : slice_get before.engines node ≡ Some engine) (to : slice_get before.intakes node ≡ Some intake)
      (d : IsDoneBetween laws C number engine between intake intake_now) where
    abbrev net : NetView
    net = claimed_net between intake_now

    hands : NodeHandsOut {C = C} node (Work d.work) before net
    hands = record { engine = engine; at = at; intake = intake; to = to; engine_now = between; intake_now = intake_now; claims = d.claims; now_is = refl }

    abbrev out_is : IsHandedOut laws net node d.work
    out_is = handed_out laws {C = C} node d.work before net work_queue_of some running there free hands work_queue_on

    between_at : slice_get net.engines node ≡ Some between
    between_at = get_set before.engines node engine between at

    -- the engine goes on from there
    goes_on : with_engine net node engine_now ≡ claimed_net engine_now intake_now
    goes_on = ap (λ (es : List EngineView). (let v : NetView = record (claimed_net between intake_now) { engines = es } in v)) (set-set before.engines node between engine_now)

    claims_first : (reached : Reached) (last : NetView) → ComesOn laws node reached (with_work net node work_queue_of d.work) last → Comes laws node reached before last
    claims_first reached last on = comes laws node reached before (with_work net node work_queue_of d.work) last there (inr (free, hands_work {C = C} node d.work before net work_queue_of hands work_queue_on)) on

    performed_first : (last : NetView) → engine_now ≡ shelved between (outcome_of d.performed) → last ≡ claimed_net engine_now intake_now → Comes laws node (Performed number) before last
    performed_first last left last_is =
        claims_first (Performed number) last (
          with_engine net node engine_now,
          there,
          performs net node number work_queue_of d.work out_is.on out_is.stands out_is.running there d.number_is between between_at d.performed (outcome_of d.performed) engine_now d.done refl left,
          last_is ∙ sym goes_on,
        )

    committed_first : (laid : ℕ) (shown last : NetView) → Commits (outcome_of d.performed) laid between engine_now → shown ≡ claimed_net engine_now intake_now → last ≡ with_limits shown (stopped_by node engine_now shown.limits) → Comes laws node (Committed number) before last
    committed_first laid shown last commits shown_is last_is =
        claims_first (Committed number) last
        (finishes net node number work_queue_of d.work out_is.on out_is.stands out_is.running there d.number_is between between_at d.performed (outcome_of d.performed) engine_now laid last d.done refl commits
        (last_is ∙ ap (λ (v : NetView). with_limits v (stopped_by node engine_now v.limits)) (shown_is ∙ sym goes_on)))

    marked_first : (shown : NetView) → shown ≡ claimed_net engine_now intake_now → node < length shown.limits.reached
    marked_first shown is =
        let here : node < length net.limits.reached = marks net node number work_queue_of d.work out_is.on out_is.stands out_is.running there d.number_is net refl in
        subst (λ (v : NetView). node < length v.limits.reached) (sym (is ∙ sym goes_on)) here

  -- It is performed, or committed.
  pub comes_performed : (number : ℕ) → ShowsTo laws {C = C} node (OnlyPerformed number) before now → Comes laws node (Performed number) before now
  comes_performed number h = performed_first number h.engine h.does.between h.engine_now h.intake h.intake_now h.at h.to h.does.done now h.does.left h.now_is

  engine_shown : (number : ℕ) (h : ShowsTo laws {C = C} node (AllDone number) before now) → slice_get now.engines node ≡ Some h.engine_now
  engine_shown number h = ap (λ (v : NetView). slice_get v.engines node) h.now_is ∙ get_set before.engines node h.engine h.engine_now h.at

  pub shown_within : (number : ℕ) → ShowsTo laws {C = C} node (AllDone number) before now → node < length now.engines
  shown_within number h = below now.engines node h.engine_now (engine_shown number h)

  pub shown_marked : (number : ℕ) → ShowsTo laws {C = C} node (AllDone number) before now → node < length now.limits.reached
  shown_marked number h = marked_first number h.engine h.does.between h.engine_now h.intake h.intake_now h.at h.to h.does.done now h.now_is

  pub comes_committed : (number : ℕ) (last : NetView) → ShowsTo laws {C = C} node (AllDone number) before now → ((engine : EngineView) → slice_get now.engines node ≡ Some engine → last ≡ with_limits now (stopped_by node engine now.limits))
      → Comes laws node (Committed number) before last
  comes_committed number last h stops =
      committed_first number h.engine h.does.between h.engine_now h.intake h.intake_now h.at h.to h.does.done h.does.laid now last h.does.commits h.now_is (stops h.engine_now (engine_shown number h))

-- The intake of a node whose set was shown is lawful.
pub intake_shown : {laws : Laws} (net : NetView) (node : ℕ) (engine engine_now : EngineView) (intake intake_now : IntakeView) (some : StandsForSome laws net) → IsRunning net → node < length net.plan.nodes → slice_get net.engines node ≡ Some engine
    → slice_get net.intakes node ≡ Some intake
    → ((job : LoggedJob laws) (number : ℕ) → LawfulEngine job (of_node number) engine → LawfulIntake job number intake → Agree engine intake → LawfulEngine job (of_node number) engine_now × LawfulIntake job number intake_now)
    → LawfulIntake some.job node intake_now
intake_shown {laws} net node engine engine_now intake intake_now some running there at to keeps = (let parts = parts_lawful net node engine intake some running there at to in (keeps some.job node parts.0 parts.1 parts.2).1)
