-- What is lawful for a job stays lawful when more input comes later.
use mathlib.Core.Path.{contract'}
use Rattle.std.proofs.Common.{◌≡◌, ℕ, ◌+◌, Bool, true, false, List, [], ◌∷◌, ◌++◌, length, Option, Some, None, option_map, Result, slice_get, refl, ap, sym, subst, ◌∙◌, if◌then◌else◌}
use Rattle.std.specs.List.{AllZip}
use Rattle.std.proofs.lemmas.List.{nil_from_length}
use Rattle.std.proofs.lemmas.List.Elements.{All-weaker}
use Rattle.std.proofs.lemmas.Option.{IfSome_then}
use Rattle.mg_value.specs.Payload.{Plain}
use Rattle.mg_settled.specs.Prefix.{StreamPrefix}
use Rattle.mg_settled.specs.Extension.{AreExtendedBy}
use Rattle.mg_settled.proofs.Lemmas.{all_further}
use Rattle.mg_calc.specs.Rules.{Laws}
use Rattle.mg_calc.specs.declared.call.Call.{Call}
use Rattle.mg_calc.specs.declared.call.Call.TheVariants.{Finished}
use Rattle.mg_calc.specs.declared.cause.Cause.{Cause}
use Rattle.mg_calc.specs.declared.emission.Laid.{Laid}
use Rattle.mg_calc.specs.declared.inputs.Inputs.{Inputs}
use Rattle.mg_calc.specs.declared.law.Law.{Law}
use Rattle.mg_calc.specs.declared.law.Law.TheVariants.{Count, SideOnce, Constants}
use Rattle.mg_calc.specs.declared.plan_node.PlanNode.{PlanNode}
use Rattle.mg_calc.specs.declared.port_kind.PortKind.{PortKind}
use Rattle.mg_calc.specs.Outcome.{Outcome}
use Rattle.mg_calc.specs.Plan.{HasNumbers, node_sides}
use Rattle.mg_calc.specs.Shape.{IsShapeOf, HasInputs}
use Rattle.mg_calc.specs.Equations.{IsJob, rules_at}
use Rattle.mg_calc.proofs.FirstRound.{a_solution}
use Rattle.mg_calc.proofs.Jobs.{job_known, solution_grows}
use Rattle.mg_calc.proofs.Rounds.{streams_extend, streams_are_prefixes}
use Rattle.mg_calc.proofs.Solutions.{solution_keeps}
use Rattle.mg_node.specs.declared.pending.Pending.{Pending}
use Rattle.mg_node.specs.declared.pending.Pending.TheVariants.{Sets, Loop}
use Rattle.mg_node.specs.Views.{IntakeView, ContextView, WorkView, PerformedView, OutcomeView, EntryView, EngineView}
use Rattle.mg_node.specs.Job.{LoggedJob, Solves, ports_of, streams_at, stage, IsLastWork, log_after, calls_before, calls_in}
use Rattle.mg_node.specs.Lawful.{HoldsWaits, IsIntakeOf, LawfulIntake, HasAnswered, answer_in, IsAtWork, IsWorkOf, LawfulWork, LawfulPerformed, LawfulOutcome, IsRaised, come_to, calls_by, IsIdle, StandsAt, IsEntry, IsEngineOf, of_node, LawfulEngine}
use Rattle.mg_node.specs.Begun.{IsUnbegun, IsUnbegunOf, LawfulUnbegun}
use Rattle.mg_node.specs.Batches.{Grows}
use Rattle.mg_node.proofs.LaterStages.{GoesOn, Stood, stage_stays, calls_stay, last_stays, last_same, task_stays, taken_stood, taken_stays}
use Rattle.mg_node.proofs.HeldRules.{of_node as at_node}
use Rattle.mg_node.proofs.Stages.{IsCalled}
use Rattle.mg_node.proofs.TaskLogs.{task_most}

-- a job that gets more input
abbrev with_inputs : {laws : Laws} → LoggedJob laws → Inputs → LoggedJob laws
with_inputs {laws} job more = record { job = record { plan = job.job.plan; inputs = more; laws = job.job.laws }; boxes = job.boxes; same = job.same }

record IsMore {laws : Laws} (job : LoggedJob laws) (more : Inputs) : Type 0 where
  sides : job.job.inputs.sides ≡ more.sides
  is_job : IsJob (with_inputs job more).job
  extended : AreExtendedBy job.job.inputs.streams more.streams

-- its solution, which extends that of the first job
record IsLater {laws : Laws} (job : LoggedJob laws) (more : Inputs) (streams : List (StreamPrefix Plain)) : Type 0 where
  later : List (StreamPrefix Plain)
  solves : Solves (with_inputs job more) later
  extended : AreExtendedBy streams later

later_solution : {laws : Laws} (job : LoggedJob laws) (more : Inputs) → IsMore job more → (streams : List (StreamPrefix Plain)) → Solves job streams → IsLater job more streams
later_solution {laws} job more m streams solves =
    let is = m.is_job in
    let found = a_solution (with_inputs job more).job (job_known (with_inputs job more).job is) is.plan is.inputs.streams in
    record {
      later = found.0;
      solves = record { is_job = is; solution = found.1 };
      extended = solution_grows job.job.plan job.job.inputs more streams found.0 solves.is_job is m.sides m.extended solves.solution found.1;
    }

-- a source has no ports
called_inputs : (law : Law) (ports : List PortKind) → IsCalled law → HasInputs law ports → ports ≡ []
called_inputs (Count count start apart) ports is has = has
called_inputs (SideOnce at) ports is has = has
called_inputs Constants ports is has = has
called_inputs law ports is has = absurd is

-- so each of its nodes goes on
node_goes_on : {laws : Laws} (job : LoggedJob laws) (more : Inputs) (m : IsMore job more) (streams : List (StreamPrefix Plain)) (number : ℕ) (node : PlanNode) → Solves job streams → (l : IsLater job more streams) → slice_get job.job.plan.nodes number ≡ Some node
    → GoesOn job.job (with_inputs job more).job streams l.later node
node_goes_on {laws} job more m streams number node solves l there =
    let nodes = job.job.plan.nodes in
    let shape : IsShapeOf node.law node.shape = at_node (λ (n : PlanNode). IsShapeOf n.law n.shape) nodes number node solves.is_job.plan.shapes there in
    let has : HasNumbers node = at_node HasNumbers nodes number node solves.is_job.plan.ports there in
    record {
      rules = refl;
      sides = ap (λ (ss : List (Option Plain)). node_sides job.job.plan ss node) m.sides;
      prefixes = streams_are_prefixes l.later node.inputs (solution_keeps (with_inputs job more).job (job_known (with_inputs job more).job m.is_job) l.later l.solves.solution);
      extended = streams_extend streams l.later node.inputs l.extended;
      no_ports = (λ is. nil_from_length node.inputs (has.inputs ∙ ap length (called_inputs node.law node.shape.inputs is shape.inputs)));
    }

-- Intakes.

waits_later : {laws : Laws} (job : LoggedJob laws) (more : Inputs) (streams : List (StreamPrefix Plain)) (consumer claimed : ℕ) (w : Pending) (l : IsLater job more streams) → HoldsWaits job streams consumer claimed w → HoldsWaits (with_inputs job more) l.later consumer claimed w
waits_later {laws} job more streams consumer claimed (Sets inbox) l h =
    let ports = ports_of job.job.plan consumer in (
      h.0,
      record {
        policy = h.1.policy;
        came = h.1.came;
        extended = all_further h.1.came (streams_at streams ports) (streams_at l.later ports) h.1.extended (streams_extend streams l.later ports l.extended);
        stands = h.1.stands;
      },
    )
waits_later {laws} job more streams consumer claimed (Loop held) l h =
    let ports = ports_of job.job.plan consumer in (
      h.0,
      record {
        main = h.1.main;
        loop = h.1.loop;
        extended = all_further (h.1.loop ∷ h.1.main ∷ []) (streams_at streams ports) (streams_at l.later ports) h.1.extended (streams_extend streams l.later ports l.extended);
        stands = h.1.stands;
      },
    )

intake_later : {laws : Laws} (job : LoggedJob laws) (more : Inputs) → IsMore job more → (consumer : ℕ) (view : IntakeView) → IsIntakeOf job consumer view → IsIntakeOf (with_inputs job more) consumer view
intake_later {laws} job more m consumer view h =
    let l = later_solution job more m h.streams h.solves in
    record {
      streams = l.later;
      solves = l.solves;
      is_there = h.is_there;
      holds = waits_later job more h.streams consumer view.claimed view.waits l h.holds;
    }

-- Works.

at_work_later : {laws : Laws} (job : LoggedJob laws) (more : Inputs) (streams later : List (StreamPrefix Plain)) (node : PlanNode) (work : WorkView) (answer : Option (Result (List Laid) Cause))
    → stage job.job streams node work.number ≡ stage (with_inputs job more).job later node work.number → calls_before streams node work.number ≡ calls_before later node work.number
    → IsAtWork job streams node work answer → IsAtWork (with_inputs job more) later node work answer
at_work_later {laws} job more streams later node work None same calls h = (h.0 ∙ ap (λ (o : Outcome). o.state) same, h.1 ∙ ap (λ (cs : List Call). log_after job node cs) calls)
at_work_later {laws} job more streams later node work (Some answer) same calls h = (
  subst (λ (o : Outcome). HasAnswered answer o.state work.context.told.state (answer_in (rules_at job.job node) node.law o.state work.phase work.context.set)) same h.0,
  h.1 ∙ ap (λ (cs : List Call). log_after job node (cs ++ calls_in work.phase work.context.set)) calls,
)

work_later : {laws : Laws} (job : LoggedJob laws) (more : Inputs) → IsMore job more → (view : OutcomeView) → IsWorkOf job view → IsWorkOf (with_inputs job more) view
work_later {laws} job more m view h =
    let l = later_solution job more m h.streams h.solves in
    let on = node_goes_on job more m h.streams view.work.node h.node h.solves l h.there in
    let most = task_most job h.streams h.node view.work.number view.work.phase view.work.context.set h.task in
    record {
      streams = l.later;
      solves = l.solves;
      node = h.node;
      there = h.there;
      fits = h.fits;
      places = h.places;
      task = task_stays on view.work.number view.work.phase view.work.context.set h.task;
      at_work = at_work_later job more h.streams l.later h.node view.work view.answer
          (stage_stays on view.work.number (λ never. most)) (calls_stay on view.work.number (λ never. most)) h.at_work;
    }

-- Engines.

module _ {laws : Laws} {job : LoggedJob laws} {more : Inputs} (m : IsMore job more) {streams later : List (StreamPrefix Plain)} {node : PlanNode} (on : GoesOn job.job (with_inputs job more).job streams later node) where
  comes_to_later : (n : ℕ) (closed : Bool) → Stood on n → (closed ≡ true → IsLastWork job.job streams node n) → come_to job streams node n closed ≡ come_to (with_inputs job more) later node n closed
  comes_to_later n true stood last = last_same on n (last refl)
  comes_to_later n false stood last = stage_stays on n stood

  calls_by_later : (n : ℕ) (closed : Bool) → Stood on n → calls_by streams node n closed ≡ calls_by later node n closed
  calls_by_later n closed stood = ap (λ (cs : List Call). cs ++ (if closed then Finished ∷ [] else [])) (calls_stay on n stood)

  idle_later : (n : ℕ) (closed : Bool) → come_to job streams node n closed ≡ come_to (with_inputs job more) later node n closed → calls_by streams node n closed ≡ calls_by later node n closed
      → (context : ContextView) → IsIdle job streams node n closed context → IsIdle (with_inputs job more) later node n closed context
  idle_later n closed same calls context h = record {
    fits = h.fits;
    places = h.places;
    state = h.state ∙ ap (λ (o : Outcome). o.state) same;
    log = h.log ∙ ap (log_after job node) calls;
  }

  stands_later : (owner number : ℕ) (entry : EntryView) (outcome : OutcomeView) → StandsAt job owner number entry.phase outcome → StandsAt (with_inputs job more) owner number entry.phase outcome
  unfolding LawfulOutcome
  stands_later owner number entry outcome h = record {
    node_is = h.node_is;
    number_is = h.number_is;
    phase_is = h.phase_is;
    lawful = work_later job more m outcome h.lawful;
  }

  entry_later : (laid number owner : ℕ) (entry : EntryView) → IsEntry job streams node laid number owner entry → IsEntry (with_inputs job more) later node laid number owner entry
  entry_later laid number owner entry h = record {
    set = h.set;
    task = task_stays on number entry.phase h.set h.task;
    outcome = IfSome_then entry.outcome h.outcome (stands_later owner number entry);
    committed = h.committed;
    close = h.close;
  }

engine_later : {laws : Laws} (job : LoggedJob laws) (more : Inputs) → IsMore job more → (number : ℕ) (view : EngineView) → IsEngineOf job number view → IsEngineOf (with_inputs job more) number view
engine_later {laws} job more m number view h =
    let l = later_solution job more m h.streams h.solves in
    let on = node_goes_on job more m h.streams number h.node h.solves l h.there in
    let stood = taken_stood on view.laid h.taken in
    let same = comes_to_later m on view.laid view.closed stood h.closed in
    let calls = calls_by_later m on view.laid view.closed stood in
    record {
      streams = l.later;
      solves = l.solves;
      node = h.node;
      there = h.there;
      set_up = h.set_up;
      begun = h.begun;
      claimed = h.claimed;
      taken = taken_stays on view.laid h.taken;
      closed = (λ is. last_stays on view.laid (h.closed is));
      whole = h.whole;
      kept = h.kept;
      raised = subst (λ (o : Outcome). AllZip IsRaised o.outputs h.whole) same h.raised;
      extended = all_further h.whole (streams_at h.streams h.node.outputs) (streams_at l.later h.node.outputs) h.extended (streams_extend h.streams l.later h.node.outputs l.extended);
      fault = h.fault ∙ ap (λ (o : Outcome). option_map (λ f. record { node = number; phase = f.phase; cause = f.cause }) o.fault) same;
      order = h.order;
      entries = (λ i entry at. entry_later m on view.laid (view.laid + i) number entry (h.entries i entry at));
      idle = All-weaker (IsIdle job h.streams h.node view.laid view.closed) (IsIdle (with_inputs job more) l.later h.node view.laid view.closed)
          (idle_later m on view.laid view.closed same calls) view.idle h.idle;
      contexts = h.contexts;
      waits = h.waits;
      ended = h.ended;
    }

unbegun_later : {laws : Laws} (job : LoggedJob laws) (more : Inputs) → IsMore job more → (number : ℕ) (view : EngineView) → IsUnbegunOf job number view → IsUnbegunOf (with_inputs job more) number view
unbegun_later {laws} job more m number view h = record {
  node = h.node;
  told = h.told;
  handed = record { there = h.handed.there; fits = h.handed.fits; log = h.handed.log; kept = h.handed.kept };
  unbegun = subst (λ (ss : List (Option Plain)). IsUnbegun laws h.node number h.told ss view) (ap (λ (ss : List (Option Plain)). node_sides job.job.plan ss h.node) m.sides) h.unbegun;
}

-- A job that goes on.

is_later : {laws : Laws} (first later : LoggedJob laws) → Grows first later → later ≡ with_inputs first later.job.inputs
is_later {laws} first later g =
    let laws_are = sym (contract' later.same) ∙ contract' first.same in
    λ i. record { job = record { plan = g.plan i; inputs = later.job.inputs; laws = (laws_are i).0 }; boxes = g.boxes i; same = (laws_are i).1 }

is_more : {laws : Laws} (first later : LoggedJob laws) → Grows first later → IsMore first later.job.inputs
is_more {laws} first later g = record {
  sides = g.sides;
  is_job = subst (λ (j : LoggedJob laws). IsJob j.job) (is_later first later g) g.is_job;
  extended = g.extended;
}

-- what holds of the first job's parts holds of those of the later one
by_growing : {laws : Laws} (P : LoggedJob laws → Type 0) (first later : LoggedJob laws) → Grows first later → P (with_inputs first later.job.inputs) → P later
by_growing {laws} P first later g h = subst P (sym (is_later first later g)) h

pub intake_stays : {laws : Laws} (first later : LoggedJob laws) (consumer : ℕ) (view : IntakeView) → Grows first later → LawfulIntake first consumer view → LawfulIntake later consumer view
unfolding LawfulIntake
intake_stays {laws} first later consumer view g h = by_growing (λ j. IsIntakeOf j consumer view) first later g (intake_later first later.job.inputs (is_more first later g) consumer view h)

pub engine_stays : {laws : Laws} (first later : LoggedJob laws) (number : ℕ) (view : EngineView) → Grows first later → LawfulEngine first (of_node number) view → LawfulEngine later (of_node number) view
unfolding LawfulEngine
engine_stays {laws} first later number view g h = by_growing (λ j. IsEngineOf j number view) first later g (engine_later first later.job.inputs (is_more first later g) number view h)

outcome_by_growing : {laws : Laws} (first later : LoggedJob laws) (view : OutcomeView) → Grows first later → IsWorkOf first view → IsWorkOf later view
outcome_by_growing {laws} first later view g h = by_growing (λ j. IsWorkOf j view) first later g (work_later first later.job.inputs (is_more first later g) view h)

pub work_stays : {laws : Laws} (first later : LoggedJob laws) (view : WorkView) → Grows first later → LawfulWork first view → LawfulWork later view
unfolding LawfulWork
work_stays {laws} first later view g h = outcome_by_growing first later (record { work = view; answer = None }) g h

pub performed_stays : {laws : Laws} (first later : LoggedJob laws) (view : PerformedView) → Grows first later → LawfulPerformed first view → LawfulPerformed later view
unfolding LawfulPerformed
performed_stays {laws} first later view g h = outcome_by_growing first later (record { work = view.work; answer = Some view.answer }) g h

pub outcome_stays : {laws : Laws} (first later : LoggedJob laws) (view : OutcomeView) → Grows first later → LawfulOutcome first view → LawfulOutcome later view
unfolding LawfulOutcome
outcome_stays {laws} first later view g h = outcome_by_growing first later view g h

pub unbegun_stays : {laws : Laws} (first later : LoggedJob laws) (number : ℕ) (view : EngineView) → Grows first later → LawfulUnbegun first number view → LawfulUnbegun later number view
unfolding LawfulUnbegun
unbegun_stays {laws} first later number view g h = by_growing (λ j. IsUnbegunOf j number view) first later g (unbegun_later first later.job.inputs (is_more first later g) number view h)
