-- The equations, and what is told of their solution, depend neither on the limit of a plan's queues nor on the number of its workers.
use Rattle.std.proofs.Common.{◌≡◌, ◌≢◌, ◌≤◌, ℕ, ℤ, pos, zero, suc, List, ◌∷◌, ◌++◌, map, take, option_map, refl, sym, ap, subst, ◌∙◌}
use Rattle.std.specs.List.{flat_map, filter_map}
use Rattle.mg_value.specs.Payload.{Plain}
use Rattle.mg_settled.specs.Prefix.{StreamPrefix}
use Rattle.mg_settled.specs.Settled.{TimedSet, settled_sets}
use Rattle.mg_calc.specs.declared.law.Law.{Law}
use Rattle.mg_calc.specs.declared.law.Law.TheVariants.{Count, SideOnce, Constants, Loopback}
use Rattle.mg_calc.specs.declared.node_fault.NodeFault.{NodeFault}
use Rattle.mg_calc.specs.declared.plan.Plan.{Plan}
use Rattle.mg_calc.specs.declared.plan_node.PlanNode.{PlanNode}
use Rattle.mg_calc.specs.declared.call.Call.{Call}
use Rattle.mg_calc.specs.declared.call.Call.TheVariants.{Begun, Shown}
use Rattle.mg_calc.specs.Equations.{Job, IsJob, inputs_of, outcome_by, outcome_of, next_round, round, IsSolution, MeetsEquations}
use Rattle.mg_calc.specs.Meaning.{numbered, faults, counts, stalled, last_call, log_of}
use Rattle.mg_calc.specs.Outcome.{Outcome}
use Rattle.mg_calc.specs.Told.{BoxTold}
use Rattle.mg_node.specs.Had.{had_close}
use Rattle.mg_edge.specs.Edge.{SinkTold}
use Rattle.mg_feed.specs.declared.feed_end.FeedEnd.{FeedEnd}
use Rattle.mg_answer.specs.Told.{status_of}
use Rattle.mg_answer.specs.Notes.{end_note, fault_note, status_notes, bounds_of}
use Rattle.mg_settled.specs.Ends.{end_of}
use Rattle.mg_answer.specs.Report.{report_by, asked_report}
use Rattle.mg_answer.specs.Answer.{Telling, OutputForm, packet_lines, totals, in_place, output_in, RunAnswer, answer_of, failed_notes, IsAnswerOf}
use Rattle.mg_answer.specs.Devices.{Device}
use Rattle.mg_answer.specs.Wrote.{WroteBy}
use Rattle.mg_answer.specs.declared.status.Status.{Status}
use Rattle.mg_answer.specs.declared.status.Status.TheVariants.{Stalled, WriteFault}
use Rattle.mg_drive.specs.Leaves.{kept_by, HadItsCalls}
use Rattle.mg_drive.specs.OneRun.{OneRun}

-- a plan, and a job, with other limits
abbrev pub limited_plan : Plan → ℤ → ℕ → Plan
limited_plan plan limit workers = record plan { limit = limit; workers = workers }

abbrev pub limited : Job → ℤ → ℕ → Job
limited job limit workers = record { plan = limited_plan job.plan limit workers; inputs = job.inputs; laws = job.laws }

-- a job with other limits is a job, if these are limits that a plan may have
pub unlimited_job : (job : Job) (limit : ℤ) (workers : ℕ) → job.plan.limit ≢ pos 0 → job.plan.workers ≤ 64 → IsJob (limited job limit workers) → IsJob job
unlimited_job job limit workers some few is =
    let valid = is.plan in
    let ranges = valid.ranges in
    let fit = is.inputs in
    record {
      plan = record {
        ranges = record {
          nodes = ranges.nodes;
          edges = ranges.edges;
          outputs = ranges.outputs;
          workers = few;
          read = ranges.read;
          shown = ranges.shown;
          taken = ranges.taken;
          given = ranges.given;
          limit = some;
        };
        streams = valid.streams;
        inputs = valid.inputs;
        producers = valid.producers;
        edges = valid.edges;
        ports = valid.ports;
        parameters = valid.parameters;
        shapes = valid.shapes;
        flights = valid.flights;
        policies = valid.policies;
        stated = valid.stated;
        boxes = valid.boxes;
        order = valid.order;
        forward = valid.forward;
        back = valid.back;
        laws = valid.laws;
      };
      inputs = record { streams = fit.streams; prefixes = fit.prefixes; sides = fit.sides };
    }

-- what becomes of a node
outcome_by_same : (law : Law) (job : Job) (limit : ℤ) (workers : ℕ) (xs : List (StreamPrefix Plain)) (node : PlanNode) → outcome_by law (limited job limit workers) xs node ≡ outcome_by law job xs node
outcome_by_same (Count count start step) job limit workers xs node = refl
outcome_by_same (SideOnce at) job limit workers xs node = refl
outcome_by_same Constants job limit workers xs node = refl
outcome_by_same Loopback job limit workers xs node = refl
outcome_by_same law job limit workers xs node = refl

outcome_same : (job : Job) (limit : ℤ) (workers : ℕ) (xs : List (StreamPrefix Plain)) (node : PlanNode) → outcome_of (limited job limit workers) xs node ≡ outcome_of job xs node
outcome_same job limit workers xs node = outcome_by_same node.law job limit workers xs node

-- the rounds, and the solution
round_once : (job : Job) (limit : ℤ) (workers : ℕ) (xs : List (StreamPrefix Plain)) → next_round (limited job limit workers) xs ≡ next_round job xs
round_once job limit workers xs = λ i. job.inputs.streams ++ flat_map (λ node. (outcome_same job limit workers xs node i).outputs) job.plan.nodes

round_same : (job : Job) (limit : ℤ) (workers n : ℕ) → round (limited job limit workers) n ≡ round job n
round_same job limit workers zero = refl
round_same job limit workers (suc n) = round_once job limit workers (round (limited job limit workers) n) ∙ ap (next_round job) (round_same job limit workers n)

pub unlimited : (job : Job) (limit : ℤ) (workers : ℕ) (streams : List (StreamPrefix Plain)) → IsSolution (limited job limit workers) streams → IsSolution job streams
unlimited job limit workers streams s = record {
  number = s.number;
  reached = s.reached ∙ round_same job limit workers s.number;
  meets = sym (round_once job limit workers streams) ∙ s.meets;
  first = λ earlier less meets.
      s.first earlier less (round_once job limit workers (round (limited job limit workers) earlier) ∙ subst (MeetsEquations job) (sym (round_same job limit workers earlier)) meets);
}

-- what is told of it
abbrev told : Telling → Plan → FeedEnd → List NodeFault → List ℕ → List (StreamPrefix Plain) → RunAnswer
told telling plan end fs cs streams = record {
  output = output_in telling.form plan streams;
  notes = (end_note end ++ flat_map (fault_note plan) fs ++ status_notes (status_of end fs (stalled streams)) plan (bounds_of streams) (stalled streams))
      ++ asked_report telling.report (report_by plan cs (map end_of streams));
  status = status_of end fs (stalled streams);
}

pub faults_same : (job : Job) (limit : ℤ) (workers : ℕ) (xs : List (StreamPrefix Plain)) → faults (limited job limit workers) xs ≡ faults job xs
faults_same job limit workers xs = λ i. filter_map (λ (entry : ℕ × PlanNode).
    option_map (λ failure. (let it : NodeFault = record { node = entry.0; phase = failure.phase; cause = failure.cause } in it)) (outcome_same job limit workers xs entry.1 i).fault) (numbered job.plan.nodes)

pub counts_same : (job : Job) (limit : ℤ) (workers : ℕ) (xs : List (StreamPrefix Plain)) → counts (limited job limit workers) xs ≡ counts job xs
counts_same job limit workers xs = λ i. map (λ node. (outcome_same job limit workers xs node i).taken) job.plan.nodes

pub output_same : (form : OutputForm) (plan : Plan) (limit : ℤ) (workers : ℕ) (xs : List (StreamPrefix Plain)) → output_in form (limited_plan plan limit workers) xs ≡ output_in form plan xs
output_same packet_lines plan limit workers xs = refl
output_same totals plan limit workers xs = refl
output_same (in_place text) plan limit workers xs = refl

pub notes_same : (status : Status) (plan : Plan) (limit : ℤ) (workers : ℕ) (bounds stopped : List ℕ) → status_notes status (limited_plan plan limit workers) bounds stopped ≡ status_notes status plan bounds stopped
notes_same Stalled plan limit workers bounds stopped = refl
notes_same status plan limit workers bounds stopped = refl

told_same : (telling : Telling) (plan : Plan) (limit : ℤ) (workers : ℕ) (end : FeedEnd) (fs : List NodeFault) (cs : List ℕ) (xs : List (StreamPrefix Plain))
    → told telling (limited_plan plan limit workers) end fs cs xs ≡ told telling plan end fs cs xs
told_same telling plan limit workers end fs cs xs = λ i. record {
  output = output_same telling.form plan limit workers xs i;
  notes = (end_note end ++ flat_map (fault_note plan) fs ++ notes_same (status_of end fs (stalled xs)) plan limit workers (bounds_of xs) (stalled xs) i)
      ++ asked_report telling.report (report_by plan cs (map end_of xs));
  status = status_of end fs (stalled xs);
}

answer_same : (telling : Telling) (job : Job) (limit : ℤ) (workers : ℕ) (end : FeedEnd) (xs : List (StreamPrefix Plain)) → answer_of telling (limited job limit workers) end xs ≡ answer_of telling job end xs
answer_same telling job limit workers end xs =
    ap (λ fs. told telling (limited_plan job.plan limit workers) end fs (counts (limited job limit workers) xs) xs) (faults_same job limit workers xs)
    ∙ (ap (λ cs. told telling (limited_plan job.plan limit workers) end (faults job xs) cs xs) (counts_same job limit workers xs)
    ∙ told_same telling job.plan limit workers end (faults job xs) (counts job xs) xs)

pub unlimited_answer : (telling : Telling) (job : Job) (limit : ℤ) (workers : ℕ) (end : FeedEnd) (answer : RunAnswer) → IsAnswerOf telling (limited job limit workers) end answer → IsAnswerOf telling job end answer
unlimited_answer telling job limit workers end answer a = record {
  streams = a.streams;
  solution = unlimited job limit workers a.streams a.solution;
  is = a.is ∙ answer_same telling job limit workers end a.streams;
}

-- A run as one thing.
abbrev failed_by : Telling → Plan → FeedEnd → List NodeFault → List ℕ → List (StreamPrefix Plain) → List ℕ
failed_by telling plan end fs cs streams =
    (end_note end ++ flat_map (fault_note plan) fs ++ status_notes WriteFault plan (bounds_of streams) (stalled streams)) ++ asked_report telling.report (report_by plan cs (map end_of streams))

failed_same : (telling : Telling) (job : Job) (limit : ℤ) (workers : ℕ) (end : FeedEnd) (xs : List (StreamPrefix Plain)) → failed_notes telling (limited job limit workers) end xs ≡ failed_notes telling job end xs
failed_same telling job limit workers end xs =
    ap (λ fs. failed_by telling (limited_plan job.plan limit workers) end fs (counts (limited job limit workers) xs) xs) (faults_same job limit workers xs)
    ∙ ap (λ cs. failed_by telling job.plan end (faults job xs) cs xs) (counts_same job limit workers xs)

log_same : (job : Job) (limit : ℤ) (workers : ℕ) (xs : List (StreamPrefix Plain)) (node : PlanNode) → log_of (limited job limit workers) xs node ≡ log_of job xs node
log_same job limit workers xs node =
    ap (λ (o : Outcome). (Begun ∷ map (λ (e : TimedSet Plain). Shown e.at e.set) (take o.taken (settled_sets node.policy (inputs_of xs node)))) ++ last_call o.fault) (outcome_same job limit workers xs node)

pub had_same : (job : Job) (limit : ℤ) (workers : ℕ) (xs : List (StreamPrefix Plain)) (node : PlanNode) (before now : BoxTold) → HadItsCalls (limited job limit workers) xs node before now → HadItsCalls job xs node before now
had_same job limit workers xs node before now h = record {
  log = h.log ∙ ap (λ (more : List Call). option_map (λ (calls : List Call). calls ++ more) before.log) (log_same job limit workers xs node);
  state = h.state ∙ ap (λ (o : Outcome). kept_by (limited job limit workers) xs node o.taken (had_close o.fault)) (outcome_same job limit workers xs node);
  law = h.law;
  shape = h.shape;
}

pub unlimited_run : (telling : Telling) (job : Job) (limit : ℤ) (workers : ℕ) (end : FeedEnd) (status : Status) (output notes : Device SinkTold) (boxes : Device (List BoxTold))
    → job.plan.limit ≢ pos 0 → job.plan.workers ≤ 64 → OneRun telling (limited job limit workers) end status output notes boxes → OneRun telling job end status output notes boxes
unlimited_run telling job limit workers end status output notes boxes some few r = record {
  is_job = unlimited_job job limit workers some few r.is_job;
  streams = r.streams;
  solution = unlimited job limit workers r.streams r.solution;
  wrote = subst (λ (a : RunAnswer). WroteBy status a (failed_notes telling job end r.streams) output notes) (answer_same telling job limit workers end r.streams)
      (subst (λ (f : List ℕ). WroteBy status (answer_of telling (limited job limit workers) end r.streams) f output notes) (failed_same telling job limit workers end r.streams) r.wrote);
  had = record {
    back = record { count = r.had.back.count; unused = r.had.back.unused };
    used = λ number place node there has.
        (let at = r.had.used number place node there has in
        record { before = at.before; now = at.now; was = at.was; is = at.is; holds = had_same job limit workers r.streams node at.before at.now at.holds });
  };
}
