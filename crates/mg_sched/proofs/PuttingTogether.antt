-- A net is put together. Its limits are told anew what waits. Then it stands for each job whose parts these are.
use Rattle.std.proofs.Common.{◌≡◌, ℕ, ◌+◌, ◌<◌, ◌≤◌, Bool, true, false, not, List, [], length, map, Option, Some, None, is_some, slice_get, inl, inr, ap, sym, refl, subst, ◌∙◌, arith, if◌then◌else◌}
use Rattle.std.proofs.lemmas.Bool.{cases_eq, lt-ltb, true≢false}
use Rattle.std.proofs.lemmas.List.{length-map}
use Rattle.std.proofs.lemmas.Option.{none-some, slice_get_within, get_or_from_slice_get}
use Rattle.mg_calc.specs.Rules.{Laws}
use Rattle.mg_calc.specs.declared.edge.Edge.{Edge}
use Rattle.mg_calc.specs.declared.plan.Plan.{Plan}
use Rattle.mg_calc.specs.Plan.{IsValid}
use Rattle.mg_node.specs.Views.{IntakeView, OutcomeView, EntryView, EngineView}
use Rattle.mg_node.specs.Job.{LoggedJob, ports_of}
use Rattle.mg_node.specs.Leaving.{NoneOut}
use Rattle.mg_node.specs.Ports.{ports_in, port_queue}
use Rattle.mg_node.specs.Windows.{has_ended}
use Rattle.mg_node.proofs.Lemmas.{engine_known, few_packets, intake_ports, some_same}
use Rattle.mg_throttle.specs.declared.queue.Queue.{Queue}
use Rattle.mg_throttle.specs.Throttle.{QueueLimits, stopped}
use Rattle.mg_throttle.proofs.Counts.{AreLimitsOf-stopped}
use Rattle.mg_sched.specs.Views.{WorkQueueView, NetView}
use Rattle.mg_sched.specs.Places.{first_edge, lengths_of, with_limits}
use Rattle.mg_sched.specs.StandsFor.{HasWorks, IsCell, KnowsLimits, IsNetOf, StandsFor, IsRunning}
use Rattle.mg_sched.specs.Acts.{with_noted, stopped_by}
use Rattle.mg_sched.specs.ComesApart.{PartsView, parts_in, net_of, ArePartsOf, AreParts, IsPutTogether}
use Rattle.mg_sched.specs.Code.Telling.{ToldTo}
use Rattle.mg_sched.proofs.EdgePlaces.{edge_placed, edges_before}
use Rattle.mg_sched.proofs.Finding.{found}
use Rattle.mg_sched.proofs.LimitsKnow.{with_queues, all_noted_of, all_noted_get, lengths_get, stopped_other, stopped_own, stopped_waiting, queue_node}
use Rattle.mg_sched.proofs.PlanEdges.{mapped_at, ports_of_node, ports_of_collector, edges_count, first_edge_next, first_edge_within}

-- What parts of one net tell of it.

plan_valid : {laws : Laws} (job : LoggedJob laws) (net : NetView) → ArePartsOf job (parts_in net) → IsValid net.plan
plan_valid {laws} job net h = subst IsValid (sym h.plan) h.is_job.plan

pub valid_plan : {laws : Laws} (net : NetView) → AreParts laws (parts_in net) → IsValid net.plan
valid_plan {laws} net h = plan_valid h.job net h.parts_of

queues_long : {laws : Laws} (net : NetView) → AreParts laws (parts_in net) → length net.limits.queues ≡ length net.plan.edges
queues_long {laws} net h = sym (length-map net.limits.queues (λ (q : Queue). q.node)) ∙ ap (λ (ns : List ℕ). length ns) h.parts_of.rest.limits.queues ∙ length-map net.plan.edges (λ (e : Edge). e.node)

pub queues_short : {laws : Laws} (net : NetView) → AreParts laws (parts_in net) → length net.limits.queues < 4294967296
queues_short {laws} net h = (let few = (valid_plan net h).ranges.edges in let same = queues_long net h in omega (arith, few, same))

pub few_wait : {laws : Laws} (net : NetView) (consumer port : ℕ) (intake : IntakeView) → AreParts laws (parts_in net) → slice_get net.intakes consumer ≡ Some intake → length (port_queue intake.waits port).packets + 1 < 18446744073709551616
few_wait {laws} net consumer port intake h at = few_packets h.job consumer port intake (h.parts_of.intakes consumer intake at)

-- how many ports an intake has
ports_long : {laws : Laws} (net : NetView) (consumer : ℕ) (intake : IntakeView) → AreParts laws (parts_in net) → slice_get net.intakes consumer ≡ Some intake → ports_in intake.waits ≡ length (ports_of net.plan consumer)
ports_long {laws} net consumer intake h at = intake_ports h.job consumer intake (h.parts_of.intakes consumer intake at) ∙ ap (λ (p : Plan). length (ports_of p consumer)) (sym h.parts_of.plan)

-- and its edges are there
pub ports_fit : {laws : Laws} (net : NetView) (consumer : ℕ) (intake : IntakeView) → AreParts laws (parts_in net) → slice_get net.intakes consumer ≡ Some intake → first_edge net.plan consumer + ports_in intake.waits ≤ length net.limits.queues
ports_fit {laws} net consumer intake h at =
    let valid = valid_plan net h in
    let long = queues_long net h in
    let ports = ports_long net consumer intake h at in
    let count = h.parts_of.intake_count in
    let within = slice_get_within net.intakes consumer intake at in
    elim (cases_eq consumer (length net.plan.nodes)) [
      | inl last ↦
          (let edges = edges_count net.plan valid in
          let first = ap (first_edge net.plan) last in
          let outputs = ap (λ (n : ℕ). length (ports_of net.plan n)) last ∙ ap (λ (xs : List ℕ). length xs) (ports_of_collector net.plan) in
          omega (arith, long, ports, edges, first, outputs))
      | inr other ↦
          (let n = found net.plan.nodes consumer (omega (arith, within, count, other)) in
          let next = first_edge_next net.plan consumer n.0 n.1 in
          let below = first_edge_within net.plan valid (consumer + 1) in
          let is = ap (λ (xs : List ℕ). length xs) (ports_of_node net.plan consumer n.0 n.1) in
          omega (arith, long, ports, next, below, is))
    ]

-- a consumer has an intake
pub intake_there : {laws : Laws} (net : NetView) (consumer : ℕ) → AreParts laws (parts_in net) → consumer ≤ length net.plan.nodes → consumer < length net.intakes
intake_there {laws} net consumer h upto = (let count = h.parts_of.intake_count in omega (arith, upto, count))

-- and its node an engine and marks, also once the limits were told what waits there
abbrev Notes : NetView → NetView → ℕ → Type 0
Notes net mid consumer = (intake : IntakeView) → slice_get net.intakes consumer ≡ Some intake → mid ≡ with_noted net (first_edge net.plan consumer) (lengths_of intake.waits)

pub engine_there : {laws : Laws} (net mid : NetView) (node : ℕ) → AreParts laws (parts_in net) → node < length net.plan.nodes → Notes net mid node → node < length mid.engines
engine_there {laws} net mid node h less notes =
    (let i = found net.intakes node (intake_there net node h (omega (arith, less))) in
    let same = ap (λ (v : NetView). length v.engines) (notes i.0 i.1) in
    let count = h.parts_of.engine_count in
    omega (arith, less, same, count))

pub marks_there : {laws : Laws} (net mid : NetView) (node : ℕ) → AreParts laws (parts_in net) → node < length net.plan.nodes → Notes net mid node → node < length mid.limits.reached
marks_there {laws} net mid node h less notes =
    (let i = found net.intakes node (intake_there net node h (omega (arith, less))) in
    let same = ap (λ (v : NetView). length v.limits.reached) (notes i.0 i.1) in
    let count = h.parts_of.rest.limits.marked_nodes in
    omega (arith, less, same, count))

-- Limits that are told.

pub told_none : {laws : Laws} (net : NetView) → AreParts laws (parts_in net) → ToldTo 0 0 net net
told_none {laws} net h = record {
  same = refl;
  of_plan = h.parts_of.rest.limits;
  waiting = λ number e q intake at_e at_q less at. absurd (omega (arith, less));
  counts = λ number e q engine at_e at_q less low at. absurd (omega (arith, less));
  goes_on = λ number e q engine at_e at_q low at going. h.parts_of.rest.counts number e q engine at_e at_q low at going;
}

-- the parts stay those of one net
with_other_limits : {laws : Laws} (job : LoggedJob laws) (net : NetView) (limits : QueueLimits) (noted stops : ℕ) → ArePartsOf job (parts_in net) → ToldTo noted stops net (with_limits net limits) → ArePartsOf job (parts_in (with_limits net limits))
with_other_limits {laws} job net limits noted stops h t = record {
  is_job = h.is_job;
  plan = h.plan;
  engine_count = h.engine_count;
  intake_count = h.intake_count;
  engines = h.engines;
  inputs = h.inputs;
  intakes = h.intakes;
  agree = h.agree;
  none_out = h.none_out;
  edges = h.edges;
  rest = record { given = h.rest.given; work_queues = h.rest.work_queues; empty = h.rest.empty; limits = t.of_plan; counts = t.goes_on; spare = h.rest.spare; kept = h.rest.kept };
}

pub told_parts : {laws : Laws} (start now : NetView) (noted stops : ℕ) → AreParts laws (parts_in start) → ToldTo noted stops start now → AreParts laws (parts_in now)
told_parts {laws} start now noted stops h t = record {
  job = h.job;
  parts_of = subst (λ (v : NetView). ArePartsOf h.job (parts_in v)) (sym t.same)
      (with_other_limits h.job start now.limits noted stops h.parts_of (subst (λ (v : NetView). ToldTo noted stops start v) t.same t));
}

pub told_back : (start now : NetView) (noted stops node : ℕ) → ToldTo noted stops start now → node < length now.plan.nodes → node < length start.plan.nodes
told_back start now noted stops node t less = (let same = ap (λ (v : NetView). length v.plan.nodes) t.same in omega (arith, less, same))

-- what waits at the next consumer
noted_limits : {laws : Laws} (start : NetView) (limits : QueueLimits) (consumer stops : ℕ) (intake : IntakeView) → AreParts laws (parts_in start) → slice_get start.intakes consumer ≡ Some intake → ToldTo consumer stops start (with_limits start limits)
    → ToldTo (consumer + 1) stops start (with_noted (with_limits start limits) (first_edge start.plan consumer) (lengths_of intake.waits))
noted_limits {laws} start limits consumer stops intake h at_own t =
    let ns = lengths_of intake.waits in
    let first = first_edge start.plan consumer in
    let valid = valid_plan start h in
    let ports = ports_long start consumer intake h at_own in
    let upto = slice_get_within start.intakes consumer intake at_own in
    let count = h.parts_of.intake_count in
    record {
      same = refl;
      of_plan = all_noted_of start.plan limits first ns t.of_plan;
      waiting = λ number e q i at_e at_q less at.
          let a = all_noted_get ns limits.queues first number q at_q in
          let p = edge_placed start.plan number e valid at_e in
          let number_is = p.number_is in
          let within = p.within in
          elim (cases_eq e.node consumer) [
            | inl here ↦
                (let is : i ≡ intake = some_same (slice_get start.intakes consumer) i intake (ap (slice_get start.intakes) (sym here) ∙ at) at_own in
                let long = ap (λ (n : ℕ). length (ports_of start.plan n)) here in
                let same = ap (first_edge start.plan) here in
                a.told e.port (length (port_queue intake.waits e.port).packets) (lengths_get intake.waits e.port (omega (arith, within, long, ports))) (omega (arith, number_is, same))
                ∙ ap (λ (v : IntakeView). length (port_queue v.waits e.port).packets) (sym is))
            | inr other ↦
                (let low : e.node < consumer = omega (arith, less, other) in
                let x = found start.plan.nodes e.node (omega (arith, low, upto, count)) in
                let long = ap (λ (xs : List ℕ). length xs) (ports_of_node start.plan e.node x.0 x.1) in
                let below = edges_before start.plan e.node consumer x.0 x.1 low in
                a.same (λ port m told is. omega (arith, number_is, is, long, within, below)) ∙ t.waiting number e a.old i at_e a.at low at)
          ];
      counts = λ number e q engine at_e at_q less low at.
          let a = all_noted_get ns limits.queues first number q at_q in
          a.counts ∙ t.counts number e a.old engine at_e a.at less low at;
      goes_on = λ number e q engine at_e at_q low at going.
          let a = all_noted_get ns limits.queues first number q at_q in
          a.counts ∙ t.goes_on number e a.old engine at_e a.at low at going;
    }

pub told_noted : {laws : Laws} (start now next : NetView) (consumer stops : ℕ) → AreParts laws (parts_in start) → consumer ≤ length start.plan.nodes → ToldTo consumer stops start now
    → ((intake : IntakeView) → slice_get now.intakes consumer ≡ Some intake → next ≡ with_noted now (first_edge now.plan consumer) (lengths_of intake.waits)) → ToldTo (consumer + 1) stops start next
told_noted {laws} start now next consumer stops h upto t notes =
    let count = h.parts_of.intake_count in
    let i = found start.intakes consumer (omega (arith, upto, count)) in
    let to : slice_get now.intakes consumer ≡ Some i.0 = ap (λ (v : NetView). slice_get v.intakes consumer) t.same ∙ i.1 in
    let is : next ≡ with_noted (with_limits start now.limits) (first_edge start.plan consumer) (lengths_of i.0.waits) =
    notes i.0 to ∙ ap (λ (v : NetView). with_noted v (first_edge v.plan consumer) (lengths_of i.0.waits)) t.same in
    subst (λ (v : NetView). ToldTo (consumer + 1) stops start v) (sym is)
    (noted_limits start now.limits consumer stops i.0 h i.1 (subst (λ (v : NetView). ToldTo consumer stops start v) t.same t))

-- whether the next node has ended
stopped_limits : (start : NetView) (limits : QueueLimits) (noted node : ℕ) (engine : EngineView) (b : Bool) → slice_get start.engines node ≡ Some engine → has_ended engine ≡ b → ToldTo noted node start (with_limits start limits)
    → ToldTo noted (node + 1) start (with_limits start (if b then with_queues limits (map (stopped node) limits.queues) else limits))
stopped_limits start limits noted node engine true there ended t = record {
  same = refl;
  of_plan = AreLimitsOf-stopped node limits.queues limits.reached limits.feeders limits refl start.plan t.of_plan;
  waiting = λ number e q i at_e at_q less at.
      let it = mapped_at (stopped node) limits.queues number q at_q in
      ap (λ (x : Queue). x.waiting) (sym it.2) ∙ stopped_waiting node it.0 ∙ t.waiting number e it.0 i at_e it.1 less at;
  counts = λ number e q g at_e at_q less low at.
      let it = mapped_at (stopped node) limits.queues number q at_q in
      let node_is = queue_node start.plan limits number e it.0 t.of_plan at_e it.1 in
      ap (λ (x : Queue). x.counts) (sym it.2) ∙ elim (cases_eq e.node node) [
        | inl here ↦
            (let same : g ≡ engine = some_same (slice_get start.engines node) g engine (ap (slice_get start.engines) (sym here) ∙ at) there in
            ap (λ (x : Queue). x.counts) (stopped_own node it.0 (node_is ∙ here)) ∙ ap not (sym ended) ∙ ap (λ (v : EngineView). not (has_ended v)) (sym same))
        | inr other ↦ ap (λ (x : Queue). x.counts) (stopped_other node it.0 (λ s. other (sym node_is ∙ s))) ∙ t.counts number e it.0 g at_e it.1 (omega (arith, less, other)) low at
      ];
  goes_on = λ number e q g at_e at_q low at going.
      let it = mapped_at (stopped node) limits.queues number q at_q in
      let node_is = queue_node start.plan limits number e it.0 t.of_plan at_e it.1 in
      ap (λ (x : Queue). x.counts) (sym it.2) ∙ elim (cases_eq e.node node) [
        | inl here ↦
            (let same : g ≡ engine = some_same (slice_get start.engines node) g engine (ap (slice_get start.engines) (sym here) ∙ at) there in
            absurd (true≢false (sym ended ∙ ap has_ended (sym same) ∙ going)))
        | inr other ↦ ap (λ (x : Queue). x.counts) (stopped_other node it.0 (λ s. other (sym node_is ∙ s))) ∙ t.goes_on number e it.0 g at_e it.1 low at going
      ];
}
stopped_limits start limits noted node engine false there ended t = record {
  same = refl;
  of_plan = t.of_plan;
  waiting = t.waiting;
  counts = λ number e q g at_e at_q less low at. elim (cases_eq e.node node) [
    | inl here ↦
        (let same : g ≡ engine = some_same (slice_get start.engines node) g engine (ap (slice_get start.engines) (sym here) ∙ at) there in
        let going : has_ended g ≡ false = ap has_ended same ∙ ended in
        t.goes_on number e q g at_e at_q low at going ∙ ap not (sym going))
    | inr other ↦ t.counts number e q g at_e at_q (omega (arith, less, other)) low at
  ];
  goes_on = t.goes_on;
}

pub told_stopped : {laws : Laws} (start now next : NetView) (noted node : ℕ) → AreParts laws (parts_in start) → node < length start.plan.nodes → ToldTo noted node start now
    → ((engine : EngineView) → slice_get now.engines node ≡ Some engine → next ≡ with_limits now (stopped_by node engine now.limits)) → ToldTo noted (node + 1) start next
told_stopped {laws} start now next noted node h less t stops =
    let count = h.parts_of.engine_count in
    let g = found start.engines node (omega (arith, less, count)) in
    let to : slice_get now.engines node ≡ Some g.0 = ap (λ (v : NetView). slice_get v.engines node) t.same ∙ g.1 in
    let is : next ≡ with_limits start (stopped_by node g.0 now.limits) = stops g.0 to ∙ ap (λ (v : NetView). with_limits v (stopped_by node g.0 now.limits)) t.same in
    subst (λ (v : NetView). ToldTo noted (node + 1) start v) (sym is)
    (stopped_limits start now.limits noted node g.0 (has_ended g.0) g.1 refl (subst (λ (v : NetView). ToldTo noted node start v) t.same t))

-- all that is to be told
told_limits : {laws : Laws} (start : NetView) (limits : QueueLimits) → AreParts laws (parts_in start) → ToldTo (length start.plan.nodes + 1) (length start.plan.nodes) start (with_limits start limits) → KnowsLimits (with_limits start limits)
told_limits {laws} start limits h t = record {
  of_plan = t.of_plan;
  queues = λ number e q at_e at_q. record {
    waiting = λ intake at. let p = (edge_placed start.plan number e (valid_plan start h) at_e).node in t.waiting number e q intake at_e at_q (omega (arith, p)) at;
    counts = λ engine low at. t.counts number e q engine at_e at_q low low at;
  };
}

pub told_all : {laws : Laws} (start now : NetView) → AreParts laws (parts_in start) → ToldTo (length start.plan.nodes + 1) (length start.plan.nodes) start now → KnowsLimits now
told_all {laws} start now h t =
    subst KnowsLimits (sym t.same)
    (told_limits start now.limits h (subst (λ (v : NetView). ToldTo (length start.plan.nodes + 1) (length start.plan.nodes) start v) t.same t))

-- all nodes were told, and then the collector is
pub told_end : {laws : Laws} (start now next : NetView) (node last : ℕ) → AreParts laws (parts_in start) → node ≡ length start.plan.nodes → last ≡ length start.plan.nodes → ToldTo node node start now → Notes now next last
    → ToldTo (length start.plan.nodes + 1) (length start.plan.nodes) start next
told_end {laws} start now next node last h node_is last_is t notes =
    told_noted start now next (length start.plan.nodes) (length start.plan.nodes) h (omega arith) (subst (λ (n : ℕ). ToldTo n n start now) node_is t) (subst (λ (n : ℕ). Notes now next n) last_is notes)

-- The net of its parts stands for the job.

pub joined_parts : {laws : Laws} (parts : PartsView) (net : NetView) → net ≡ net_of parts → AreParts laws parts → AreParts laws (parts_in net)
joined_parts {laws} parts net is h = subst (λ (v : NetView). AreParts laws (parts_in v)) (sym is) (record { job = h.job; parts_of = h.parts_of })

pub is_together : (parts : PartsView) (net now : NetView) → net ≡ net_of parts → now ≡ with_limits net now.limits → KnowsLimits now → IsPutTogether parts now
is_together parts net now is same knows = record { made = same ∙ ap (λ (v : NetView). with_limits v now.limits) is; knows = knows }

pub together_runs : (parts : PartsView) (now : NetView) → IsPutTogether parts now → IsRunning now
together_runs parts now put = ap (λ (v : NetView). v.begun) put.made ∙ sym (ap (λ (v : NetView). length v.plan.nodes) put.made)

none_missing : (o : Option OutcomeView) → is_some o ≡ true → o ≡ None → ⊥
none_missing None there none = true≢false (sym there)
none_missing (Some x) there none = none-some x (sym none)

-- nothing lies in a work queue, and nothing is out
no_works : {laws : Laws} (job : LoggedJob laws) (engine : EngineView) (work_queue : WorkQueueView) (room : ℕ) → engine.in_flight ≡ room → work_queue ≡ record { room = room; works = [] } → NoneOut engine → HasWorks job engine work_queue
no_works {laws} job engine work_queue room flight is none = subst (HasWorks job engine) (sym is) (record {
  room = sym flight;
  out = λ k d less. absurd (omega (arith, less));
  lawful = λ k d less. absurd (omega (arith, less));
  apart = λ i j d below less. absurd (omega (arith, less));
  complete = λ place entry at missing.
      let within = slice_get_within engine.window place entry at in
      let there : is_some entry.outcome ≡ true = subst (λ (e : EntryView). is_some e.outcome ≡ true) (get_or_from_slice_get engine.window place entry entry at) (none place entry within) in
      absurd (none_missing entry.outcome there missing);
})

net_stands : {laws : Laws} (job : LoggedJob laws) (parts : PartsView) (net : NetView) → IsPutTogether parts net → ArePartsOf job parts → IsNetOf job net
net_stands {laws} job parts net put h =
    subst (IsNetOf job) (sym put.made) (record {
      is_job = h.is_job;
      plan = h.plan;
      given = h.rest.given;
      engines = h.engine_count;
      intakes = h.intake_count;
      work_queues = h.rest.work_queues;
      cells = λ node engine intake work_queue at to on.
          let count = h.rest.work_queues in
          let within = slice_get_within parts.rest.work_queues node work_queue on in
          let less : node < length parts.plan.nodes = omega (arith, within, count) in
          let planned = found parts.plan.nodes node less in
          let lawful = h.engines node engine less at in
          let known = engine_known job node engine planned.0 lawful (subst (λ (plan : Plan). slice_get plan.nodes node ≡ Some planned.0) h.plan planned.1) in
          let cell : IsCell job true node engine intake work_queue = record {
            lawful_engine = lawful;
            lawful_intake = h.intakes node intake to;
            agree = h.agree node engine intake less at to;
            works = no_works job engine work_queue planned.0.in_flight known.set_up.in_flight (h.rest.empty node work_queue planned.0 on planned.1) (h.none_out node engine less at);
          } in
          subst (λ (b : Bool). IsCell job b node engine intake work_queue) (sym (lt-ltb node (length parts.plan.nodes) less)) cell;
      inputs = h.inputs;
      collector = λ intake at. h.intakes (length parts.plan.nodes) intake at;
      edges = h.edges;
      limits = subst KnowsLimits put.made put.knows;
      spare = h.rest.spare;
      kept = h.rest.kept;
      begun = omega arith;
      not_wound = refl;
    })

pub together_stands : {laws : Laws} (job : LoggedJob laws) (parts : PartsView) (net : NetView) → IsPutTogether parts net → ArePartsOf job parts → StandsFor job net
unfolding StandsFor
together_stands {laws} job parts net put h = net_stands job parts net put h
