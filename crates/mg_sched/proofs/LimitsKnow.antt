-- Limits know what waits, whatever they are told.
use Rattle.std.proofs.Common.{◌≡◌, ◌≢◌, ℕ, zero, suc, ◌+◌, ◌<◌, ◌≤◌, Bool, true, false, not, List, [], ◌∷◌, length, map, set, get_or, Option, Some, slice_get, option_map, unwrap_or, ◌==◌, inl, inr, ap, sym, refl, subst, ◌∙◌, arith, if◌then◌else◌}
use Rattle.std.proofs.lemmas.Bool.{cases_eq, cases_lt, cases_order, eq-eqb, ne_eqb}
use Rattle.std.proofs.lemmas.Option.{none-some, same_Some, slice_get_within, get_or_from_slice_get}
use Rattle.mg_value.specs.Payload.{Plain}
use Rattle.mg_value.specs.Packet.{Stamped}
use Rattle.mg_calc.specs.declared.edge.Edge.{Edge}
use Rattle.mg_calc.specs.declared.plan.Plan.{Plan}
use Rattle.mg_calc.specs.declared.plan_node.PlanNode.{PlanNode}
use Rattle.mg_calc.specs.Plan.{IsValid, numbers}
use Rattle.mg_calc.proofs.Earlier.{there, get_map}
use Rattle.mg_node.specs.declared.pending.Pending.{Pending}
use Rattle.mg_node.specs.Views.{IntakeView, EngineView}
use Rattle.mg_node.specs.Job.{ports_of}
use Rattle.mg_node.specs.Ports.{ports_in, port_queue}
use Rattle.mg_node.specs.Claims.{has_ended}
use Rattle.mg_node.proofs.Lemmas.{get_other, put_there, some_same}
use Rattle.mg_throttle.specs.declared.queue.Queue.{Queue}
use Rattle.mg_throttle.specs.Throttle.{QueueLimits, AreLimitsOf, noted, relaxed, stopped, is_full}
use Rattle.mg_throttle.proofs.Counts.{View-noted, AreLimitsOf-noted, AreLimitsOf-relaxed, AreLimitsOf-stopped}
use Rattle.mg_sched.specs.Views.{WorkQueueView, NetView}
use Rattle.mg_sched.specs.Places.{first_edge, lengths_of, with_limits}
use Rattle.mg_sched.specs.StandsFor.{KnowsQueue, KnowsLimits}
use Rattle.mg_sched.specs.Acts.{all_noted, stopped_by}
use Rattle.mg_sched.proofs.PlanEdges.{mapped_at}
use Rattle.mg_sched.proofs.PlanStreams.{number_there, number_of}
use Rattle.mg_sched.proofs.EdgePlaces.{edge_placed, edges_before}
use Rattle.mg_sched.proofs.Changed.{with_cell, with_arrived}

-- Queues that are told how many wait.

noted_past : (qs : List Queue) (i n : ℕ) → length qs ≤ i → noted qs i n ≡ qs
noted_past [] i n le = refl
noted_past (q ∷ qs) zero n le = absurd (omega (arith, le))
noted_past (q ∷ qs) (suc i) n le = ap (λ (rest : List Queue). q ∷ rest) (noted_past qs i n (omega (arith, le)))

abbrev pub with_queues : QueueLimits → List Queue → QueueLimits
with_queues t qs = record t { queues = qs }

noted_of : (plan : Plan) (t : QueueLimits) (i n : ℕ) → AreLimitsOf plan t → AreLimitsOf plan (with_queues t (noted t.queues i n))
noted_of plan t i n of = elim (cases_lt i (length t.queues)) [
  | inl less ↦
      (let it = there t.queues i less in
      let read : it.0 ≡ get_or t.queues i it.0 = sym (get_or_from_slice_get t.queues i it.0 it.0 it.1) in
      subst (AreLimitsOf plan) (View-noted t.queues t.reached t.feeders t i n it.0 refl less read) (AreLimitsOf-noted t.queues t.reached t.feeders t i n it.0 refl less read plan of))
  | inr past ↦ subst (λ (qs : List Queue). AreLimitsOf plan (with_queues t qs)) (sym (noted_past t.queues i n past)) of
]

pub all_noted_of : (plan : Plan) (t : QueueLimits) (i : ℕ) (ns : List ℕ) → AreLimitsOf plan t → AreLimitsOf plan (with_queues t (all_noted t.queues i ns))
all_noted_of plan t i [] of = of
all_noted_of plan t i (n ∷ ns) of = all_noted_of plan (with_queues t (noted t.queues i n)) (i + 1) ns (noted_of plan t i n of)

record IsNoted (qs : List Queue) (i n number : ℕ) (q : Queue) : Type 0 where
  pub old : Queue
  pub at : slice_get qs number ≡ Some old
  pub counts : q.counts ≡ old.counts
  pub same : number ≢ i → q.waiting ≡ old.waiting
  pub told : number ≡ i → q.waiting ≡ n

noted_get : (qs : List Queue) (i n number : ℕ) (q : Queue) → slice_get (noted qs i n) number ≡ Some q → IsNoted qs i n number q
noted_get [] i n number q h = absurd (none-some q h)
noted_get (x ∷ qs) zero n zero q h =
    let own : Queue = record x { waiting = n } in
    let is : own ≡ q = same_Some own q h in
    record { old = x; at = refl; counts = sym (ap (λ (y : Queue). y.counts) is); same = λ other. absurd (other refl); told = λ e. sym (ap (λ (y : Queue). y.waiting) is) }
noted_get (x ∷ qs) zero n (suc number) q h = record { old = q; at = h; counts = refl; same = λ other. refl; told = λ e. absurd (omega (arith, e)) }
noted_get (x ∷ qs) (suc i) n zero q h = record { old = q; at = h; counts = refl; same = λ other. refl; told = λ e. absurd (omega (arith, e)) }
noted_get (x ∷ qs) (suc i) n (suc number) q h =
    let r = noted_get qs i n number q h in
    record { old = r.old; at = r.at; counts = r.counts; same = λ other. r.same (λ e. other (omega (arith, e))); told = λ e. r.told (omega (arith, e)) }

pub record AreNoted (qs : List Queue) (first : ℕ) (ns : List ℕ) (number : ℕ) (q : Queue) : Type 0 where
  pub old : Queue
  pub at : slice_get qs number ≡ Some old
  pub counts : q.counts ≡ old.counts
  pub same : ((port n : ℕ) → slice_get ns port ≡ Some n → number ≢ first + port) → q.waiting ≡ old.waiting
  pub told : (port n : ℕ) → slice_get ns port ≡ Some n → number ≡ first + port → q.waiting ≡ n

told_next : (qs : List Queue) (first n : ℕ) (ns : List ℕ) (number : ℕ) (q : Queue) (r : AreNoted (noted qs first n) (first + 1) ns number q) (b : IsNoted qs first n number r.old) (port m : ℕ)
    → slice_get (n ∷ ns) port ≡ Some m → number ≡ first + port → q.waiting ≡ m
told_next qs first n ns number q r b zero m at e =
    r.same (λ port k there f. omega (arith, e, f)) ∙ b.told (omega (arith, e)) ∙ same_Some n m at
told_next qs first n ns number q r b (suc port) m at e = r.told port m at (omega (arith, e))

pub all_noted_get : (ns : List ℕ) (qs : List Queue) (first number : ℕ) (q : Queue) → slice_get (all_noted qs first ns) number ≡ Some q → AreNoted qs first ns number q
all_noted_get [] qs first number q h = record { old = q; at = h; counts = refl; same = λ none. refl; told = λ port n at. absurd (none-some n at) }
all_noted_get (n ∷ ns) qs first number q h =
    let r = all_noted_get ns (noted qs first n) (first + 1) number q h in
    let b = noted_get qs first n number r.old r.at in
    record {
      old = b.old;
      at = b.at;
      counts = r.counts ∙ b.counts;
      same = λ none. r.same (λ port m at e. none (suc port) m at (omega (arith, e))) ∙ b.same (λ e. none 0 n refl (omega (arith, e)));
      told = told_next qs first n ns number q r b;
    }

pub lengths_get : (waits : Pending) (port : ℕ) → port < ports_in waits → slice_get (lengths_of waits) port ≡ Some (length (port_queue waits port).packets)
lengths_get waits port less = get_map (λ (p : ℕ). length (port_queue waits p).packets) (numbers (ports_in waits)) port port (number_there 0 (ports_in waits) port less ∙ ap Some (let same : 0 + port ≡ port = omega arith in same))

-- Another cell at a node, and what its ports have is told.
pub claim_knows : (net : NetView) (node : ℕ) (n : PlanNode) (engine engine_now : EngineView) (intake_now : IntakeView) (work_queue_now : WorkQueueView) → IsValid net.plan → KnowsLimits net → slice_get net.plan.nodes node ≡ Some n
    → slice_get net.engines node ≡ Some engine → has_ended engine_now ≡ has_ended engine → ports_in intake_now.waits ≡ length n.inputs
    → KnowsLimits (with_cell net node engine_now intake_now work_queue_now (with_queues net.limits (all_noted net.limits.queues (first_edge net.plan node) (lengths_of intake_now.waits))))
claim_knows net node n engine engine_now intake_now work_queue_now valid h at_n at_engine ended ports = record {
  of_plan = all_noted_of net.plan net.limits (first_edge net.plan node) (lengths_of intake_now.waits) h.of_plan;
  queues = λ number e q at_e at_q.
      let first = first_edge net.plan node in
      let a = all_noted_get (lengths_of intake_now.waits) net.limits.queues first number q at_q in
      let k = h.queues number e a.old at_e a.at in
      let p = edge_placed net.plan number e valid at_e in
      let number_is = p.number_is in
      let port_in : e.port < length (ports_of net.plan e.node) = slice_get_within (ports_of net.plan e.node) e.port e.stream p.stream in
      let ports_at : (x : PlanNode) → slice_get net.plan.nodes e.node ≡ Some x → ports_of net.plan e.node ≡ x.inputs = λ x at. ap (λ (o : Option PlanNode). unwrap_or (option_map (λ (y : PlanNode). y.inputs) o) net.plan.outputs) at in
      record {
        waiting = λ i at_i. elim (cases_eq e.node node) [
          | inl here ↦
              (let is : i ≡ intake_now = put_there net.intakes node intake_now i (ap (slice_get (set net.intakes node intake_now)) (sym here) ∙ at_i) in
              let long = ap (λ (xs : List ℕ). length xs) (ports_at n (ap (slice_get net.plan.nodes) here ∙ at_n)) in
              let same = ap (first_edge net.plan) here in
              a.told e.port (length (port_queue intake_now.waits e.port).packets) (lengths_get intake_now.waits e.port (omega (arith, port_in, long, ports))) (omega (arith, number_is, same))
              ∙ ap (λ (v : IntakeView). length (port_queue v.waits e.port).packets) (sym is))
          | inr other ↦
              a.same (λ port m told at. elim (cases_order e.node node) [
                | inl same ↦ other same
                | inr (inl before) ↦
                    (let low = p.node in
                    let x = there net.plan.nodes e.node (let high = slice_get_within net.plan.nodes node n at_n in omega (arith, before, high)) in
                    let long = ap (λ (xs : List ℕ). length xs) (ports_at x.0 x.1) in
                    let below = edges_before net.plan e.node node x.0 x.1 before in
                    omega (arith, number_is, at, long, port_in, below))
                | inr (inr later) ↦
                    (let it = mapped_at (λ (q : ℕ). length (port_queue intake_now.waits q).packets) (numbers (ports_in intake_now.waits)) port m told in
                    let less = (number_of 0 (ports_in intake_now.waits) port it.0 it.1).0 in
                    let below = edges_before net.plan node e.node n at_n later in
                    omega (arith, number_is, at, ports, less, below))
              ]) ∙ k.waiting i (sym (get_other net.intakes node e.node intake_now other) ∙ at_i)
        ];
        counts = λ g low at_g. a.counts ∙ elim (cases_eq e.node node) [
          | inl here ↦
              (let is : g ≡ engine_now = put_there net.engines node engine_now g (ap (slice_get (set net.engines node engine_now)) (sym here) ∙ at_g) in
              k.counts engine low (ap (slice_get net.engines) here ∙ at_engine) ∙ ap not (sym ended) ∙ ap (λ (v : EngineView). not (has_ended v)) (sym is))
          | inr other ↦ k.counts g low (sym (get_other net.engines node e.node engine_now other) ∙ at_g)
        ];
      };
}

-- Another cell at a node, with the same intake: what waits is the same. If the node has ended its queues no longer count.
cell_queue : (net : NetView) (node : ℕ) (engine_now : EngineView) (intake : IntakeView) (work_queue_now : WorkQueueView) (limits : QueueLimits) (e : Edge) (old q : Queue) → KnowsQueue net e old → slice_get net.intakes node ≡ Some intake
    → q.waiting ≡ old.waiting → (e.node ≢ node → q.counts ≡ old.counts) → (e.node ≡ node → q.counts ≡ not (has_ended engine_now)) → KnowsQueue (with_cell net node engine_now intake work_queue_now limits) e q
cell_queue net node engine_now intake work_queue_now limits e old q k at_intake waiting others own = record {
  waiting = λ i at_i. waiting ∙ elim (cases_eq e.node node) [
    | inl here ↦
        (let is : i ≡ intake = put_there net.intakes node intake i (ap (slice_get (set net.intakes node intake)) (sym here) ∙ at_i) in
        k.waiting intake (ap (slice_get net.intakes) here ∙ at_intake) ∙ ap (λ (v : IntakeView). length (port_queue v.waits e.port).packets) (sym is))
    | inr other ↦ k.waiting i (sym (get_other net.intakes node e.node intake other) ∙ at_i)
  ];
  counts = λ g low at_g. elim (cases_eq e.node node) [
    | inl here ↦
        (let is : g ≡ engine_now = put_there net.engines node engine_now g (ap (slice_get (set net.engines node engine_now)) (sym here) ∙ at_g) in
        own here ∙ ap (λ (v : EngineView). not (has_ended v)) (sym is))
    | inr other ↦ others other ∙ k.counts g low (sym (get_other net.engines node e.node engine_now other) ∙ at_g)
  ];
}

pub cell_knows : (net : NetView) (node : ℕ) (engine engine_now : EngineView) (intake : IntakeView) (work_queue_now : WorkQueueView) → node < length net.plan.nodes → KnowsLimits net → slice_get net.engines node ≡ Some engine → slice_get net.intakes node ≡ Some intake
    → has_ended engine_now ≡ has_ended engine → KnowsLimits (with_cell net node engine_now intake work_queue_now net.limits)
cell_knows net node engine engine_now intake work_queue_now within h at_engine at_intake ended = record {
  of_plan = h.of_plan;
  queues = λ number e q at_e at_q.
      let k = h.queues number e q at_e at_q in
      cell_queue net node engine_now intake work_queue_now net.limits e q q k at_intake refl (λ other. refl)
      (λ here. k.counts engine (omega (arith, here, within)) (ap (slice_get net.engines) here ∙ at_engine) ∙ ap not (sym ended));
}

pub stopped_other : (node : ℕ) (q : Queue) → q.node ≢ node → stopped node q ≡ q
stopped_other node q other = ap (λ (b : Bool). (let x : Queue = if b then record q { counts = false } else q in x)) (ne_eqb q.node node other)

pub stopped_own : (node : ℕ) (q : Queue) → q.node ≡ node → stopped node q ≡ record q { counts = false }
stopped_own node q own = ap (λ (b : Bool). (let x : Queue = if b then record q { counts = false } else q in x)) (eq-eqb q.node node own)

pub stopped_waiting : (node : ℕ) (q : Queue) → (stopped node q).waiting ≡ q.waiting
stopped_waiting node q = by_test (q.node == node)
  where
    by_test : (b : Bool) → (let x : Queue = if b then record q { counts = false } else q in x).waiting ≡ q.waiting
    by_test true = refl
    by_test false = refl

-- the queue of an edge has its consumer
pub queue_node : (plan : Plan) (t : QueueLimits) (number : ℕ) (e : Edge) (q : Queue) → AreLimitsOf plan t → slice_get plan.edges number ≡ Some e → slice_get t.queues number ≡ Some q → q.node ≡ e.node
queue_node plan t number e q of at_e at_q =
    same_Some q.node e.node
    (sym (get_map (λ (x : Queue). x.node) t.queues number q at_q) ∙ ap (λ (ns : List ℕ). slice_get ns number) of.queues ∙ get_map (λ (x : Edge). x.node) plan.edges number e at_e)

stopping_knows : (net : NetView) (node : ℕ) (engine engine_now : EngineView) (intake : IntakeView) (work_queue_now : WorkQueueView) (b : Bool) → node < length net.plan.nodes → KnowsLimits net → slice_get net.engines node ≡ Some engine
    → slice_get net.intakes node ≡ Some intake → (has_ended engine ≡ true → has_ended engine_now ≡ true) → has_ended engine_now ≡ b
    → KnowsLimits (with_cell net node engine_now intake work_queue_now (if b then with_queues net.limits (map (stopped node) net.limits.queues) else net.limits))
stopping_knows net node engine engine_now intake work_queue_now true within h at_engine at_intake ended is = record {
  of_plan = AreLimitsOf-stopped node net.limits.queues net.limits.reached net.limits.feeders net.limits refl net.plan h.of_plan;
  queues = λ number e q at_e at_q.
      let limits = with_queues net.limits (map (stopped node) net.limits.queues) in
      let it = mapped_at (stopped node) net.limits.queues number q at_q in
      let node_is = queue_node net.plan net.limits number e it.0 h.of_plan at_e it.1 in
      cell_queue net node engine_now intake work_queue_now limits e it.0 q (h.queues number e it.0 at_e it.1) at_intake
      (ap (λ (x : Queue). x.waiting) (sym it.2) ∙ stopped_waiting node it.0)
      (λ other. ap (λ (x : Queue). x.counts) (sym it.2) ∙ ap (λ (x : Queue). x.counts) (stopped_other node it.0 (λ s. other (sym node_is ∙ s))))
      (λ here. ap (λ (x : Queue). x.counts) (sym it.2) ∙ ap (λ (x : Queue). x.counts) (stopped_own node it.0 (node_is ∙ here)) ∙ ap not (sym is));
}
stopping_knows net node engine engine_now intake work_queue_now false within h at_engine at_intake ended is =
    cell_knows net node engine engine_now intake work_queue_now within h at_engine at_intake (by_both (has_ended engine) (has_ended engine_now) ended is)
  where
    by_both : (a c : Bool) → (a ≡ true → c ≡ true) → c ≡ false → c ≡ a
    by_both true c stays no_end = stays refl
    by_both false c stays no_end = no_end

pub stopped_knows : (net : NetView) (node : ℕ) (engine engine_now : EngineView) (intake : IntakeView) (work_queue_now : WorkQueueView) → node < length net.plan.nodes → KnowsLimits net → slice_get net.engines node ≡ Some engine
    → slice_get net.intakes node ≡ Some intake → (has_ended engine ≡ true → has_ended engine_now ≡ true) → KnowsLimits (with_cell net node engine_now intake work_queue_now (stopped_by node engine_now net.limits))
stopped_knows net node engine engine_now intake work_queue_now within h at_engine at_intake ended = stopping_knows net node engine engine_now intake work_queue_now (has_ended engine_now) within h at_engine at_intake ended refl

-- Packets that arrive at a port.
pub arrival_knows : (net : NetView) (number : ℕ) (e : Edge) (intake intake_now : IntakeView) → IsValid net.plan → KnowsLimits net → slice_get net.plan.edges number ≡ Some e → slice_get net.intakes e.node ≡ Some intake
    → ((port : ℕ) → port < length (ports_of net.plan e.node) → port ≢ e.port → (port_queue intake_now.waits port).packets ≡ (port_queue intake.waits port).packets)
    → KnowsLimits (with_arrived net e.node intake_now (with_queues net.limits (all_noted net.limits.queues number (length (port_queue intake_now.waits e.port).packets ∷ []))))
arrival_knows net number e intake intake_now valid h at_e at_intake others =
    let n = length (port_queue intake_now.waits e.port).packets in
    record {
      of_plan = all_noted_of net.plan net.limits number (n ∷ []) h.of_plan;
      queues = λ k x q at_x at_q.
          let a = all_noted_get (n ∷ []) net.limits.queues number k q at_q in
          let knows = h.queues k x a.old at_x a.at in
          let own : x.node ≡ e.node → (i : IntakeView) → slice_get (set net.intakes e.node intake_now) x.node ≡ Some i → i ≡ intake_now = λ here i at_i.
          put_there net.intakes e.node intake_now i (ap (slice_get (set net.intakes e.node intake_now)) (sym here) ∙ at_i) in
          record {
            waiting = λ i at_i. elim (cases_eq k number) [
              | inl here ↦
                  (let same : x ≡ e = some_same (slice_get net.plan.edges number) x e (ap (slice_get net.plan.edges) (sym here) ∙ at_x) at_e in
                  let is = own (ap (λ (y : Edge). y.node) same) i at_i in
                  a.told 0 n refl (omega (arith, here)) ∙ ap (λ (v : IntakeView). length (port_queue v.waits e.port).packets) (sym is) ∙ ap (λ (y : Edge). length (port_queue i.waits y.port).packets) (sym same))
              | inr other ↦
                  a.same (only_first k number n other) ∙ elim (cases_eq x.node e.node) [
                    | inl there ↦
                        (let is = own there i at_i in
                        let p = edge_placed net.plan number e valid at_e in
                        let r = edge_placed net.plan k x valid at_x in
                        let one = p.number_is in
                        let two = r.number_is in
                        let first = ap (first_edge net.plan) there in
                        let within = slice_get_within (ports_of net.plan x.node) x.port x.stream r.stream in
                        let long = ap (λ (m : ℕ). length (ports_of net.plan m)) there in
                        knows.waiting intake (ap (slice_get net.intakes) there ∙ at_intake)
                        ∙ ap (λ (ps : List (Stamped Plain)). length ps) (sym (others x.port (omega (arith, within, long)) (λ s. other (omega (arith, one, two, first, s)))))
                        ∙ ap (λ (v : IntakeView). length (port_queue v.waits x.port).packets) (sym is))
                    | inr elsewhere ↦ knows.waiting i (sym (get_other net.intakes e.node x.node intake_now elsewhere) ∙ at_i)
                  ]
            ];
            counts = λ g low at_g. a.counts ∙ knows.counts g low at_g;
          };
    }
  where
    only_first : (k number n : ℕ) → k ≢ number → (port m : ℕ) → slice_get (n ∷ []) port ≡ Some m → k ≢ number + port
    only_first k number n other zero m at = λ e. other (omega (arith, e))
    only_first k number n other (suc port) m at = absurd (none-some m at)

-- Limits that are relaxed.
relaxed_waiting : (q : Queue) → (relaxed q).waiting ≡ q.waiting
relaxed_waiting q = by_test (is_full q)
  where
    by_test : (b : Bool) → (let x : Queue = if b then record q { limit = Some (q.waiting + 1) } else q in x).waiting ≡ q.waiting
    by_test true = refl
    by_test false = refl

relaxed_counts : (q : Queue) → (relaxed q).counts ≡ q.counts
relaxed_counts q = by_test (is_full q)
  where
    by_test : (b : Bool) → (let x : Queue = if b then record q { limit = Some (q.waiting + 1) } else q in x).counts ≡ q.counts
    by_test true = refl
    by_test false = refl

pub relaxed_knows : (net : NetView) → KnowsLimits net → KnowsLimits (with_limits net (with_queues net.limits (map relaxed net.limits.queues)))
relaxed_knows net h = record {
  of_plan = AreLimitsOf-relaxed net.limits.queues net.limits.reached net.limits.feeders net.limits refl net.plan h.of_plan;
  queues = λ number e q at_e at_q.
      let it = mapped_at relaxed net.limits.queues number q at_q in
      let k = h.queues number e it.0 at_e it.1 in
      record {
        waiting = λ i at_i. ap (λ (x : Queue). x.waiting) (sym it.2) ∙ relaxed_waiting it.0 ∙ k.waiting i at_i;
        counts = λ g low at_g. ap (λ (x : Queue). x.counts) (sym it.2) ∙ relaxed_counts it.0 ∙ k.counts g low at_g;
      };
}
