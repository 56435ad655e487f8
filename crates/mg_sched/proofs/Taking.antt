-- The collector's next set is taken: a net stands for its job then as before.
use Rattle.std.proofs.Common.{◌≡◌, ◌≢◌, ℕ, zero, suc, ◌+◌, ◌^◌, ◌<◌, ◌≤◌, List, [], ◌∷◌, length, set, length-set, get_or, Option, Some, None, IsSome, IfSome, IsSomeAnd, false, true, option_map, unwrap_or, slice_get, inl, inr, ap, sym, refl, subst, ◌∙◌, arith}
use Rattle.std.proofs.lemmas.Bool.{cases_eq}
use Rattle.std.proofs.lemmas.List.{length-map}
use Rattle.std.proofs.lemmas.Option.{none-some, same_Some, slice_get_within}
use Rattle.mg_value.specs.Payload.{Plain}
use Rattle.mg_value.specs.Packet.{Stamped}
use Rattle.mg_settled.specs.Prefix.{StreamPrefix}
use Rattle.mg_calc.specs.Rules.{Laws}
use Rattle.mg_calc.specs.declared.edge.Edge.{Edge}
use Rattle.mg_calc.specs.declared.plan.Plan.{Plan}
use Rattle.mg_calc.specs.Plan.{IsValid}
use Rattle.mg_node.specs.Views.{IntakeView}
use Rattle.mg_node.specs.Job.{LoggedJob, Solves, ports_of}
use Rattle.mg_node.specs.Lawful.{LawfulIntake}
use Rattle.mg_node.specs.Intakes.{SomeJobHasIntake, HasSet, next_set_of}
use Rattle.mg_node.specs.Ports.{ports_in, port_queue}
use Rattle.mg_node.specs.Claims.{Takes}
use Rattle.mg_node.proofs.Lemmas.{few_packets, get_other, intake_ports, put_there, same_put}
use Rattle.mg_throttle.specs.declared.queue.Queue.{Queue}
use Rattle.mg_throttle.specs.Throttle.{noted}
use Rattle.mg_sched.specs.Views.{NetView}
use Rattle.mg_sched.specs.Places.{first_edge, lengths_of, with_intake}
use Rattle.mg_sched.specs.StandsFor.{IsJoined, KnowsLimits, StandsFor, StandsForSome}
use Rattle.mg_sched.specs.Acts.{all_noted, with_noted}
use Rattle.mg_sched.specs.Taking.{TakesNext, TakesNothing, taken_out}
use Rattle.mg_sched.proofs.Changed.{with_arrived}
use Rattle.mg_sched.proofs.EdgePlaces.{edge_placed, edges_before}
use Rattle.mg_sched.proofs.LimitsKnow.{with_queues, all_noted_of, lengths_get}
use Rattle.mg_sched.proofs.Finding.{valid, places, of_plan, found, read_at}
use Rattle.mg_sched.proofs.PlanEdges.{ports_of_collector, ports_of_node, edges_count}

-- Queues that are told how many wait, from one on: those before it stay as they are, and each has what it is told.

noted_other : (qs : List Queue) (k n j : ℕ) → j ≢ k → slice_get (noted qs k n) j ≡ slice_get qs j
noted_other [] k n j other = refl
noted_other (q ∷ qs) zero n zero other = absurd (other refl)
noted_other (q ∷ qs) zero n (suc j) other = refl
noted_other (q ∷ qs) (suc k) n zero other = refl
noted_other (q ∷ qs) (suc k) n (suc j) other = noted_other qs k n j (λ e. other (omega (arith, e)))

noted_here : (qs : List Queue) (k n : ℕ) (q : Queue) → slice_get (noted qs k n) k ≡ Some q → q.waiting ≡ n
noted_here [] k n q h = absurd (none-some q h)
noted_here (x ∷ qs) zero n q h = (let own : Queue = record x { waiting = n } in sym (ap (λ (y : Queue). y.waiting) (same_Some own q h)))
noted_here (x ∷ qs) (suc k) n q h = noted_here qs k n q h

all_before : (ns : List ℕ) (qs : List Queue) (first j : ℕ) → j < first → slice_get (all_noted qs first ns) j ≡ slice_get qs j
all_before [] qs first j less = refl
all_before (n ∷ ns) qs first j less = all_before ns (noted qs first n) (first + 1) j (omega (arith, less)) ∙ noted_other qs first n j (λ e. omega (arith, less, e))

all_at : (ns : List ℕ) (qs : List Queue) (first port m : ℕ) (q : Queue) → slice_get ns port ≡ Some m → slice_get (all_noted qs first ns) (first + port) ≡ Some q → q.waiting ≡ m
all_at [] qs first port m q at h = absurd (none-some m at)
all_at (n ∷ ns) qs first zero m q at h =
    let same : first ≡ first + 0 = omega arith in
    noted_here qs first n q (sym (all_before ns (noted qs first n) (first + 1) first (omega arith)) ∙ ap (slice_get (all_noted (noted qs first n) (first + 1) ns)) same ∙ h) ∙ same_Some n m at
all_at (n ∷ ns) qs first (suc port) m q at h =
    let same : (first + 1) + port ≡ first + suc port = omega arith in
    all_at ns (noted qs first n) (first + 1) port m q at (ap (slice_get (all_noted (noted qs first n) (first + 1) ns)) same ∙ h)

-- Another intake of the collector, and what its ports have is told: its edges are the last ones.
collected_knows : (net : NetView) (now : IntakeView) → IsValid net.plan → KnowsLimits net → ports_in now.waits ≡ length net.plan.outputs
    → KnowsLimits (with_arrived net (length net.plan.nodes) now (with_queues net.limits (all_noted net.limits.queues (first_edge net.plan (length net.plan.nodes)) (lengths_of now.waits))))
collected_knows net now valid h ports = record {
  of_plan = all_noted_of net.plan net.limits (first_edge net.plan (length net.plan.nodes)) (lengths_of now.waits) h.of_plan;
  queues = λ number e q at_e at_q.
      let last = length net.plan.nodes in
      let first = first_edge net.plan last in
      let p = edge_placed net.plan number e valid at_e in
      let number_is = p.number_is in
      let port_in = p.within in
      let upto = p.node in
      elim (cases_eq e.node last) [
        | inl here ↦
            (let long = ap (λ (n : ℕ). length (ports_of net.plan n)) here ∙ ap (λ (xs : List ℕ). length xs) (ports_of_collector net.plan) in
            let same = ap (first_edge net.plan) here in
            let place : number ≡ first + e.port = omega (arith, number_is, same) in
            let told = all_at (lengths_of now.waits) net.limits.queues first e.port (length (port_queue now.waits e.port).packets) q (lengths_get now.waits e.port (omega (arith, port_in, long, ports)))
            (ap (slice_get (all_noted net.limits.queues first (lengths_of now.waits))) (sym place) ∙ at_q) in
            record {
              waiting = λ i at_i.
                  let is : i ≡ now = put_there net.intakes last now i (ap (slice_get (set net.intakes last now)) (sym here) ∙ at_i) in
                  told ∙ ap (λ (v : IntakeView). length (port_queue v.waits e.port).packets) (sym is);
              counts = λ g low at_g. absurd (omega (arith, here, low));
            })
        | inr other ↦
            (let low : e.node < last = omega (arith, upto, other) in
            let n = found net.plan.nodes e.node low in
            let long = ap (λ (xs : List ℕ). length xs) (ports_of_node net.plan e.node n.0 n.1) in
            let below = edges_before net.plan e.node last n.0 n.1 low in
            let k = h.queues number e q at_e (sym (all_before (lengths_of now.waits) net.limits.queues first number (omega (arith, number_is, port_in, long, below))) ∙ at_q) in
            record {
              waiting = λ i at_i. k.waiting i (sym (get_other net.intakes last e.node now other) ∙ at_i);
              counts = k.counts;
            })
      ];
}

-- the collector's intake
pub collector_lawful : {laws : Laws} (job : LoggedJob laws) (net : NetView) (intake : IntakeView) → StandsFor job net → slice_get net.intakes (length net.plan.nodes) ≡ Some intake → LawfulIntake job (length net.plan.nodes) intake
unfolding StandsFor
collector_lawful {laws} job net intake h at = h.collector intake at

collector_ports : {laws : Laws} (job : LoggedJob laws) (net : NetView) (intake : IntakeView) → StandsFor job net → LawfulIntake job (length net.plan.nodes) intake → ports_in intake.waits ≡ length net.plan.outputs
unfolding StandsFor
collector_ports {laws} job net intake h lawful =
    intake_ports job (length net.plan.nodes) intake lawful ∙ ap (λ (p : Plan). length (ports_of p (length net.plan.nodes))) (sym h.plan) ∙ ap (λ (xs : List ℕ). length xs) (ports_of_collector net.plan)

net_stands : {laws : Laws} (job : LoggedJob laws) (net : NetView) (intake now : IntakeView) (set_now : List (Option (Stamped Plain))) → StandsFor job net → slice_get net.intakes (length net.plan.nodes) ≡ Some intake → Takes intake now set_now
    → StandsFor job (with_noted (with_intake net (length net.plan.nodes) now) (first_edge net.plan (length net.plan.nodes)) (lengths_of now.waits))
unfolding StandsFor
net_stands {laws} job net intake now set_now h there takes =
    let last = length net.plan.nodes in
    let work_queues = h.work_queues in
    let lawful = takes.stays_lawful job last (h.collector intake there) in
    let ports = collector_ports job net now h lawful in
    let valid : IsValid net.plan = subst IsValid (sym h.plan) h.is_job.plan in
    record {
      is_job = h.is_job;
      plan = h.plan;
      given = h.given;
      engines = h.engines;
      intakes = length-set net.intakes last now ∙ h.intakes;
      work_queues = h.work_queues;
      cells = λ k e i d at_e at_i at_d.
          let within = slice_get_within net.work_queues k d at_d in
          h.cells k e i d at_e (sym (get_other net.intakes last k now (λ s. omega (arith, s, within, work_queues))) ∙ at_i) at_d;
      inputs = h.inputs;
      collector = λ i at. subst (λ (v : IntakeView). LawfulIntake job last v) (sym (put_there net.intakes last now i at)) lawful;
      edges = λ e number place g i at_edge from at_g at_i. elim (cases_eq e.node last) [
        | inl here ↦
            (let is : i ≡ now = put_there net.intakes last now i (ap (slice_get (set net.intakes last now)) (sym here) ∙ at_i) in
            let old = h.edges e number place g intake at_edge from at_g (ap (slice_get net.intakes) here ∙ there) in
            let came = old.came.count in
            let low = old.came.bound in
            let kept = old.kept in
            let count = takes.counts e.port in
            let bound = takes.bounds e.port in
            subst (λ (v : IntakeView). IsJoined g e v) (sym is) (record { came = record { count = omega (arith, came, count); bound = omega (arith, low, bound) }; kept = omega (arith, kept, count) }))
        | inr other ↦ h.edges e number place g i at_edge from at_g (sym (get_other net.intakes last e.node now other) ∙ at_i)
      ];
      limits = collected_knows net now valid h.limits ports;
      spare = h.spare;
      kept = h.kept;
      begun = h.begun;
      not_wound = h.not_wound;
    }

pub take_stands : {laws : Laws} (job : LoggedJob laws) (before now : NetView) (set_now : List (Option (Stamped Plain))) → TakesNext before now set_now → StandsFor job before → StandsFor job now
take_stands {laws} job before now set_now t h = subst (StandsFor job) (sym t.now_is) (net_stands job before t.intake t.intake_now set_now h t.there t.takes)

-- What the calls ask for.

pub last_there : {laws : Laws} (net : NetView) → StandsForSome laws net → length net.plan.nodes < length net.intakes
last_there {laws} net h = (let long = (places net h).1 in omega (arith, long))

pub has_intake : {laws : Laws} (net : NetView) (intake : IntakeView) → StandsForSome laws net → slice_get net.intakes (length net.plan.nodes) ≡ Some intake → SomeJobHasIntake intake
has_intake {laws} net intake h at = record { laws = laws; job = h.job; consumer = length net.plan.nodes; lawful = collector_lawful h.job net intake h.stands at }

pub ports_known : {laws : Laws} (net : NetView) (intake : IntakeView) → StandsForSome laws net → slice_get net.intakes (length net.plan.nodes) ≡ Some intake → ports_in intake.waits ≡ length net.plan.outputs
ports_known {laws} net intake h at = collector_ports h.job net intake h.stands (collector_lawful h.job net intake h.stands at)

queues_count : {laws : Laws} (net : NetView) → StandsForSome laws net → length net.limits.queues ≡ length net.plan.edges
queues_count {laws} net h =
    (let same = ap (λ (ns : List ℕ). length ns) (of_plan net h).queues in
    let qs = length-map net.limits.queues (λ (q : Queue). q.node) in
    let es = length-map net.plan.edges (λ (e : Edge). e.node) in
    omega (arith, same, qs, es))

pub queues_short : {laws : Laws} (net : NetView) → StandsForSome laws net → length net.limits.queues < 2 ^ 32
queues_short {laws} net h = (let count = queues_count net h in let few = (valid net h).ranges.edges in omega (arith, count, few))

pub queues_there : {laws : Laws} (net : NetView) (intake now : IntakeView) → StandsForSome laws net → slice_get net.intakes (length net.plan.nodes) ≡ Some intake → ports_in now.waits ≡ ports_in intake.waits
    → first_edge net.plan (length net.plan.nodes) + ports_in now.waits ≤ length net.limits.queues
queues_there {laws} net intake now h at same =
    (let count = queues_count net h in
    let edges = edges_count net.plan (valid net h) in
    let ports = ports_known net intake h at in
    omega (arith, count, edges, ports, same))

pub few_left : {laws : Laws} (net : NetView) (intake now : IntakeView) (port : ℕ) → StandsForSome laws net → slice_get net.intakes (length net.plan.nodes) ≡ Some intake
    → ((job : LoggedJob laws) (consumer : ℕ) → LawfulIntake job consumer intake → LawfulIntake job consumer now) → length (port_queue now.waits port).packets + 1 < 2 ^ 64
few_left {laws} net intake now port h at stays = few_packets h.job (length net.plan.nodes) port now (stays h.job (length net.plan.nodes) (collector_lawful h.job net intake h.stands at))

-- The same of a net as it is kept, whose collector's place was read.

abbrev pub IsLast : NetView → ℕ → Type 0
IsLast shown place = place ≡ length shown.plan.nodes

last_is : (shown net : NetView) (place : ℕ) → shown ≡ net → IsLast shown place → place ≡ length net.plan.nodes
last_is shown net place is last = last ∙ ap (λ (v : NetView). length v.plan.nodes) is

pub last_fits : {laws : Laws} (shown net : NetView) (place n : ℕ) → shown ≡ net → StandsForSome laws net → IsLast shown place → n ≡ length shown.intakes → place < n
last_fits {laws} shown net place n is h last long =
    (let there = last_there net h in
    let at = last_is shown net place is last in
    let same = ap (λ (v : NetView). length v.intakes) is in
    omega (arith, there, at, same, long))

pub last_at : {laws : Laws} (shown net : NetView) (place : ℕ) (intake : IntakeView) → shown ≡ net → StandsForSome laws net → IsLast shown place → intake ≡ get_or shown.intakes place intake → slice_get net.intakes (length net.plan.nodes) ≡ Some intake
last_at {laws} shown net place intake is h last value =
    ap (slice_get net.intakes) (sym (last_is shown net place is last))
    ∙ ap (λ (v : NetView). slice_get v.intakes place) (sym is) ∙ read_at shown.intakes place intake (last_fits shown net place (length shown.intakes) is h last refl) value

pub set_fits : {laws : Laws} (shown net : NetView) (place : ℕ) (now : IntakeView) → shown ≡ net → StandsForSome laws net → IsLast shown place → place < length (set shown.intakes place now)
set_fits {laws} shown net place now is h last = (let within = last_fits shown net place (length shown.intakes) is h last refl in let long = length-set shown.intakes place now in omega (arith, within, long))

pub short_kept : {laws : Laws} (shown net : NetView) → shown ≡ net → StandsForSome laws net → length shown.limits.queues < 2 ^ 32
short_kept {laws} shown net is h = (let short = queues_short net h in let same = ap (λ (v : NetView). length v.limits.queues) is in omega (arith, short, same))

pub queues_kept : {laws : Laws} (shown net : NetView) (place : ℕ) (old now intake : IntakeView) → shown ≡ net → StandsForSome laws net → IsLast shown place → old ≡ get_or shown.intakes place old → ports_in now.waits ≡ ports_in old.waits
    → slice_get (set shown.intakes place now) place ≡ Some intake → first_edge shown.plan place + ports_in intake.waits ≤ length shown.limits.queues
queues_kept {laws} shown net place old now intake is h last value same at =
    (let room = queues_there net old now h (last_at shown net place old is h last value) same in
    let there = put_there shown.intakes place now intake at in
    let ports = ap (λ (v : IntakeView). ports_in v.waits) there in
    let first : first_edge shown.plan place ≡ first_edge net.plan (length net.plan.nodes) = ap (λ (v : NetView). first_edge v.plan place) is ∙ ap (first_edge net.plan) (last_is shown net place is last) in
    let long = ap (λ (v : NetView). length v.limits.queues) is in
    omega (arith, room, ports, first, long))

pub few_kept : {laws : Laws} (shown net : NetView) (place : ℕ) (old now intake : IntakeView) (port : ℕ) → shown ≡ net → StandsForSome laws net → IsLast shown place → old ≡ get_or shown.intakes place old
    → ((job : LoggedJob laws) (consumer : ℕ) → LawfulIntake job consumer old → LawfulIntake job consumer now) → slice_get (set shown.intakes place now) place ≡ Some intake → length (port_queue intake.waits port).packets + 1 < 2 ^ 64
few_kept {laws} shown net place old now intake port is h last value stays at =
    subst (λ (v : IntakeView). length (port_queue v.waits port).packets + 1 < 2 ^ 64) (sym (put_there shown.intakes place now intake at))
    (few_left net old now port h (last_at shown net place old is h last value) stays)

-- what the limits heard
abbrev pub Hears : NetView → ℕ → IntakeView → NetView → Type 0
Hears shown place now new = (intake : IntakeView) → slice_get (set shown.intakes place now) place ≡ Some intake → new ≡ with_noted (with_intake shown place now) (first_edge shown.plan place) (lengths_of intake.waits)

pub next_taken : {laws : Laws} (shown net : NetView) (place : ℕ) (old now : IntakeView) (set_now : List (Option (Stamped Plain))) (new : NetView) → shown ≡ net → StandsForSome laws net → IsLast shown place → old ≡ get_or shown.intakes place old → Takes old now set_now
    → Hears shown place now new → TakesNext net new set_now
next_taken {laws} shown net place old now set_now new is h last value takes hears =
    let there = last_there net h in
    let long = length-set net.intakes (length net.plan.nodes) now in
    let it = found (set net.intakes (length net.plan.nodes) now) (length net.plan.nodes) (omega (arith, there, long)) in
    let heard = subst (λ (v : NetView). Hears v (length net.plan.nodes) now new) is (subst (λ (k : ℕ). Hears shown k now new) (last_is shown net place is last) hears) in
    record {
      intake = old;
      there = last_at shown net place old is h last value;
      intake_now = now;
      takes = takes;
      now_is = heard now (it.1 ∙ ap Some (put_there net.intakes (length net.plan.nodes) now it.0 it.1));
    }

pub in_order : {laws : Laws} (job : LoggedJob laws) (streams : List (StreamPrefix Plain)) (before now : NetView) (set_now : List (Option (Stamped Plain))) → TakesNext before now set_now → Solves job streams → StandsFor job before
    → HasSet job streams (length before.plan.nodes) (taken_out before) set_now
in_order {laws} job streams before now set_now t solves h =
    let number : t.intake.claimed ≡ taken_out before = sym (ap (λ (o : Option IntakeView). unwrap_or (option_map (λ (i : IntakeView). i.claimed) o) 0) t.there) in
    subst (λ (n : ℕ). HasSet job streams (length before.plan.nodes) n set_now) number
    (t.takes.in_solution job (length before.plan.nodes) streams solves (collector_lawful job before t.intake h t.there))

pub shown_and : {X : Type 0} (o : Option X) (P : X → Type 0) → IsSome o → IfSome o P → IsSomeAnd o P
shown_and None P some p = absurd cc
shown_and (Some x) P some p = p

pub none_next : {X : Type 0} (o : Option X) → (IsSome o → false ≡ true) → o ≡ None
none_next None h = refl
none_next (Some x) h = absurd (let e : false ≡ true = h refl in cc)

-- nothing was taken
pub nothing_taken : {laws : Laws} (shown net : NetView) (place : ℕ) (old now : IntakeView) (set_old set_now : List (Option (Stamped Plain))) → shown ≡ net → StandsForSome laws net → IsLast shown place → old ≡ get_or shown.intakes place old → next_set_of old.waits ≡ None
    → now ≡ old → set_now ≡ set_old → TakesNothing net (with_intake shown place now) set_old set_now
nothing_taken {laws} shown net place old now set_old set_now is h last value none same same_set =
    let at = last_at shown net place old is h last value in
    record {
      intake = old;
      there = at;
      none = none;
      same = ap (λ (v : NetView). with_intake v place now) is ∙ ap (λ (k : ℕ). with_intake net k now) (last_is shown net place is last) ∙ ap (with_intake net (length net.plan.nodes)) same
          ∙ ap (λ (is : List IntakeView). (let v : NetView = record net { intakes = is } in v)) (same_put net.intakes (length net.plan.nodes) old at);
      same_set = same_set;
    }

pub nothing_stands : {laws : Laws} (job : LoggedJob laws) (before now : NetView) (set_old set_now : List (Option (Stamped Plain))) → TakesNothing before now set_old set_now → StandsFor job before → StandsFor job now
nothing_stands {laws} job before now set_old set_now t h = subst (StandsFor job) (sym t.same) h
