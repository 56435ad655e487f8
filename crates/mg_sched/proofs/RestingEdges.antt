-- At rest no queue is full, and each port has all that was laid for it.
use Rattle.std.proofs.Common.{◌≡◌, ℕ, ◌-◌, ◌<◌, ◌≤◌, ◌==◌, ◌||◌, not, Bool, true, false, nat_lt, max, min, List, [], length, length-drop, take, Some, slice_get, inl, inr, if◌then◌else◌, refl, sym, ap, ap₂, subst, ◌∙◌, arith}
use Rattle.std.proofs.lemmas.Bool.{eqb-true, ltb-false}
use Rattle.std.proofs.lemmas.List.{nil_from_length}
use Rattle.std.proofs.lemmas.List.Folds.{list_any-from_Any}
use Rattle.std.proofs.lemmas.Option.{same_Some, slice_get_within}
use Rattle.mg_value.specs.Payload.{Plain}
use Rattle.mg_value.specs.Packet.{Stamped}
use Rattle.mg_stream.specs.Queue.{Waiting, count_of, raised_to}
use Rattle.mg_calc.specs.Rules.{Laws}
use Rattle.mg_calc.specs.declared.edge.Edge.{Edge}
use Rattle.mg_calc.specs.declared.event.Event.TheVariants.{Deliver, Relax}
use Rattle.mg_calc.specs.declared.event.Effect.TheVariants.{Did, Idle, OutOfMemory}
use Rattle.mg_calc.specs.Plan.{Feeder, graph_input}
use Rattle.mg_node.specs.declared.delivered.Delivered.{Delivered}
use Rattle.mg_node.specs.declared.delivered.Delivered.TheVariants.{Moved, OutOfMemory as NoRoom}
use Rattle.mg_node.specs.declared.pending.Pending.{Pending}
use Rattle.mg_node.specs.Views.{IntakeView, EngineView}
use Rattle.mg_node.specs.Ports.{ports_in, port_queue, with_room}
use Rattle.mg_node.specs.Delivery.{missing, with_packets, delivered, Delivers}
use Rattle.mg_node.specs.IntakeStanding.{HasGrown}
use Rattle.mg_node.specs.Leading.{output_at}
use Rattle.mg_node.specs.Job.{LoggedJob}
use Rattle.mg_node.proofs.Lemmas.{queue-there}
use Rattle.mg_throttle.specs.Throttle.{is_full, IsThrottled}
use Rattle.mg_sched.specs.Views.{NetView}
use Rattle.mg_sched.specs.Places.{source_of}
use Rattle.mg_sched.specs.StandsFor.{IsJoined, StandsFor, IsRunning}
use Rattle.mg_sched.specs.Acts.{IsAnyFull, effect_of, Brings}
use Rattle.mg_sched.specs.AtRest.{IsAtRest}
use Rattle.mg_sched.proofs.Carrying.{intake_lawful, port_there}
use Rattle.mg_sched.proofs.Finding.{valid}
use Rattle.mg_sched.proofs.PlanEdges.{edge_ends}

did_not : Idle ≡ Did → ⊥
did_not e = absurd cc

not_short : Idle ≡ OutOfMemory → ⊥
not_short e = absurd cc

-- No queue is full, and so no feeder is throttled.

pub none_full : (laws : Laws) (net : NetView) → IsAtRest laws net → IsAnyFull net.limits → ⊥
none_full laws net rest full = elim (rest Relax tt) [
  | inl idle ↦ idle.0 full
  | inr does ↦ did_not does.1
]

pub none_throttled : (laws : Laws) (net : NetView) (feeder : Feeder) → IsAtRest laws net → IsThrottled net.plan net.limits feeder → ⊥
none_throttled laws net feeder rest t = none_full laws net rest (list_any-from_Any is_full net.limits.queues (t.0, t.1, t.2, t.3, t.4.0))

-- A delivery that does nothing finds all there.

-- a port has all that was laid at an output
pub record HasAllCome (output port : Waiting Plain) : Type 0 where
  pub count : count_of port ≡ count_of output
  pub bound : port.bound ≡ output.bound

moved_by : (none raised : Bool) → Idle ≡ (if not none || raised then Did else Idle) → (none ≡ true) × (raised ≡ false)
moved_by true true e = absurd (did_not e)
moved_by true false e = (refl, refl)
moved_by false raised e = absurd (did_not e)

none_moved : (packets : ℕ) (raised : Bool) → Idle ≡ effect_of (Moved packets raised) → (packets ≡ 0) × (raised ≡ false)
none_moved packets raised e = (let by = moved_by (packets == 0) raised e in (eqb-true packets 0 by.0, by.1))

-- what is delivered if nothing is missing
abbrev delivered_by : Waiting Plain → Waiting Plain → List (Stamped Plain) → ℕ → Waiting Plain
delivered_by o q ms n = if n == length ms then raised_to (with_packets q ms) o.bound else with_packets q (take n ms)

came_all : (answer : Delivered) (o : Waiting Plain) (port : ℕ) (waits now : Pending) → Idle ≡ effect_of answer → port < ports_in waits → HasGrown (port_queue waits port) o → o.gone ≤ count_of (port_queue waits port)
    → Delivers answer o port 4294967295 waits now → HasAllCome o (port_queue waits port)
came_all (NoRoom packets) o port waits now idle there grown kept d = absurd (not_short idle)
came_all (Moved packets raised) o port waits now idle there grown kept d =
    let q = port_queue waits port in
    let none = none_moved packets raised idle in
    let few : min 4294967295 (length (missing o q)) ≡ 0 = sym d.0 ∙ none.0 in
    let short : length (missing o q) ≡ 0 = omega (arith, few) in
    let empty : missing o q ≡ [] = nil_from_length (missing o q) short in
    let cut = length-drop (count_of q - o.gone) o.packets in
    let most = grown.count in
    let low = grown.bound in
    let last : (port_queue now port).bound ≡ max q.bound o.bound =
    ap (λ (w : Pending). (port_queue w port).bound) d.1 ∙ ap (λ (r : Waiting Plain). r.bound) (queue-there waits port (with_room (delivered o q packets) (port_queue now port).spare) there)
    ∙ ap₂ (λ (ms : List (Stamped Plain)) (n : ℕ). (delivered_by o q ms n).bound) empty none.0 in
    let first : (with_packets q (take packets (missing o q))).bound ≡ q.bound = ap₂ (λ (ms : List (Stamped Plain)) (n : ℕ). (with_packets q (take n ms)).bound) empty none.0 in
    let same : nat_lt q.bound (max q.bound o.bound) ≡ false = ap₂ (λ (a b : ℕ). nat_lt a b) (sym first) (sym last) ∙ sym d.2 ∙ none.1 in
    let high : max q.bound o.bound ≤ q.bound = ltb-false q.bound (max q.bound o.bound) same in
    record {
      count = omega (arith, short, cut, most, kept);
      bound = omega (arith, low, high);
    }

brings_none : (net : NetView) (number place : ℕ) (e : Edge) (engine : EngineView) (intake : IntakeView) → Brings number e Idle net net → source_of net.plan e ≡ Some place → slice_get net.engines place ≡ Some engine → slice_get net.intakes e.node ≡ Some intake
    → e.port < ports_in intake.waits → IsJoined engine e intake → HasAllCome (output_at engine e) (port_queue intake.waits e.port)
brings_none net number place e engine intake b from at to there joined =
    let same_place : b.place ≡ place = same_Some b.place place (sym b.from ∙ from) in
    let same_engine : b.engine ≡ engine = same_Some b.engine engine (sym b.at ∙ ap (λ (k : ℕ). slice_get net.engines k) same_place ∙ at) in
    let same_intake : b.intake ≡ intake = same_Some b.intake intake (sym b.to ∙ to) in
    let moved : Delivers b.answer (output_at engine e) e.port 4294967295 intake.waits b.intake_now.waits =
    subst (λ (i : IntakeView). Delivers b.answer (output_at engine e) e.port 4294967295 i.waits b.intake_now.waits) same_intake
    (subst (λ (g : EngineView). Delivers b.answer (output_at g e) e.port 4294967295 b.intake.waits b.intake_now.waits) same_engine b.moved) in
    came_all b.answer (output_at engine e) e.port intake.waits b.intake_now.waits b.effect_is there joined.came joined.kept moved

pub edge_rests : {laws : Laws} (job : LoggedJob laws) (net : NetView) (number place : ℕ) (e : Edge) (engine : EngineView) (intake : IntakeView) → StandsFor job net → IsRunning net → IsAtRest laws net → slice_get net.plan.edges number ≡ Some e → source_of net.plan e ≡ Some place
    → slice_get net.engines place ≡ Some engine → slice_get net.intakes e.node ≡ Some intake → HasAllCome (output_at engine e) (port_queue intake.waits e.port)
unfolding StandsFor
edge_rests {laws} job net number place e engine intake h running rest there from at to =
    let d = rest (Deliver number) (slice_get_within net.plan.edges number e there) in
    let same_edge : d.edge ≡ e = same_Some d.edge e (sym d.there ∙ there) in
    let ends = edge_ends net.plan (valid net (record { job = job; stands = h })) number e there in
    let lawful = intake_lawful job net e.node intake h running ends.0 to in
    let port = port_there job net number e intake h there lawful in
    let joined = h.edges e number place engine intake there from at to in
    elim d.delivered [
      | inl held ↦ absurd (none_throttled laws net (graph_input held.0.input) rest held.0.throttled)
      | inr brings ↦ brings_none net number place e engine intake (subst (λ (x : Edge). Brings number x Idle net net) same_edge brings.1) from at to port joined
    ]
