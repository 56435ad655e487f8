-- A delivery keeps what a net stands for.
use Rattle.std.proofs.Common.{◌≡◌, ◌≢◌, ℕ, ◌<◌, List, length, Some, slice_get, inl, inr, ap, sym, subst, ◌∙◌, arith}
use Rattle.std.proofs.lemmas.Bool.{cases_eq}
use Rattle.mg_value.specs.Payload.{Plain}
use Rattle.mg_value.specs.Packet.{Stamped}
use Rattle.mg_stream.specs.Queue.{IsLike, count_of}
use Rattle.mg_calc.specs.Rules.{Laws}
use Rattle.mg_calc.specs.declared.edge.Edge.{Edge}
use Rattle.mg_calc.specs.declared.event.Effect.{Effect}
use Rattle.mg_calc.specs.declared.plan.Plan.{Plan}
use Rattle.mg_calc.specs.Plan.{IsValid}
use Rattle.mg_node.specs.Views.{IntakeView, EngineView}
use Rattle.mg_node.specs.Job.{LoggedJob, ports_of}
use Rattle.mg_node.specs.Ports.{port_queue}
use Rattle.mg_node.specs.IntakeStanding.{IntakeGrows}
use Rattle.mg_node.specs.Leading.{output_at}
use Rattle.mg_node.proofs.Lemmas.{deliver_grows, delivery_lawful, intake_ports, leads_one, leads_port, some_same}
use Rattle.mg_sched.specs.Views.{NetView}
use Rattle.mg_sched.specs.Places.{source_of, first_edge}
use Rattle.mg_sched.specs.StandsFor.{IsJoined, IsNetOf, StandsFor, IsRunning}
use Rattle.mg_sched.specs.Acts.{Brings, DeliversAlong}
use Rattle.mg_sched.proofs.EdgePlaces.{edge_placed}
use Rattle.mg_sched.proofs.Changed.{arrival_stands}
use Rattle.mg_sched.proofs.LimitsKnow.{arrival_knows}
use Rattle.mg_sched.proofs.ArrivesWithin.{arrives_within, others_like}
use Rattle.mg_sched.proofs.Carrying.{intake_lawful, leads, still_lawful}
use Rattle.mg_sched.proofs.RelaxKeeps.{rest_stands}

-- another edge to the same consumer stays joined
like_joined : (g : EngineView) (x : Edge) (intake now : IntakeView) → IsLike (port_queue now.waits x.port) (port_queue intake.waits x.port) → IsJoined g x intake → IsJoined g x now
like_joined g x intake now like h =
    let count : count_of (port_queue now.waits x.port) ≡ count_of (port_queue intake.waits x.port) = (let gone = like.gone in let long = ap (λ (ps : List (Stamped Plain)). length ps) like.packets in omega (arith, gone, long)) in
    let bound = like.bound in
    let came = h.came.count in
    let low = h.came.bound in
    let kept = h.kept in
    record { came = record { count = omega (arith, count, came); bound = omega (arith, bound, low) }; kept = omega (arith, count, kept) }

brings_stands : {laws : Laws} (job : LoggedJob laws) (number : ℕ) (e : Edge) (effect : Effect) (before now : NetView) → IsRunning before → StandsFor job before → slice_get before.plan.edges number ≡ Some e → Brings number e effect before now → StandsFor job now
unfolding StandsFor
brings_stands {laws} job number e effect before now running h at b =
    let valid : IsValid before.plan = subst IsValid (sym h.plan) h.is_job.plan in
    let placed = edge_placed before.plan number e valid at in
    let joined = h.edges e number b.place b.engine b.intake at b.from b.at b.to in
    let o = output_at b.engine e in
    let lead = leads before number b.place e b.engine b.intake (record { job = job; stands = h }) running at b.from b.at b.to in
    let one = leads_one b.engine e b.intake lead in
    let there = leads_port b.engine e b.intake lead in
    let lawful = still_lawful job before number b.place e b.engine b.intake b.intake_now h running at b.from b.at b.to
    (λ owner engine intake stream. delivery_lawful job owner b.engine e b.intake b.intake_now 4294967295 b.answer lead.leaves joined.kept engine intake stream b.moved b.claimed) in
    let grows : IntakeGrows b.intake b.intake_now = deliver_grows b.answer o e.port 4294967295 b.intake b.intake_now one b.moved b.claimed in
    let ports = intake_ports job e.node b.intake (intake_lawful job before e.node b.intake h running placed.node b.to) ∙ ap (λ (p : Plan). length (ports_of p e.node)) (sym h.plan) in
    let like : (port : ℕ) → port < length (ports_of before.plan e.node) → port ≢ e.port → IsLike (port_queue b.intake_now.waits port) (port_queue b.intake.waits port) = λ port within other.
    others_like b.answer o e.port 4294967295 b.intake.waits b.intake_now.waits port other there (omega (arith, within, ports)) b.moved in
    let own : IsJoined b.engine e b.intake_now = record {
      came = arrives_within b.answer o e.port 4294967295 b.intake.waits b.intake_now.waits one there joined.came b.moved;
      kept = (let kept = joined.kept in let more = (grows.ports e.port).count in omega (arith, kept, more));
    } in
    subst (λ (v : NetView). IsNetOf job v) (sym b.now_is)
    (arrival_stands job before e.node b.intake b.intake_now _ h b.to lawful b.claimed
    (λ x k from g at_x from_x at_g here j. elim (cases_eq k number) [
      | inl same ↦
          (let is : x ≡ e = some_same (slice_get before.plan.edges number) x e (ap (slice_get before.plan.edges) (sym same) ∙ at_x) at in
          let place_is : from ≡ b.place = some_same (source_of before.plan e) from b.place (ap (source_of before.plan) (sym is) ∙ from_x) b.from in
          let engine_is : g ≡ b.engine = some_same (slice_get before.engines b.place) g b.engine (ap (slice_get before.engines) (sym place_is) ∙ at_g) b.at in
          subst (λ (y : Edge). IsJoined g y b.intake_now) (sym is) (subst (λ (v : EngineView). IsJoined v e b.intake_now) (sym engine_is) own))
      | inr other ↦
          (let its = edge_placed before.plan k x valid at_x in
          let mine_is = placed.number_is in
          let its_is = its.number_is in
          let first = ap (first_edge before.plan) here in
          let within = its.within in
          let long = ap (λ (n : ℕ). length (ports_of before.plan n)) here in
          like_joined g x b.intake b.intake_now (like x.port (omega (arith, within, long)) (λ s. other (omega (arith, mine_is, its_is, first, s)))) j)
    ])
    (arrival_knows before number e b.intake b.intake_now valid h.limits at b.to (λ port within other. (like port within other).packets)))

pub deliver_stands : {laws : Laws} (job : LoggedJob laws) (number : ℕ) (effect : Effect) (before now : NetView) → IsRunning before → StandsFor job before → DeliversAlong number effect before now → StandsFor job now
deliver_stands {laws} job number effect before now running h d = elim d.delivered [
  | inl held ↦ rest_stands job effect before now h held.1
  | inr free ↦ brings_stands job number d.edge effect before now running h d.there free.1
]
