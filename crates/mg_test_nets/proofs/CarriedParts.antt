-- A delivery along an edge between parts of one net leaves them parts of one net.
use Rattle.std.proofs.Common.{◌≡◌, ℕ, ◌+◌, ◌-◌, ◌<◌, List, length, length-set, set, Some, get_or, slice_get, inl, inr, ap, sym, subst, ◌∙◌, arith}
use Rattle.std.proofs.lemmas.Bool.{cases_eq, cases_lt}
use Rattle.std.proofs.lemmas.Option.{slice_get_within, slice_get-get_or}
use Rattle.mg_value.specs.Payload.{Plain}
use Rattle.mg_value.specs.Packet.{Stamped}
use Rattle.mg_stream.specs.Queue.{IsLike, count_of}
use Rattle.mg_calc.specs.Rules.{Laws}
use Rattle.mg_calc.specs.declared.edge.Edge.{Edge}
use Rattle.mg_calc.specs.declared.plan.Plan.{Plan}
use Rattle.mg_calc.specs.Plan.{IsValid}
use Rattle.mg_node.specs.declared.delivered.Delivered.{Delivered}
use Rattle.mg_node.specs.Views.{IntakeView, EngineView}
use Rattle.mg_node.specs.Job.{LoggedJob, ports_of}
use Rattle.mg_node.specs.Ports.{port_queue}
use Rattle.mg_node.specs.Lawful.{Owner, of_node, of_input, LawfulIntake, LawfulEngine, Agree, AgreeBy}
use Rattle.mg_node.specs.IntakeStanding.{IntakeGrows}
use Rattle.mg_node.specs.Delivery.{Delivers}
use Rattle.mg_node.specs.Leading.{output_at, HasStream, Leads}
use Rattle.mg_node.proofs.Lemmas.{get_other, intake_ports, leads_one, leads_port, put_there, some_same}
use Rattle.mg_sched.specs.Places.{source_of}
use Rattle.mg_sched.specs.StandsFor.{IsJoined}
use Rattle.mg_sched.specs.ComesApart.{RestView, PartsView, ArePartsOf, AreParts}
use Rattle.mg_sched.proofs.ArrivesWithin.{arrives_within, others_like}
use Rattle.mg_sched.proofs.EdgesInPlace.{in_place}
use Rattle.mg_sched.proofs.Finding.{no_edge}

abbrev pub parts_by : Plan → List EngineView → List IntakeView → RestView → PartsView
parts_by plan engines intakes rest = record { plan = plan; engines = engines; intakes = intakes; rest = rest }

-- An engine is lawful at its place.

pub record IsOwned {laws : Laws} (job : LoggedJob laws) (engine : EngineView) : Type 0 where
  pub owner : Owner
  pub lawful : LawfulEngine job owner engine

owned : {laws : Laws} (job : LoggedJob laws) (parts : PartsView) (place : ℕ) (engine : EngineView) → ArePartsOf job parts → slice_get parts.engines place ≡ Some engine → IsOwned job engine
owned {laws} job parts place engine h at = elim (cases_lt place (length parts.plan.nodes)) [
  | inl low ↦ record { owner = of_node place; lawful = h.engines place engine low at }
  | inr high ↦
      (let input = place - length parts.plan.nodes in
      let is : place ≡ length parts.plan.nodes + input = omega (arith, high) in
      record { owner = of_input input; lawful = h.inputs input engine (ap (slice_get parts.engines) (sym is) ∙ at) })
]

-- What a delivery did to an intake.

pub record IsCarried (laws : Laws) (engine : EngineView) (e : Edge) (intake intake_now : IntakeView) : Type 0 where
  pub answer : Delivered
  pub moved : Delivers answer (output_at engine e) e.port 4294967295 intake.waits intake_now.waits
  pub claimed : intake_now.claimed ≡ intake.claimed
  pub grows : IntakeGrows intake intake_now
  pub lawful : (job : LoggedJob laws) (owner : Owner) → LawfulEngine job owner engine → LawfulIntake job e.node intake → slice_get (ports_of job.job.plan e.node) e.port ≡ Some e.stream → LawfulIntake job e.node intake_now

-- What parts of one net tell of an edge.

pub valid_parts : {laws : Laws} (parts : PartsView) → AreParts laws parts → IsValid parts.plan
valid_parts {laws} parts h = subst IsValid (sym h.parts_of.plan) h.parts_of.is_job.plan

pub source_there : {laws : Laws} (parts : PartsView) (number place : ℕ) (e : Edge) → AreParts laws parts → slice_get parts.plan.edges number ≡ Some e → source_of parts.plan e ≡ Some place → place < length parts.engines
source_there {laws} parts number place e h at from =
    let it = in_place h.job parts number e h.parts_of at in
    let same = some_same (source_of parts.plan e) place it.place from it.from in
    let within = slice_get_within parts.engines it.place it.engine it.at in
    omega (arith, same, within)

pub target_there : {laws : Laws} (parts : PartsView) (number : ℕ) (e : Edge) → AreParts laws parts → slice_get parts.plan.edges number ≡ Some e → e.node < length parts.intakes
target_there {laws} parts number e h at = (let it = in_place h.job parts number e h.parts_of at in slice_get_within parts.intakes e.node it.intake it.to)

stream_at : {laws : Laws} (job : LoggedJob laws) (parts : PartsView) (number : ℕ) (e : Edge) → ArePartsOf job parts → slice_get parts.plan.edges number ≡ Some e → slice_get (ports_of job.job.plan e.node) e.port ≡ Some e.stream
stream_at {laws} job parts number e h at = subst (λ (plan : Plan). slice_get (ports_of plan e.node) e.port ≡ Some e.stream) h.plan (in_place job parts number e h at).port

leads_of : {laws : Laws} (job : LoggedJob laws) (parts : PartsView) (number place : ℕ) (e : Edge) (engine : EngineView) (intake : IntakeView) → ArePartsOf job parts → slice_get parts.plan.edges number ≡ Some e → source_of parts.plan e ≡ Some place
    → slice_get parts.engines place ≡ Some engine → slice_get parts.intakes e.node ≡ Some intake → Leads laws engine e intake
leads_of {laws} job parts number place e engine intake h at from at_engine to =
    let it = in_place job parts number e h at in
    let place_is : it.place ≡ place = some_same (source_of parts.plan e) it.place place it.from from in
    let engine_is : it.engine ≡ engine = some_same (slice_get parts.engines place) it.engine engine (ap (slice_get parts.engines) (sym place_is) ∙ it.at) at_engine in
    let own = owned job parts place engine h at_engine in
    record {
      job = job;
      owner = own.owner;
      lawful_engine = own.lawful;
      lawful_intake = h.intakes e.node intake to;
      stream = stream_at job parts number e h at;
      leaves = subst (λ (g : EngineView). HasStream g e) engine_is it.leaves;
      held = (h.edges e number place engine intake at from at_engine to).kept;
    }

pub leads : {laws : Laws} (parts : PartsView) (number place : ℕ) (e : Edge) (engine : EngineView) (intake : IntakeView) → AreParts laws parts → slice_get parts.plan.edges number ≡ Some e → source_of parts.plan e ≡ Some place
    → slice_get parts.engines place ≡ Some engine → slice_get parts.intakes e.node ≡ Some intake → Leads laws engine e intake
leads {laws} parts number place e engine intake h at from at_engine to = leads_of h.job parts number place e engine intake h.parts_of at from at_engine to

-- an edge that is read by its number
pub edge_there : (edges shown : List Edge) (number : ℕ) → shown ≡ edges → number < length edges → slice_get edges number ≡ Some (get_or shown number no_edge)
edge_there edges shown number same less = slice_get-get_or edges number no_edge less ∙ ap (λ (es : List Edge). Some (get_or es number no_edge)) (sym same)

-- The edges after the delivery.

-- another edge to the same consumer stays joined
like_joined : (g : EngineView) (x : Edge) (intake now : IntakeView) → IsLike (port_queue now.waits x.port) (port_queue intake.waits x.port) → IsJoined g x intake → IsJoined g x now
like_joined g x intake now like h =
    let count : count_of (port_queue now.waits x.port) ≡ count_of (port_queue intake.waits x.port) = (let gone = like.gone in let long = ap (λ (ps : List (Stamped Plain)). length ps) like.packets in omega (arith, gone, long)) in
    let bound = like.bound in
    let came = h.came.count in
    let low = h.came.bound in
    let kept = h.kept in
    record { came = record { count = omega (arith, count, came); bound = omega (arith, bound, low) }; kept = omega (arith, count, kept) }

-- the edge itself stays joined too
own_joined : {laws : Laws} (engine : EngineView) (e : Edge) (intake now : IntakeView) → Leads laws engine e intake → IsCarried laws engine e intake now → IsJoined engine e intake → IsJoined engine e now
own_joined {laws} engine e intake now lead c h =
    let kept = h.kept in
    let more = (c.grows.ports e.port).count in
    record {
      came = arrives_within c.answer (output_at engine e) e.port 4294967295 intake.waits now.waits (leads_one engine e intake lead) (leads_port engine e intake lead) h.came c.moved;
      kept = omega (arith, kept, more);
    }

edge_joined : {laws : Laws} (job : LoggedJob laws) (parts : PartsView) (number place : ℕ) (e : Edge) (engine : EngineView) (intake now : IntakeView) → ArePartsOf job parts → slice_get parts.plan.edges number ≡ Some e → source_of parts.plan e ≡ Some place
    → slice_get parts.engines place ≡ Some engine → slice_get parts.intakes e.node ≡ Some intake → IsCarried laws engine e intake now
    → (x : Edge) (k from : ℕ) (g : EngineView) → slice_get parts.plan.edges k ≡ Some x → source_of parts.plan x ≡ Some from → slice_get parts.engines from ≡ Some g → x.node ≡ e.node → IsJoined g x now
edge_joined {laws} job parts number place e engine intake now h at source at_engine to c x k from g at_x from_x at_g here =
    let lead = leads_of job parts number place e engine intake h at source at_engine to in
    let before : IsJoined g x intake = h.edges x k from g intake at_x from_x at_g (ap (slice_get parts.intakes) here ∙ to) in
    elim (cases_eq x.port e.port) [
      | inl port ↦
          (let same : k ≡ number = (in_place job parts number e h at).alone k x at_x here port in
          let is : x ≡ e = some_same (slice_get parts.plan.edges number) x e (ap (slice_get parts.plan.edges) (sym same) ∙ at_x) at in
          let place_is : from ≡ place = some_same (source_of parts.plan e) from place (ap (source_of parts.plan) (sym is) ∙ from_x) source in
          let engine_is : g ≡ engine = some_same (slice_get parts.engines place) g engine (ap (slice_get parts.engines) (sym place_is) ∙ at_g) at_engine in
          subst (λ (y : Edge). IsJoined g y now) (sym is)
          (subst (λ (v : EngineView). IsJoined v e now) (sym engine_is)
          (own_joined engine e intake now lead c (h.edges e number place engine intake at source at_engine to))))
      | inr other ↦
          (let ports = intake_ports job e.node intake (h.intakes e.node intake to) ∙ ap (λ (p : Plan). length (ports_of p e.node)) (sym h.plan) in
          let long = ap (λ (n : ℕ). length (ports_of parts.plan n)) here in
          let within = slice_get_within (ports_of parts.plan x.node) x.port x.stream (in_place job parts k x h at_x).port in
          like_joined g x intake now
          (others_like c.answer (output_at engine e) e.port 4294967295 intake.waits now.waits x.port other (leads_port engine e intake lead) (omega (arith, within, long, ports)) c.moved)
          before)
    ]

-- The parts after the delivery.

pub carried : {laws : Laws} (job : LoggedJob laws) (plan : Plan) (engines : List EngineView) (intakes : List IntakeView) (rest : RestView) (number place : ℕ) (e : Edge) (engine : EngineView) (intake now : IntakeView)
    → ArePartsOf job (parts_by plan engines intakes rest) → slice_get plan.edges number ≡ Some e → source_of plan e ≡ Some place → slice_get engines place ≡ Some engine → slice_get intakes e.node ≡ Some intake → IsCarried laws engine e intake now
    → ArePartsOf job (parts_by plan engines (set intakes e.node now) rest)
carried {laws} job plan engines intakes rest number place e engine intake now h at source at_engine to c =
    let parts = parts_by plan engines intakes rest in
    let owner = owned job parts place engine h at_engine in
    let lawful : LawfulIntake job e.node now = c.lawful job owner.owner owner.lawful (h.intakes e.node intake to) (stream_at job parts number e h at) in
    let own : (k : ℕ) (i : IntakeView) → k ≡ e.node → slice_get (set intakes e.node now) k ≡ Some i → i ≡ now = λ k i here there.
    put_there intakes e.node now i (ap (slice_get (set intakes e.node now)) (sym here) ∙ there) in
    record {
      is_job = h.is_job;
      plan = h.plan;
      engine_count = h.engine_count;
      intake_count = length-set intakes e.node now ∙ h.intake_count;
      engines = h.engines;
      inputs = h.inputs;
      intakes = λ k i there. elim (cases_eq k e.node) [
        | inl here ↦ subst (λ (v : IntakeView). LawfulIntake job k v) (sym (own k i here there)) (subst (λ (n : ℕ). LawfulIntake job n now) (sym here) lawful)
        | inr other ↦ h.intakes k i (sym (get_other intakes e.node k now other) ∙ there)
      ];
      agree = λ node g i less at_g there. elim (cases_eq node e.node) [
        | inl here ↦
            (let agree = h.agree node g intake less at_g (ap (slice_get intakes) here ∙ to) in
            subst (λ (v : IntakeView). Agree g v) (sym (own node i here there)) (subst (λ (n : ℕ). AgreeBy g.role g.claimed n) (sym c.claimed) agree))
        | inr other ↦ h.agree node g i less at_g (sym (get_other intakes e.node node now other) ∙ there)
      ];
      none_out = h.none_out;
      edges = λ x k from g i at_x from_x at_g there. elim (cases_eq x.node e.node) [
        | inl here ↦
            subst (λ (v : IntakeView). IsJoined g x v) (sym (own x.node i here there))
            (edge_joined job parts number place e engine intake now h at source at_engine to c x k from g at_x from_x at_g here)
        | inr other ↦ h.edges x k from g i at_x from_x at_g (sym (get_other intakes e.node x.node now other) ∙ there)
      ];
      rest = h.rest;
    }

-- A net that lies apart: its plan is seen as it is kept.

pub some_parts : {laws : Laws} (job : LoggedJob laws) (plan shown : Plan) (engines : List EngineView) (intakes : List IntakeView) (rest : RestView) → shown ≡ plan → ArePartsOf job (parts_by plan engines intakes rest)
    → (r : RestView) × AreParts laws (parts_by shown engines intakes r)
some_parts {laws} job plan shown engines intakes rest is h = (rest, record { job = job; parts_of = subst (λ (p : Plan). ArePartsOf job (parts_by p engines intakes rest)) (sym is) h })

pub still_parts : {laws : Laws} (job : LoggedJob laws) (plan shown : Plan) (engines : List EngineView) (intakes now : List IntakeView) (rest : RestView) → shown ≡ plan
    → ((other : LoggedJob laws) (r : RestView) → ArePartsOf other (parts_by shown engines intakes r) → ArePartsOf other (parts_by shown engines now r))
    → ArePartsOf job (parts_by plan engines intakes rest) → ArePartsOf job (parts_by plan engines now rest)
still_parts {laws} job plan shown engines intakes now rest is keeps h =
    subst (λ (p : Plan). ArePartsOf job (parts_by p engines now rest)) is
    (keeps job rest (subst (λ (p : Plan). ArePartsOf job (parts_by p engines intakes rest)) (sym is) h))

pub still_some : {laws : Laws} (job : LoggedJob laws) (plan : Plan) (engines : List EngineView) (intakes : List IntakeView) (rest : RestView) → ArePartsOf job (parts_by plan engines intakes rest) → AreParts laws (parts_by plan engines intakes rest)
still_some {laws} job plan engines intakes rest h = record { job = job; parts_of = h }
