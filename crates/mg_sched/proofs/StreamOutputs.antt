-- The outputs of a net that stands for a job are those of its plan's streams, and its edges lead to ports that are there.
use Rattle.std.proofs.Common.{◌≡◌, ℕ, ◌+◌, ◌-◌, ◌<◌, ◌≤◌, Bool, true, false, List, length, replicate, get_or, Option, Some, option_map, slice_get, nat_lt, inl, inr, ap, sym, refl, subst, ◌∙◌, arith}
use Rattle.std.proofs.lemmas.Bool.{cases_lt}
use Rattle.std.proofs.lemmas.List.{length-replicate}
use Rattle.std.proofs.lemmas.Option.{none-some, same_Some, slice_get_within, slice_get_past, get_or_from_slice_get}
use Rattle.mg_value.specs.Payload.{Plain}
use Rattle.mg_stream.specs.Pool.{Backlog, empty_backlog}
use Rattle.mg_calc.specs.Rules.{Laws}
use Rattle.mg_calc.specs.declared.edge.Edge.{Edge}
use Rattle.mg_calc.specs.declared.plan.Plan.{Plan}
use Rattle.mg_calc.specs.declared.plan_node.PlanNode.{PlanNode}
use Rattle.mg_calc.specs.declared.plan_stream.PlanStream.{PlanStream}
use Rattle.mg_calc.specs.declared.plan_stream.Producer.{Producer}
use Rattle.mg_calc.specs.declared.plan_stream.Producer.TheVariants.{Input, Node}
use Rattle.mg_calc.specs.Equations.{sides_of}
use Rattle.mg_calc.specs.Plan.{IsValid}
use Rattle.mg_node.specs.Views.{IntakeView, EngineView}
use Rattle.mg_node.specs.Job.{LoggedJob}
use Rattle.mg_node.specs.Lawful.{LawfulIntake}
use Rattle.mg_node.specs.Begun.{LawfulUnbegun}
use Rattle.mg_node.proofs.Lemmas.{engine_known, input_known, unbegun_parts}
use Rattle.mg_sched.specs.Views.{NetView}
use Rattle.mg_sched.specs.Places.{place_of, source_of}
use Rattle.mg_sched.specs.StandsFor.{IsEngine, StandsFor, StandsForSome}
use Rattle.mg_sched.specs.Writers.{writer_at, output_of}
use Rattle.mg_sched.specs.Code.Outputs.{LaidAt, HasOutput, HaveOutputs, LeadToPorts}
use Rattle.mg_sched.proofs.Finding.{found, valid}
use Rattle.mg_sched.proofs.Carrying.{target_there, port_there}
use Rattle.mg_sched.proofs.PlanEdges.{edge_ends, edge_stream}
use Rattle.mg_sched.proofs.PlanStreams.{HasProducer, WrittenBy, number_of, output_number, node_streams, input_stream, producer_there}

-- an engine that isn't begun has laid nothing
pub record IsBare (node : PlanNode) (engine : EngineView) : Type 0 where
  pub first : engine.first ≡ get_or node.outputs 0 0
  pub outputs : engine.outputs ≡ replicate (length node.outputs) empty_backlog

pub bare : {laws : Laws} (job : LoggedJob laws) (n : ℕ) (node : PlanNode) (engine : EngineView) → slice_get job.job.plan.nodes n ≡ Some node → LawfulUnbegun job n engine → IsBare node engine
bare {laws} job n node engine there h = (let parts = unbegun_parts job n node (sides_of job.job node) engine there refl h in elim parts.unbegun [
  | inl fresh ↦ record { first = ap (λ (v : EngineView). v.first) fresh; outputs = ap (λ (v : EngineView). v.outputs) fresh }
  | inr opened ↦ record { first = ap (λ (v : EngineView). v.first) opened.is; outputs = ap (λ (v : EngineView). v.outputs) opened.is }
])

-- an engine has its node's outputs, whose streams are numbered
record HasNodes (node : PlanNode) (engine : EngineView) : Type 0 where
  pub numbers : (port s : ℕ) → slice_get node.outputs port ≡ Some s → s ≡ engine.first + port
  pub count : length engine.outputs ≡ length node.outputs

node_outputs : {laws : Laws} (job : LoggedJob laws) (b : Bool) (n : ℕ) (node : PlanNode) (engine : EngineView) → IsValid job.job.plan → slice_get job.job.plan.nodes n ≡ Some node → IsEngine job b n engine → HasNodes node engine
node_outputs {laws} job true n node engine ok there h =
    let known = engine_known job n engine node h there in
    record {
      numbers = λ port s at. (number_of engine.first (length node.outputs) port s (ap (λ (ns : List ℕ). slice_get ns port) (sym known.set_up.first) ∙ at)).1;
      count = known.outputs;
    }
node_outputs {laws} job false n node engine ok there h =
    let b = bare job n node engine there h in
    record {
      numbers = λ port s at.
          (let within = slice_get_within node.outputs port s at in
          let zeroth = found node.outputs 0 (omega (arith, within)) in
          let read = get_or_from_slice_get node.outputs 0 zeroth.0 0 zeroth.1 in
          let first = b.first in
          let here = (output_number job.job.plan ok n port s node there at).0 in
          let start = (output_number job.job.plan ok n 0 zeroth.0 node there zeroth.1).0 in
          omega (arith, read, first, here, start));
      count = ap (λ (bs : List (Backlog Plain)). length bs) b.outputs ∙ length-replicate (length node.outputs) empty_backlog;
    }

stream_below : (plan : Plan) (s : ℕ) (p : Producer) → writer_at plan s ≡ Some p → s < length plan.streams
stream_below plan s p at = elim (cases_lt s (length plan.streams)) [
  | inl less ↦ less
  | inr past ↦ absurd (none-some p (ap (λ (o : Option PlanStream). option_map (λ x. x.producer) o) (sym (slice_get_past plan.streams s past)) ∙ at))
]

-- a stream that is laid at an output is below the number of streams, and is written there
pub laid_below : (plan : Plan) (s place port : ℕ) → LaidAt plan s place port → s < length plan.streams
laid_below plan s place port at = stream_below plan s at.producer at.written

writer_is : (plan : Plan) (s : ℕ) (p : Producer) → HasProducer plan s p → writer_at plan s ≡ Some p
writer_is plan s p has = ap (λ (o : Option PlanStream). option_map (λ x. x.producer) o) has.1 ∙ ap Some has.2

laid_written : (plan : Plan) (s place port : ℕ) → IsValid plan → (at : LaidAt plan s place port) → WrittenBy plan s at.producer
laid_written plan s place port ok at =
    let it = producer_there plan ok s (laid_below plan s place port at) in
    subst (WrittenBy plan s) (same_Some it.0.producer at.producer (sym (ap (λ (o : Option PlanStream). option_map (λ x. x.producer) o) it.1) ∙ at.written)) it.2

engine_of_node : {laws : Laws} (job : LoggedJob laws) (net : NetView) (n : ℕ) (engine : EngineView) → StandsFor job net → n < length net.plan.nodes → slice_get net.engines n ≡ Some engine → IsEngine job (nat_lt n net.begun) n engine
unfolding StandsFor
engine_of_node {laws} job net n engine h within at =
    let intakes = h.intakes in let work_queues = h.work_queues in
    let i = found net.intakes n (omega (arith, within, intakes)) in
    let d = found net.work_queues n (omega (arith, within, work_queues)) in
    (h.cells n engine i.0 d.0 at i.1 d.1).lawful_engine

outputs_of_node : {laws : Laws} (job : LoggedJob laws) (net : NetView) (n : ℕ) (node : PlanNode) (engine : EngineView) → StandsFor job net → slice_get net.plan.nodes n ≡ Some node → slice_get net.engines n ≡ Some engine → HasNodes node engine
unfolding StandsFor
outputs_of_node {laws} job net n node engine h there at =
    node_outputs job (nat_lt n net.begun) n node engine h.is_job.plan (subst (λ (plan : Plan). slice_get plan.nodes n ≡ Some node) h.plan there) (engine_of_node job net n engine h (slice_get_within net.plan.nodes n node there) at)

place_within : {laws : Laws} (job : LoggedJob laws) (net : NetView) (s : ℕ) (p : Producer) → StandsFor job net → WrittenBy net.plan s p → place_of net.plan p < length net.engines
unfolding StandsFor
place_within {laws} job net s (Input i) h w = (let long = h.engines in let less = w.1 in omega (arith, long, less))
place_within {laws} job net s (Node n port) h w = (let long = h.engines in let less = slice_get_within net.plan.nodes n w.0 w.1 in omega (arith, long, less))

output_by : {laws : Laws} (job : LoggedJob laws) (net : NetView) (s port : ℕ) (p : Producer) (engine : EngineView) → StandsFor job net → WrittenBy net.plan s p → output_of p ≡ port → slice_get net.engines (place_of net.plan p) ≡ Some engine → HasOutput s port engine
unfolding StandsFor
output_by {laws} job net s port (Input i) engine h w is at =
    let known = input_known job i engine (h.inputs i engine at) in
    let same = w.0 in let first = known.first in let one = known.one in
    let zeroth : 0 ≡ port = is in
    record { stream_is = omega (arith, same, first, zeroth); within = omega (arith, one, zeroth) }
output_by {laws} job net s port (Node n own) engine h w is at =
    let has = outputs_of_node job net n w.0 engine h w.1 at in
    let number = has.numbers own s w.2 in
    let less = slice_get_within w.0.outputs own s w.2 in
    let count = has.count in
    let same : own ≡ port = is in
    record { stream_is = omega (arith, number, same); within = omega (arith, less, count, same) }

each_output : {laws : Laws} (job : LoggedJob laws) (net : NetView) (place port : ℕ) (engine : EngineView) → IsValid net.plan → StandsFor job net → slice_get net.engines place ≡ Some engine → port < length engine.outputs → LaidAt net.plan (engine.first + port) place port
unfolding StandsFor
each_output {laws} job net place port engine ok h at within = elim (cases_lt place (length net.plan.nodes)) [
  | inl less ↦
      (let node = found net.plan.nodes place less in
      let has = outputs_of_node job net place node.0 engine h node.1 at in
      let count = has.count in
      let own = found node.0.outputs port (omega (arith, within, count)) in
      let number = has.numbers port own.0 own.1 in
      let written = node_streams net.plan ok place port (engine.first + port) node.0 node.1 (own.1 ∙ ap Some number) in
      record {
        producer = Node place port;
        written = writer_is net.plan (engine.first + port) (Node place port) written;
        place_is = refl;
        port_is = refl;
      })
  | inr past ↦
      (let i : ℕ = place - length net.plan.nodes in
      let is : place ≡ length net.plan.nodes + i = omega (arith, past) in
      let long = h.engines in
      let below = slice_get_within net.engines place engine at in
      let known = input_known job i engine (h.inputs i engine (subst (λ (k : ℕ). slice_get net.engines k ≡ Some engine) is at)) in
      let first = known.first in let one = known.one in
      let same : i ≡ engine.first + port = omega (arith, first, one, within) in
      let written = input_stream net.plan ok i (omega (arith, long, below, is)) in
      record {
        producer = Input i;
        written = ap (writer_at net.plan) (sym same) ∙ writer_is net.plan i (Input i) written;
        place_is = sym is;
        port_is = omega (arith, one, within);
      })
]

pub have_outputs : {laws : Laws} (job : LoggedJob laws) (net : NetView) → StandsFor job net → HaveOutputs net.plan net.engines
have_outputs {laws} job net h =
    let ok = valid net (record { job = job; stands = h }) in
    record {
      place = λ s place port at. subst (λ (k : ℕ). k < length net.engines) at.place_is (place_within job net s at.producer h (laid_written net.plan s place port ok at));
      output = λ s place port engine at there. output_by job net s port at.producer engine h (laid_written net.plan s place port ok at) at.port_is (subst (λ (k : ℕ). slice_get net.engines k ≡ Some engine) (sym at.place_is) there);
      each = λ place port engine at within. each_output job net place port engine ok h at within;
    }

-- the output of the stream of an edge, at the place from which the edge leads
pub edge_laid : (plan : Plan) (number place : ℕ) (e : Edge) → IsValid plan → slice_get plan.edges number ≡ Some e → source_of plan e ≡ Some place → (port : ℕ) × LaidAt plan e.stream place port
edge_laid plan number place e ok at from =
    let it = producer_there plan ok e.stream (edge_stream plan ok number e at) in
    let written : writer_at plan e.stream ≡ Some it.0.producer = ap (λ (o : Option PlanStream). option_map (λ x. x.producer) o) it.1 in (
      output_of it.0.producer,
      record {
        producer = it.0.producer;
        written = written;
        place_is = same_Some _ place (sym (ap (λ (o : Option Producer). option_map (place_of plan) o) written) ∙ from);
        port_is = refl;
      },
    )

-- the intake of a consumer is lawful, whether the nodes are begun or not
intake_of : {laws : Laws} (job : LoggedJob laws) (net : NetView) (consumer : ℕ) (intake : IntakeView) → StandsFor job net → consumer ≤ length net.plan.nodes → slice_get net.intakes consumer ≡ Some intake → LawfulIntake job consumer intake
unfolding StandsFor
intake_of {laws} job net consumer intake h upto to = elim (cases_lt consumer (length net.plan.nodes)) [
  | inl less ↦
      (let engines = h.engines in let work_queues = h.work_queues in
      let e = found net.engines consumer (omega (arith, less, engines)) in
      let d = found net.work_queues consumer (omega (arith, less, work_queues)) in
      (h.cells consumer e.0 intake d.0 e.1 to d.1).lawful_intake)
  | inr past ↦
      (let same : consumer ≡ length net.plan.nodes = omega (arith, upto, past) in
      subst (λ (n : ℕ). LawfulIntake job n intake) (sym same) (h.collector intake (subst (λ (n : ℕ). slice_get net.intakes n ≡ Some intake) same to)))
]

pub lead_to_ports : {laws : Laws} (net : NetView) → StandsForSome laws net → LeadToPorts (length net.plan.streams) net.plan.edges net.intakes
lead_to_ports {laws} net h =
    let ok = valid net h in
    record {
      stream = λ number e at. edge_stream net.plan ok number e at;
      node = λ number e at. target_there net number e h at;
      port = λ number e intake at to. port_there h.job net number e intake h.stands at (intake_of h.job net e.node intake h.stands (edge_ends net.plan ok number e at).0 to);
    }
