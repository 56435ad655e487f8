-- An edge of a net leads from the engine that writes its stream to the intake that reads it.
use Rattle.std.proofs.Common.{◌≡◌, ℕ, ◌+◌, ◌<◌, ◌≤◌, Bool, true, false, List, length, Option, Some, option_map, slice_get, nat_lt, ap, sym, refl, subst, ◌∙◌, arith}
use Rattle.std.proofs.lemmas.Bool.Decides.{nat_tests}
use Rattle.std.proofs.lemmas.List.{length-map}
use Rattle.std.proofs.lemmas.Option.{same_Some, slice_get_within}
use Rattle.mg_calc.specs.Rules.{Laws}
use Rattle.mg_calc.specs.declared.edge.Edge.{Edge}
use Rattle.mg_calc.specs.declared.plan.Plan.{Plan}
use Rattle.mg_calc.specs.declared.plan_stream.PlanStream.{PlanStream}
use Rattle.mg_calc.specs.declared.plan_stream.Producer.{Producer}
use Rattle.mg_calc.specs.declared.plan_stream.Producer.TheVariants.{Input, Node}
use Rattle.mg_calc.specs.Plan.{IsValid}
use Rattle.mg_node.specs.Views.{IntakeView, EngineView}
use Rattle.mg_node.specs.Job.{LoggedJob, ports_of}
use Rattle.mg_node.specs.Lawful.{Owner, of_node, of_input, LawfulIntake, LawfulEngine}
use Rattle.mg_node.specs.Ports.{ports_in}
use Rattle.mg_node.specs.Leading.{HasStream, Leads}
use Rattle.mg_node.proofs.Lemmas.{engine_known, input_known, intake_ports}
use Rattle.mg_sched.specs.Views.{NetView}
use Rattle.mg_sched.specs.Places.{place_of, source_of, first_edge}
use Rattle.mg_sched.specs.StandsFor.{StandsFor, StandsForSome, IsRunning}
use Rattle.mg_sched.proofs.Finding.{cell_at, found, valid, places, of_plan}
use Rattle.mg_sched.proofs.PlanEdges.{edge_ends, edge_place, edge_stream, first_edge_next, first_edge_within, ports_of_node}
use Rattle.mg_sched.proofs.PlanStreams.{WrittenBy, producer_there, number_of}

-- the intake of a consumer, whether or not its node is begun
pub intake_of : {laws : Laws} (job : LoggedJob laws) (net : NetView) (consumer : ℕ) (intake : IntakeView) → StandsFor job net → consumer ≤ length net.plan.nodes → slice_get net.intakes consumer ≡ Some intake → LawfulIntake job consumer intake
unfolding StandsFor
intake_of {laws} job net consumer intake h upto to = by_case (nat_lt consumer (length net.plan.nodes)) refl
  where
    by_case : (b : Bool) → nat_lt consumer (length net.plan.nodes) ≡ b → LawfulIntake job consumer intake
    by_case true is =
        let less : consumer < length net.plan.nodes = grind (arith, nat_tests, is) in
        let engines = h.engines in let work_queues = h.work_queues in
        let e = found net.engines consumer (omega (arith, less, engines)) in
        let d = found net.work_queues consumer (omega (arith, less, work_queues)) in
        (h.cells consumer e.0 intake d.0 e.1 to d.1).lawful_intake
    by_case false is =
        let same : consumer ≡ length net.plan.nodes = grind (arith, nat_tests, is, upto) in
        subst (λ (n : ℕ). LawfulIntake job n intake) (sym same) (h.collector intake (subst (λ (n : ℕ). slice_get net.intakes n ≡ Some intake) same to))

-- and of a net that runs
pub intake_lawful : {laws : Laws} (job : LoggedJob laws) (net : NetView) (consumer : ℕ) (intake : IntakeView) → StandsFor job net → IsRunning net → consumer ≤ length net.plan.nodes → slice_get net.intakes consumer ≡ Some intake → LawfulIntake job consumer intake
intake_lawful {laws} job net consumer intake h running upto to = intake_of job net consumer intake h upto to

-- the engine that writes an edge's stream
pub record WritesIt {laws : Laws} (job : LoggedJob laws) (e : Edge) (engine : EngineView) : Type 0 where
  pub owner : Owner
  pub lawful : LawfulEngine job owner engine
  pub leaves : HasStream engine e

by_producer : {laws : Laws} (job : LoggedJob laws) (net : NetView) (e : Edge) (p : Producer) (engine : EngineView) → StandsFor job net → IsRunning net → WrittenBy net.plan e.stream p → slice_get net.engines (place_of net.plan p) ≡ Some engine → WritesIt job e engine
unfolding StandsFor
by_producer {laws} job net e (Input i) engine h running w at =
    let lawful = h.inputs i engine at in
    let known = input_known job i engine lawful in
    let same = w.0 in let first = known.first in let one = known.one in
    record { owner = of_input i; lawful = lawful; leaves = record { from = omega (arith, same, first); below = omega (arith, same, first, one) } }
by_producer {laws} job net e (Node n port) engine h running w at =
    let within = slice_get_within net.plan.nodes n w.0 w.1 in
    let intakes = h.intakes in let work_queues = h.work_queues in
    let i = found net.intakes n (omega (arith, within, intakes)) in
    let d = found net.work_queues n (omega (arith, within, work_queues)) in
    let lawful = (cell_at job net n engine i.0 d.0 h running within at i.1 d.1).lawful_engine in
    let known = engine_known job n engine w.0 lawful (subst (λ (plan : Plan). slice_get plan.nodes n ≡ Some w.0) h.plan w.1) in
    let number = number_of engine.first (length w.0.outputs) port e.stream (ap (λ (ns : List ℕ). slice_get ns port) (sym known.set_up.first) ∙ w.2) in
    let less = number.0 in let is = number.1 in let long = known.outputs in
    record { owner = of_node n; lawful = lawful; leaves = record { from = omega (arith, is); below = omega (arith, is, less, long) } }

pub writes_stream : {laws : Laws} (job : LoggedJob laws) (net : NetView) (number place : ℕ) (e : Edge) (engine : EngineView) → StandsFor job net → IsRunning net → IsValid net.plan → slice_get net.plan.edges number ≡ Some e → source_of net.plan e ≡ Some place
    → slice_get net.engines place ≡ Some engine → WritesIt job e engine
writes_stream {laws} job net number place e engine h running valid at from found_at =
    let it = producer_there net.plan valid e.stream (edge_stream net.plan valid number e at) in
    let same : place_of net.plan it.0.producer ≡ place = same_Some _ place (sym (ap (λ (o : Option PlanStream). option_map (place_of net.plan) (option_map (λ s. s.producer) o)) it.1) ∙ from) in
    by_producer job net e it.0.producer engine h running it.2 (subst (λ (k : ℕ). slice_get net.engines k ≡ Some engine) (sym same) found_at)

pub leads : {laws : Laws} (net : NetView) (number place : ℕ) (e : Edge) (engine : EngineView) (intake : IntakeView) → StandsForSome laws net → IsRunning net → slice_get net.plan.edges number ≡ Some e → source_of net.plan e ≡ Some place → slice_get net.engines place ≡ Some engine
    → slice_get net.intakes e.node ≡ Some intake → Leads laws engine e intake
unfolding StandsFor
leads {laws} net number place e engine intake h running at from engine_at to =
    let ok = valid net h in
    let w = writes_stream h.job net number place e engine h.stands running ok at from engine_at in
    let ends = edge_ends net.plan ok number e at in
    record {
      job = h.job;
      owner = w.owner;
      lawful_engine = w.lawful;
      lawful_intake = intake_lawful h.job net e.node intake h.stands running ends.0 to;
      stream = subst (λ (plan : Plan). slice_get (ports_of plan e.node) e.port ≡ Some e.stream) h.stands.plan ends.1;
      leaves = w.leaves;
      held = (h.stands.edges e number place engine intake at from engine_at to).kept;
    }

-- the place of that engine is one of the net's
pub source_there : {laws : Laws} (net : NetView) (number place : ℕ) (e : Edge) → StandsForSome laws net → slice_get net.plan.edges number ≡ Some e → source_of net.plan e ≡ Some place → place < length net.engines
source_there {laws} net number place e h at from =
    let it = producer_there net.plan (valid net h) e.stream (edge_stream net.plan (valid net h) number e at) in
    let same : place_of net.plan it.0.producer ≡ place = same_Some _ place (sym (ap (λ (o : Option PlanStream). option_map (place_of net.plan) (option_map (λ s. s.producer) o)) it.1) ∙ from) in
    let long = (places net h).0 in
    let less = below it.0.producer it.2 in
    omega (arith, long, same, less)
  where
    below : (p : Producer) → WrittenBy net.plan e.stream p → place_of net.plan p < length net.plan.nodes + length net.plan.inputs
    below (Input i) w = (let less = w.1 in omega (arith, less))
    below (Node n port) w = (let less = slice_get_within net.plan.nodes n w.0 w.1 in omega (arith, less))

-- and so is that of the intake, and that of the port
pub target_there : {laws : Laws} (net : NetView) (number : ℕ) (e : Edge) → StandsForSome laws net → slice_get net.plan.edges number ≡ Some e → e.node < length net.intakes
target_there {laws} net number e h at = (let ends = (edge_ends net.plan (valid net h) number e at).0 in let long = (places net h).1 in omega (arith, ends, long))

-- there is a queue for each edge
pub queues_long : {laws : Laws} (net : NetView) → StandsForSome laws net → length net.limits.queues ≡ length net.plan.edges
queues_long {laws} net h = sym (length-map net.limits.queues (λ q. q.node)) ∙ ap length (of_plan net h).queues ∙ length-map net.plan.edges (λ x. x.node)

pub queue_there : {laws : Laws} (net : NetView) (number : ℕ) (e : Edge) → StandsForSome laws net → slice_get net.plan.edges number ≡ Some e → number < length net.limits.queues
queue_there {laws} net number e h at = (let within = slice_get_within net.plan.edges number e at in let same = queues_long net h in omega (arith, within, same))

pub queues_short : {laws : Laws} (net : NetView) → StandsForSome laws net → length net.limits.queues < 4294967296
queues_short {laws} net h = (let few = (valid net h).ranges.edges in let same = queues_long net h in omega (arith, few, same))

-- What holds of the port of an edge, of an intake that is lawful for the job.

pub port_there : {laws : Laws} (job : LoggedJob laws) (net : NetView) (number : ℕ) (e : Edge) (intake : IntakeView) → StandsFor job net → slice_get net.plan.edges number ≡ Some e → LawfulIntake job e.node intake → e.port < ports_in intake.waits
unfolding StandsFor
port_there {laws} job net number e intake h at lawful =
    let within = (edge_place net.plan (valid net (record { job = job; stands = h })) number e at).1 in
    let ports = intake_ports job e.node intake lawful in
    let same = ap (λ (plan : Plan). length (ports_of plan e.node)) h.plan in
    omega (arith, within, ports, same)

-- the intake to which an edge leads, after a delivery
pub still_lawful : {laws : Laws} (job : LoggedJob laws) (net : NetView) (number place : ℕ) (e : Edge) (engine : EngineView) (intake intake_now : IntakeView) → StandsFor job net → IsRunning net → slice_get net.plan.edges number ≡ Some e → source_of net.plan e ≡ Some place
    → slice_get net.engines place ≡ Some engine → slice_get net.intakes e.node ≡ Some intake
    → ((owner : Owner) → LawfulEngine job owner engine → LawfulIntake job e.node intake → slice_get (ports_of job.job.plan e.node) e.port ≡ Some e.stream → LawfulIntake job e.node intake_now)
    → LawfulIntake job e.node intake_now
unfolding StandsFor
still_lawful {laws} job net number place e engine intake intake_now h running at from engine_at to stays =
    let ok = valid net (record { job = job; stands = h }) in
    let w = writes_stream job net number place e engine h running ok at from engine_at in
    let ends = edge_ends net.plan ok number e at in
    stays w.owner w.lawful (intake_lawful job net e.node intake h running ends.0 to) (subst (λ (plan : Plan). slice_get (ports_of plan e.node) e.port ≡ Some e.stream) h.plan ends.1)

-- there is a queue for each port of a node
pub ports_fit : {laws : Laws} (net : NetView) (node : ℕ) (intake : IntakeView) (h : StandsForSome laws net) → node < length net.plan.nodes → LawfulIntake h.job node intake → first_edge net.plan node + ports_in intake.waits ≤ length net.limits.queues
unfolding StandsFor
ports_fit {laws} net node intake h less lawful =
    let at = found net.plan.nodes node less in
    let next = first_edge_next net.plan node at.0 at.1 in
    let within = first_edge_within net.plan (valid net h) (node + 1) in
    let ports = intake_ports h.job node intake lawful in
    let same = ap (λ (plan : Plan). length (ports_of plan node)) h.stands.plan in
    let is = ap length (ports_of_node net.plan node at.0 at.1) in
    let long = queues_long net h in
    omega (arith, next, within, ports, same, is, long)

pub all_ports_fit : {laws : Laws} (net : NetView) (node : ℕ) (intake : IntakeView) → StandsForSome laws net → node < length net.plan.nodes → slice_get net.intakes node ≡ Some intake → first_edge net.plan node + ports_in intake.waits ≤ length net.limits.queues
all_ports_fit {laws} net node intake h there at = ports_fit net node intake h there (intake_of h.job net node intake h.stands (omega (arith, there)) at)
