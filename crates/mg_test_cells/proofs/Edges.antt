-- Edges of a cell: from the engine of a graph input to its intake, and from its engine to the collector's intake.
use Rattle.std.proofs.Common.{◌≡◌, ℕ, zero, suc, ◌-◌, ◌<◌, ◌≤◌, false, List, length, Option, Some, unwrap_or, option_map, slice_get, sym, ap, ◌∙◌, arith}
use Rattle.std.specs.List.{range_with_len}
use Rattle.std.proofs.lemmas.Option.{slice_get_past}
use Rattle.mg_calc.specs.Rules.{Laws}
use Rattle.mg_calc.specs.declared.edge.Edge.{Edge}
use Rattle.mg_calc.specs.declared.plan.Plan.{Plan}
use Rattle.mg_calc.specs.declared.plan_node.PlanNode.{PlanNode}
use Rattle.mg_calc.specs.declared.inputs.Inputs.{Inputs}
use Rattle.mg_node.specs.Views.{IntakeView, EngineView}
use Rattle.mg_node.specs.Job.{LoggedJob, ports_of}
use Rattle.mg_node.specs.Lawful.{of_node, of_input, LawfulEngine, LawfulIntake}
use Rattle.mg_node.specs.Leading.{Leads}
use Rattle.mg_node.proofs.Knowing.{engine_known}
use Rattle.mg_test_cells.specs.Cell.{job_of, KeepsAll, IsCell}
use Rattle.mg_test_cells.proofs.Keeping.{none_gone}

abbrev pub edge_of : ℕ → ℕ → ℕ → Edge
edge_of stream node port = record { stream = stream; node = node; port = port; back = false }

-- the stream at a port of the first node, and at one of the collector
pub node_stream : (plan : Plan) (node : PlanNode) (port stream : ℕ) → slice_get plan.nodes 0 ≡ Some node → slice_get node.inputs port ≡ Some stream → slice_get (ports_of plan 0) port ≡ Some stream
node_stream plan node port stream there at = ap (λ (o : Option PlanNode). slice_get (unwrap_or (option_map (λ n. n.inputs) o) plan.outputs) port) there ∙ at

pub out_stream : (plan : Plan) (port stream : ℕ) → slice_get plan.outputs port ≡ Some stream → slice_get (ports_of plan (length plan.nodes)) port ≡ Some stream
out_stream plan port stream at = ap (λ (o : Option PlanNode). slice_get (unwrap_or (option_map (λ n. n.inputs) o) plan.outputs) port) (slice_get_past plan.nodes (length plan.nodes) (omega arith)) ∙ at

first_of_row : (a n first : ℕ) → slice_get (range_with_len a n) 0 ≡ Some first → a ≡ first
first_of_row a zero first e = absurd cc
first_of_row a (suc n) first e = cc

-- the first output's stream
pub first_is : {laws : Laws} (job : LoggedJob laws) (engine : EngineView) (node : PlanNode) (first : ℕ) → LawfulEngine job (of_node 0) engine → slice_get job.job.plan.nodes 0 ≡ Some node → slice_get node.outputs 0 ≡ Some first → engine.first ≡ first
first_is {laws} job engine node first h there at =
    let known = engine_known job 0 engine node h there in
    first_of_row engine.first (length node.outputs) first (ap (λ (ns : List ℕ). slice_get ns 0) (sym known.set_up.first) ∙ at)

pub feed_leads : {laws : Laws} (plan : Plan) (inputs : Inputs) (engine feed : EngineView) (intake sink : IntakeView) (node : PlanNode) (port stream : ℕ) → IsCell laws plan inputs engine intake sink → slice_get plan.nodes 0 ≡ Some node → slice_get node.inputs port ≡ Some stream
    → LawfulEngine (job_of laws plan inputs) (of_input stream) feed → feed.first ≡ stream → length feed.outputs ≡ 1 → KeepsAll feed → Leads laws feed (edge_of stream 0 port) intake
feed_leads {laws} plan inputs engine feed intake sink node port stream c there at lawful first one keeps =
    let none = none_gone feed (stream - feed.first) keeps in
    record {
      job = job_of laws plan inputs;
      owner = of_input stream;
      lawful_engine = lawful;
      lawful_intake = c.lawful_intake;
      stream = node_stream plan node port stream there at;
      leaves = record { from = omega (arith, first); below = omega (arith, first, one) };
      held = omega (arith, none);
    }

pub out_leads : {laws : Laws} (plan : Plan) (inputs : Inputs) (engine : EngineView) (intake sink : IntakeView) (node : PlanNode) (first port stream : ℕ) → IsCell laws plan inputs engine intake sink → slice_get plan.nodes 0 ≡ Some node → slice_get node.outputs 0 ≡ Some first
    → slice_get plan.outputs port ≡ Some stream → first ≤ stream → stream - first < length engine.outputs → Leads laws engine (edge_of stream (length plan.nodes) port) sink
out_leads {laws} plan inputs engine intake sink node first port stream c there at out from below =
    let none = none_gone engine (stream - engine.first) c.keeps in
    let same : engine.first ≡ first = first_is (job_of laws plan inputs) engine node first c.lawful_engine there at in
    record {
      job = job_of laws plan inputs;
      owner = of_node 0;
      lawful_engine = c.lawful_engine;
      lawful_intake = c.lawful_sink;
      stream = out_stream plan port stream out;
      leaves = record { from = omega (arith, same, from); below = omega (arith, same, from, below) };
      held = omega (arith, none);
    }

pub sunk_cell : {laws : Laws} (plan : Plan) (inputs : Inputs) (engine : EngineView) (intake sink sink_now : IntakeView) → IsCell laws plan inputs engine intake sink → LawfulIntake (job_of laws plan inputs) (length plan.nodes) sink_now → IsCell laws plan inputs engine intake sink_now
sunk_cell {laws} plan inputs engine intake sink sink_now c lawful = record { is_job = c.is_job; lawful_engine = c.lawful_engine; lawful_intake = c.lawful_intake; agree = c.agree; lawful_sink = lawful; keeps = c.keeps }
