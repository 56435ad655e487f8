-- Each edge of the parts of one net leads from an engine that has the edge's stream. It leads to the port of that stream, and no two edges
-- lead to one port.
use Rattle.std.proofs.Common.{◌≡◌, ℕ, ◌+◌, ◌<◌, List, length, Option, Some, slice_get, option_map, ap, sym, subst, ◌∙◌, arith}
use Rattle.std.proofs.lemmas.Option.{slice_get_within}
use Rattle.mg_calc.specs.Rules.{Laws}
use Rattle.mg_calc.specs.declared.edge.Edge.{Edge}
use Rattle.mg_calc.specs.declared.plan.Plan.{Plan}
use Rattle.mg_calc.specs.declared.plan_stream.PlanStream.{PlanStream}
use Rattle.mg_calc.specs.declared.plan_stream.Producer.{Producer}
use Rattle.mg_calc.specs.declared.plan_stream.Producer.TheVariants.{Input, Node}
use Rattle.mg_calc.specs.Plan.{IsValid}
use Rattle.mg_node.specs.Views.{EngineView}
use Rattle.mg_node.specs.Job.{LoggedJob}
use Rattle.mg_node.specs.Leading.{HasStream}
use Rattle.mg_node.proofs.Lemmas.{engine_known, input_known}
use Rattle.mg_sched.specs.Places.{place_of, first_edge}
use Rattle.mg_sched.specs.ComesApart.{PartsView, ArePartsOf, IsInPlace}
use Rattle.mg_sched.proofs.EdgePlaces.{edge_placed}
use Rattle.mg_sched.proofs.Finding.{found}
use Rattle.mg_sched.proofs.PlanEdges.{edge_stream}
use Rattle.mg_sched.proofs.PlanStreams.{WrittenBy, producer_there, number_of}

written_below : (plan : Plan) (s : ℕ) (p : Producer) → WrittenBy plan s p → place_of plan p < length plan.nodes + length plan.inputs
written_below plan s (Input i) w = (let less = w.1 in omega (arith, less))
written_below plan s (Node n port) w = (let less = slice_get_within plan.nodes n w.0 w.1 in omega (arith, less))

has_stream : {laws : Laws} (job : LoggedJob laws) (parts : PartsView) (e : Edge) (p : Producer) (engine : EngineView) → ArePartsOf job parts → WrittenBy parts.plan e.stream p → slice_get parts.engines (place_of parts.plan p) ≡ Some engine → HasStream engine e
has_stream {laws} job parts e (Input i) engine h w at =
    let known = input_known job i engine (h.inputs i engine at) in
    let same = w.0 in let first = known.first in let one = known.one in
    record { from = omega (arith, same, first); below = omega (arith, same, first, one) }
has_stream {laws} job parts e (Node n port) engine h w at =
    let within = slice_get_within parts.plan.nodes n w.0 w.1 in
    let known = engine_known job n engine w.0 (h.engines n engine within at) (subst (λ (plan : Plan). slice_get plan.nodes n ≡ Some w.0) h.plan w.1) in
    let number = number_of engine.first (length w.0.outputs) port e.stream (ap (λ (ns : List ℕ). slice_get ns port) (sym known.set_up.first) ∙ w.2) in
    let less = number.0 in let is = number.1 in let long = known.outputs in
    record { from = omega (arith, is); below = omega (arith, is, less, long) }

pub in_place : {laws : Laws} (job : LoggedJob laws) (parts : PartsView) (number : ℕ) (e : Edge) → ArePartsOf job parts → slice_get parts.plan.edges number ≡ Some e → IsInPlace parts number e
in_place {laws} job parts number e h at =
    let valid : IsValid parts.plan = subst IsValid (sym h.plan) h.is_job.plan in
    let it = producer_there parts.plan valid e.stream (edge_stream parts.plan valid number e at) in
    let place = place_of parts.plan it.0.producer in
    let p = edge_placed parts.plan number e valid at in
    let count = h.engine_count in
    let intakes = h.intake_count in
    let below = written_below parts.plan e.stream it.0.producer it.2 in
    let upto = p.node in
    let g = found parts.engines place (omega (arith, below, count)) in
    let i = found parts.intakes e.node (omega (arith, upto, intakes)) in
    record {
      place = place;
      from = ap (λ (o : Option PlanStream). option_map (place_of parts.plan) (option_map (λ s. s.producer) o)) it.1;
      engine = g.0;
      at = g.1;
      leaves = has_stream job parts e it.0.producer g.0 h it.2 g.1;
      intake = i.0;
      to = i.1;
      port = p.stream;
      alone = λ other x at_x node port.
          let q = edge_placed parts.plan other x valid at_x in
          let one = p.number_is in
          let two = q.number_is in
          let first = ap (first_edge parts.plan) node in
          omega (arith, one, two, first, port);
    }
