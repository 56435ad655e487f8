-- Plans without free nodes, among the plans that may have free nodes.
use Rattle.std.proofs.Common.{◌≡◌, Option, Some, None, IsSomeAnd, slice_get, get_or, ◌⊎◌, inl, inr, refl}
use Rattle.std.proofs.lemmas.List.Elements.{recursion_from_All}
use Rattle.mg_calc.specs.declared.law.Law.{Law}
use Rattle.mg_calc.specs.declared.law.Law.TheVariants.{Limiter}
use Rattle.mg_calc.specs.declared.edge.Edge.{Edge}
use Rattle.mg_calc.specs.declared.plan.Plan.{Plan}
use Rattle.mg_calc.specs.declared.plan_node.PlanNode.{PlanNode}
use Rattle.mg_calc.specs.Shape.{IsServed, IsLimiter}
use Rattle.mg_calc.specs.Plan.{IsValid, IsValidWithFree, HasNoFree, EndsAtLoop, EndsAtFinished}
use Rattle.mg_calc.proofs.Earlier.{at_place}

no_limiter : (law : Law) → IsServed law → IsLimiter law → ⊥
no_limiter (Limiter most) served is = served
no_limiter law served is = is

no_finished : (plan : Plan) (e : Edge) → HasNoFree plan → EndsAtFinished plan e → ⊥
no_finished plan e none ends = by (slice_get plan.nodes e.node) refl ends.1
  where
    by : (o : Option PlanNode) → slice_get plan.nodes e.node ≡ o → IsSomeAnd o (λ node. IsLimiter node.law) → ⊥
    by None there is = is
    by (Some node) there is =
        no_limiter node.law (at_place (λ (n : PlanNode). IsServed n.law) plan.nodes e.node node (recursion_from_All (λ (n : PlanNode). IsServed n.law) plan.nodes none) there) is

pub without_free : (plan : Plan) → IsValidWithFree plan → HasNoFree plan → IsValid plan
without_free plan h none = record {
  ranges = h.ranges;
  streams = h.streams;
  inputs = h.inputs;
  producers = h.producers;
  edges = h.edges;
  ports = h.ports;
  parameters = h.parameters;
  shapes = h.shapes;
  flights = h.flights;
  policies = h.policies;
  stated = h.stated;
  boxes = h.boxes;
  order = h.order;
  forward = h.forward;
  back = (λ k d lt marked. by (get_or plan.edges k d) (h.back k d lt marked));
  laws = none;
}
  where
    by : (e : Edge) → EndsAtLoop plan e ⊎ EndsAtFinished plan e → EndsAtLoop plan e
    by e (inl ends) = ends
    by e (inr ends) = absurd (no_finished plan e none ends)

pub with_none : (plan : Plan) → IsValid plan → IsValidWithFree plan × HasNoFree plan
with_none plan h = (
  record {
    ranges = h.ranges;
    streams = h.streams;
    inputs = h.inputs;
    producers = h.producers;
    edges = h.edges;
    ports = h.ports;
    parameters = h.parameters;
    shapes = h.shapes;
    flights = h.flights;
    policies = h.policies;
    stated = h.stated;
    boxes = h.boxes;
    order = h.order;
    forward = h.forward;
    back = (λ k d lt marked. inl (h.back k d lt marked));
    laws = (λ k d lt. tt);
  },
  h.laws,
)
