-- The core of a plan that is valid with free nodes is a valid plan.
use Rattle.std.proofs.Common.{◌≡◌, ◌≢◌, ℕ, zero, suc, ◌+◌, ◌<◌, ◌⊎◌, true, false, not, List, [], ◌∷◌, map, filter, length, slice_get, All, AllPairs, Option, None, Some, IsSome, IsSomeAnd, is_some, unwrap_or, option_map, refl, sym, ap, ◌∙◌, subst, inl, inr, arith}
use Rattle.std.specs.Bool.{⊤}
use Rattle.std.specs.List.{AllZip, filter_map, cons_option}
use Rattle.std.proofs.lemmas.List.Elements.{All-from_recursion, recursion_from_All}
use Rattle.mg_calc.specs.declared.edge.Edge.{Edge}
use Rattle.mg_calc.specs.declared.law.Law.{Law}
use Rattle.mg_calc.specs.declared.law.Law.TheVariants.{Loopback, FirstCome, Limiter}
use Rattle.mg_calc.specs.declared.plan.Plan.{Plan}
use Rattle.mg_calc.specs.declared.plan_node.PlanNode.{PlanNode}
use Rattle.mg_calc.specs.Shape.{ParametersFit, IsServed, IsStated, IsLimiter, IsShapeOf}
use Rattle.mg_calc.specs.Plan.{IsValid, IsValidWithFree, AreInRange, HasNumbers, numbers, FlightFits, MayHavePolicy, LeadsForward, EndsAtLoop, EndsAtFinished}
use Rattle.mg_calc.proofs.Earlier.{some_same}
use Rattle.mg_free.specs.Core.{free_law_of, is_free, is_core, is_free_at, core_numbers, core_streams, stream_number, node_number, core_node, core_edge, core_of}
use Rattle.mg_free.proofs.Placing.{Among, AreApart, filter-length, found, at_its_place, apart_from_pairs, pairs_from_apart}
use Rattle.mg_free.proofs.Kept.{all_kept, all_images, gives_apart}
use Rattle.mg_free.proofs.Walking.{core_long, core_zipped, core_among}
use Rattle.mg_free.proofs.CoreStreams.{stream_among, streams_follow, producers_follow, inputs_follow, streams_long, long_image}
use Rattle.mg_free.proofs.CoreEdges.{core_edges_join}
use Rattle.mg_free.proofs.CoreOrder.{order_once, forward_kept}

-- what holds of each node holds of each of the core
nodes_keep : (plan : Plan) (P Q : PlanNode → Type 0) → ((node : PlanNode) → is_core node ≡ true → P node → Q (core_node plan node)) → All P plan.nodes → All Q (core_of plan).nodes
nodes_keep plan P Q so all = All-from_recursion Q (core_of plan).nodes (all_kept P Q is_core (core_node plan) plan.nodes so (recursion_from_All P plan.nodes all))

-- and of each edge that stays
edges_keep : (plan : Plan) (P Q : Edge → Type 0) → ((e : Edge) → not (is_free_at plan e.node) ≡ true → P e → Q (core_edge plan e)) → All P plan.edges → All Q (core_of plan).edges
edges_keep plan P Q so all = All-from_recursion Q (core_of plan).edges (all_kept P Q (λ e. not (is_free_at plan e.node)) (core_edge plan) plan.edges so (recursion_from_All P plan.edges all))

-- a law of the core is served
served : (law : Law) → not (is_some (free_law_of law)) ≡ true → IsServed law
served (FirstCome lanes) e = cc
served (Limiter most) e = cc
served law e = tt

-- Ranges.
reads_kept : (plan : Plan) (streams : List ℕ) → IsValidWithFree plan → All (λ s. s < length plan.streams) streams → All (λ s. s < length (core_of plan).streams) (map (stream_number plan) streams)
reads_kept plan streams valid all =
    All-from_recursion (λ s. s < length (core_of plan).streams) (map (stream_number plan) streams)
    (all_images (λ s. s < length plan.streams) (λ s. s < length (core_of plan).streams) (stream_number plan) streams
    (λ s le. let f = found s (core_streams plan) (stream_among plan s valid.streams le) in let long = streams_long plan valid.streams valid.producers in omega (arith, f, long))
    (recursion_from_All (λ s. s < length plan.streams) streams all))

core_count : (plan : Plan) → length (core_numbers plan) ≡ length (core_of plan).nodes
core_count plan = core_long 0 plan.nodes ∙ sym (long_image (core_node plan) (filter is_core plan.nodes))

core_ranges : (plan : Plan) → IsValidWithFree plan → AreInRange (core_of plan)
core_ranges plan valid = record {
  nodes = (let few = filter-length is_core plan.nodes in let long = long_image (core_node plan) (filter is_core plan.nodes) in let most = valid.ranges.nodes in omega (arith, few, long, most));
  edges = (
      let few = filter-length (λ (e : Edge). not (is_free_at plan e.node)) plan.edges in
      let long = long_image (core_edge plan) (filter (λ (e : Edge). not (is_free_at plan e.node)) plan.edges) in
      let most = valid.ranges.edges in
      omega (arith, few, long, most)
      );
  outputs = (let long = long_image (stream_number plan) plan.outputs in let most = valid.ranges.outputs in omega (arith, long, most));
  workers = valid.ranges.workers;
  read = nodes_keep plan (λ node. All (λ s. s < length plan.streams) node.inputs) (λ node. All (λ s. s < length (core_of plan).streams) node.inputs) (λ node is all. reads_kept plan node.inputs valid all) valid.ranges.read;
  shown = reads_kept plan plan.outputs valid valid.ranges.shown;
  taken = nodes_keep plan (λ node. All (λ s. s < length plan.sides) node.sides) (λ node. All (λ s. s < length plan.sides) node.sides) (λ node is all. all) valid.ranges.taken;
  given = valid.ranges.given;
  limit = valid.ranges.limit;
}

-- Boxes.
boxes_kept : (plan : Plan) → AllPairs ◌≢◌ (filter_map (λ node. node.box_number) plan.nodes) → AllPairs ◌≢◌ (filter_map (λ node. node.box_number) (core_of plan).nodes)
boxes_kept plan pairs =
    pairs_from_apart (filter_map (λ node. node.box_number) (core_of plan).nodes)
    (subst AreApart (sym (same (filter is_core plan.nodes))) (gives_apart is_core (λ node. node.box_number) plan.nodes (apart_from_pairs (filter_map (λ node. node.box_number) plan.nodes) pairs)))
  where
    same : (nodes : List PlanNode) → filter_map (λ node. node.box_number) (map (core_node plan) nodes) ≡ filter_map (λ node. node.box_number) nodes
    same [] = refl
    same (node ∷ nodes) = ap (λ l. cons_option node.box_number l) (same nodes)

-- Back edges.
core_at : (plan : Plan) (k : ℕ) (node : PlanNode) → slice_get plan.nodes k ≡ Some node → is_core node ≡ true → slice_get (core_of plan).nodes (node_number plan k) ≡ Some (core_node plan node)
core_at plan k node at is =
    let among : Among k (core_numbers plan) = subst (λ (n : ℕ). Among n (core_numbers plan)) (let z : 0 + k ≡ k = omega arith in z) (core_among 0 k plan.nodes node at is) in
    let place = at_its_place k (core_numbers plan) (found k (core_numbers plan) among) in
    stands (core_numbers plan) (filter is_core plan.nodes) (node_number plan k) (core_zipped 0 plan.nodes (λ n x. slice_get plan.nodes n ≡ Some x) (λ j x e. subst (λ (n : ℕ). slice_get plan.nodes n ≡ Some x) (let z : j ≡ 0 + j = omega arith in z) e)) place
  where
    stands : (ns : List ℕ) (nodes : List PlanNode) (i : ℕ) → AllZip (λ n x. slice_get plan.nodes n ≡ Some x) ns nodes → slice_get ns i ≡ Some k → slice_get (map (core_node plan) nodes) i ≡ Some (core_node plan node)
    stands [] nodes i z e = absurd cc
    stands (n ∷ ns) [] i z e = absurd z
    stands (n ∷ ns) (x ∷ nodes) zero z e =
        ap (λ (y : PlanNode). Some (core_node plan y)) (some_same x node (sym z.0 ∙ (ap (λ (m : ℕ). slice_get plan.nodes m) (some_same n k e) ∙ at)))
    stands (n ∷ ns) (x ∷ nodes) (suc i) z e = stands ns nodes i z.1 e

loop_is_core : (law : Law) → law ≡ Loopback → not (is_some (free_law_of law)) ≡ true
loop_is_core law e = subst (λ (l : Law). not (is_some (free_law_of l)) ≡ true) (sym e) refl

limiter_is_free : (law : Law) → IsLimiter law → not (is_some (free_law_of law)) ≡ true → ⊥
limiter_is_free (Limiter most) is stays = cc
limiter_is_free law is stays = is

back_by : (plan : Plan) (e : Edge) (o : Option PlanNode) → slice_get plan.nodes e.node ≡ o → not (is_free_at plan e.node) ≡ true → EndsAtLoop plan e ⊎ EndsAtFinished plan e → EndsAtLoop (core_of plan) (core_edge plan e)
back_by plan e None at stays (inl ends) = absurd (subst (λ (o : Option PlanNode). IsSomeAnd o (λ node. node.law ≡ Loopback)) at ends.1)
back_by plan e None at stays (inr ends) = absurd (subst (λ (o : Option PlanNode). IsSomeAnd o (λ node. IsLimiter node.law)) at ends.1)
back_by plan e (Some node) at stays (inl ends) =
    let loop : node.law ≡ Loopback = subst (λ (o : Option PlanNode). IsSomeAnd o (λ node. node.law ≡ Loopback)) at ends.1 in
    (ends.0, subst (λ (o : Option PlanNode). IsSomeAnd o (λ node. node.law ≡ Loopback)) (sym (core_at plan e.node node at (loop_is_core node.law loop))) loop)
back_by plan e (Some node) at stays (inr ends) =
    let limits : IsLimiter node.law = subst (λ (o : Option PlanNode). IsSomeAnd o (λ node. IsLimiter node.law)) at ends.1 in
    let core : is_core node ≡ true = sym (ap (λ (o : Option PlanNode). not (unwrap_or (option_map is_free o) false)) at) ∙ stays in
    absurd (limiter_is_free node.law limits core)

-- The core is valid.
pub core_is_valid : (plan : Plan) → IsValidWithFree plan → IsValid (core_of plan)
core_is_valid plan valid = record {
  ranges = core_ranges plan valid;
  streams = streams_follow plan valid.streams ∙ ap numbers (sym (streams_long plan valid.streams valid.producers));
  inputs = inputs_follow plan;
  producers = producers_follow plan;
  edges = core_edges_join plan valid.edges;
  ports = nodes_keep plan HasNumbers HasNumbers (λ node is has. record { inputs = long_image (stream_number plan) node.inputs ∙ has.inputs; outputs = long_image (stream_number plan) node.outputs ∙ has.outputs; sides = has.sides }) valid.ports;
  parameters = nodes_keep plan (λ node. ParametersFit node.law) (λ node. ParametersFit node.law) (λ node is fit. fit) valid.parameters;
  shapes = nodes_keep plan (λ node. IsShapeOf node.law node.shape) (λ node. IsShapeOf node.law node.shape) (λ node is shape. shape) valid.shapes;
  flights = nodes_keep plan FlightFits FlightFits (λ node is fit. record { some = fit.some; most = fit.most; boxed = fit.boxed; stateful = fit.stateful }) valid.flights;
  policies = nodes_keep plan (λ node. MayHavePolicy node.law node.policy) (λ node. MayHavePolicy node.law node.policy) (λ node is may. may) valid.policies;
  stated = nodes_keep plan (λ node. IsStated node.law → IsSome node.box_number) (λ node. IsStated node.law → IsSome node.box_number) (λ node is boxed. boxed) valid.stated;
  boxes = boxes_kept plan valid.boxes;
  order = order_once plan (length (core_of plan).nodes) valid.order (core_count plan);
  forward = edges_keep plan (λ e. e.back ≡ false → LeadsForward plan e) (λ e. e.back ≡ false → LeadsForward (core_of plan) e)
      (λ e stays leads back. forward_kept plan e valid.order.below valid.streams valid.producers (leads back)) valid.forward;
  back = edges_keep plan (λ e. e.back ≡ true → EndsAtLoop plan e ⊎ EndsAtFinished plan e) (λ e. e.back ≡ true → EndsAtLoop (core_of plan) e)
      (λ e stays ends back. back_by plan e (slice_get plan.nodes e.node) refl stays (ends back)) valid.back;
  laws = nodes_keep plan (λ node. ⊤) (λ node. IsServed node.law) (λ node is any. served node.law is) valid.laws;
}
