-- The nodes of a plan: what holds of each draft holds of its node.
use Rattle.std.proofs.Common.{ℕ, ◌+◌, ◌≡◌, ◌≢◌, List, [], ◌∷◌, All, AllPairs, Option, None, Some, length, refl, sym, ap, ◌∙◌, subst}
use Rattle.std.specs.Prelude.{IfSome, IsSome, IsSomeAnd, slice_get}
use Rattle.std.specs.List.{AllByRecursion, filter_map, cons_option}
use Rattle.std.proofs.lemmas.List.{length-map}
use Rattle.std.proofs.lemmas.List.Elements.{All-from_recursion}
use Rattle.std.proofs.lemmas.List.FromFn.{length-range_with_len}
use Rattle.std.proofs.lemmas.Option.{IfSome_then}
use Rattle.mg_config.specs.Config.{GraphView}
use Rattle.mg_calc.specs.declared.plan_node.PlanNode.{PlanNode}
use Rattle.mg_calc.specs.declared.shape.OuterShape.{OuterShape}
use Rattle.mg_calc.specs.Shape.{ParametersFit, IsStated, IsShapeOf}
use Rattle.mg_calc.specs.Plan.{HasNumbers, FlightFits, MayHavePolicy, OutersFit, FitsNode}
use Rattle.mg_check.specs.Drafts.{DraftView}
use Rattle.mg_check.specs.Names.{number_among}
use Rattle.mg_check.specs.Joining.{stream_names, side_names}
use Rattle.mg_check.specs.Planning.{plan_node, plan_nodes, plan_of}
use Rattle.mg_check.specs.Code.Sound.{IsSound, FitsDraft}

-- what follows of each node from what holds of its draft
pub nodes_by : (P : PlanNode → Type 0) (Q : DraftView → Type 0) (streams sides : List (List ℕ)) (first : ℕ) (ds : List DraftView) → ((from : ℕ) (d : DraftView) → Q d → P (plan_node streams sides from d))
    → AllByRecursion Q ds → AllByRecursion P (plan_nodes streams sides first ds)
nodes_by P Q streams sides first [] so all = tt
nodes_by P Q streams sides first (d ∷ ds) so all = (so first d all.0, nodes_by P Q streams sides (first + length d.outputs) ds so all.1)

nodes_all : (P : PlanNode → Type 0) (Q : DraftView → Type 0) (graph : GraphView) (ds : List DraftView) → ((from : ℕ) (d : DraftView) → Q d → P (plan_node (stream_names graph ds) (side_names graph ds) from d))
    → AllByRecursion Q ds → All P (plan_of graph ds).nodes
nodes_all P Q graph ds so all =
    All-from_recursion P (plan_nodes (stream_names graph ds) (side_names graph ds) (length graph.inputs) ds) (nodes_by P Q (stream_names graph ds) (side_names graph ds) (length graph.inputs) ds so all)

numbered : (streams sides : List (List ℕ)) (from : ℕ) (d : DraftView) → IsSound d → HasNumbers (plan_node streams sides from d)
numbered streams sides from d sound = record {
  inputs = length-map d.inputs (number_among streams) ∙ sound.names.inputs;
  outputs = length-range_with_len from (length d.outputs) ∙ sound.names.outputs;
  sides = length-map d.sides (number_among sides) ∙ sound.names.sides;
}

in_flight : (streams sides : List (List ℕ)) (from : ℕ) (d : DraftView) → IsSound d → FlightFits (plan_node streams sides from d)
in_flight streams sides from d sound = record { some = sound.flight.some; most = sound.flight.most; boxed = sound.flight.boxed; stateful = sound.flight.stateful }

-- Fields of a valid plan.

pub valid_ports : (graph : GraphView) (ds : List DraftView) → AllByRecursion IsSound ds → All HasNumbers (plan_of graph ds).nodes
valid_ports graph ds sound = nodes_all HasNumbers IsSound graph ds (numbered (stream_names graph ds) (side_names graph ds)) sound

pub valid_parameters : (graph : GraphView) (ds : List DraftView) → AllByRecursion IsSound ds → All (λ node. ParametersFit node.law) (plan_of graph ds).nodes
valid_parameters graph ds sound = nodes_all (λ node. ParametersFit node.law) IsSound graph ds (λ from d known. known.parameters) sound

pub valid_shapes : (graph : GraphView) (ds : List DraftView) → AllByRecursion IsSound ds → All (λ node. IsShapeOf node.law node.shape) (plan_of graph ds).nodes
valid_shapes graph ds sound = nodes_all (λ node. IsShapeOf node.law node.shape) IsSound graph ds (λ from d known. known.shape) sound

pub valid_flights : (graph : GraphView) (ds : List DraftView) → AllByRecursion IsSound ds → All FlightFits (plan_of graph ds).nodes
valid_flights graph ds sound = nodes_all FlightFits IsSound graph ds (in_flight (stream_names graph ds) (side_names graph ds)) sound

pub valid_policies : (graph : GraphView) (ds : List DraftView) → AllByRecursion IsSound ds → All (λ node. MayHavePolicy node.law node.policy) (plan_of graph ds).nodes
valid_policies graph ds sound = nodes_all (λ node. MayHavePolicy node.law node.policy) IsSound graph ds (λ from d known. known.policy) sound

pub valid_stated : (graph : GraphView) (ds : List DraftView) → AllByRecursion IsSound ds → All (λ node. IsStated node.law → IsSome node.box_number) (plan_of graph ds).nodes
valid_stated graph ds sound = nodes_all (λ node. IsStated node.law → IsSome node.box_number) IsSound graph ds (λ from d known. known.stated) sound

-- the user-supplied calculators are those of the drafts
boxes_same : (streams sides : List (List ℕ)) (first : ℕ) (ds : List DraftView) → filter_map (λ node. node.box_number) (plan_nodes streams sides first ds) ≡ filter_map (λ d. d.box_number) ds
boxes_same streams sides first [] = refl
boxes_same streams sides first (d ∷ ds) = ap (cons_option d.box_number) (boxes_same streams sides (first + length d.outputs) ds)

pub valid_boxes : (graph : GraphView) (ds : List DraftView) → AllPairs ◌≢◌ (filter_map (λ d. d.box_number) ds) → AllPairs ◌≢◌ (filter_map (λ node. node.box_number) (plan_of graph ds).nodes)
valid_boxes graph ds once = subst (λ l. AllPairs ◌≢◌ l) (sym (boxes_same (stream_names graph ds) (side_names graph ds) (length graph.inputs) ds)) once

-- and have their nodes' laws and shapes
is_some_so : {X : Type 0} (P Q : X → Type 0) (o : Option X) → ((x : X) → P x → Q x) → IsSomeAnd o P → IsSomeAnd o Q
is_some_so P Q None so known = known
is_some_so P Q (Some x) so known = so x known

abbrev pub HasOuter : List OuterShape → DraftView → Type 0
HasOuter outers d = IfSome d.box_number (λ number. IsSomeAnd (slice_get outers number) (FitsDraft d))

pub outers_fit : (outers : List OuterShape) (graph : GraphView) (ds : List DraftView) → AllByRecursion (HasOuter outers) ds → OutersFit (plan_of graph ds) outers
outers_fit outers graph ds fit =
    nodes_all (λ node. IfSome node.box_number (λ number. IsSomeAnd (slice_get outers number) (λ outer. FitsNode node outer.law outer.shape))) (HasOuter outers) graph ds
    (λ from d known. IfSome_then d.box_number known (λ number there.
    is_some_so (FitsDraft d) (λ outer. FitsNode (plan_node (stream_names graph ds) (side_names graph ds) from d) outer.law outer.shape) (slice_get outers number)
    (λ outer same. record { same_law = same.same_law; same_shape = same.same_shape }) there))
    fit
