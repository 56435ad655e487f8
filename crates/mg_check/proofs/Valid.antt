-- The plan of drafts that aren't refused is valid.
use Rattle.std.proofs.Common.{◌≤◌, ◌≡◌, List, [], ◌∷◌, All, Option, None, Some, Ok, length, refl, subst, arith}
use Rattle.std.specs.Prelude.{⊤}
use Rattle.std.specs.List.{AllByRecursion}
use Rattle.std.proofs.lemmas.List.Elements.{All-from_recursion, recursion_from_All}
use Rattle.mg_config.specs.Config.{GraphView}
use Rattle.mg_subgraph.proofs.Joins.{none_right}
use Rattle.mg_calc.specs.declared.shape.OuterShape.{OuterShape}
use Rattle.mg_calc.specs.declared.plan.Plan.{Plan}
use Rattle.mg_calc.specs.declared.plan_node.PlanNode.{PlanNode}
use Rattle.mg_calc.specs.Plan.{IsValidWithFree, OutersFit}
use Rattle.mg_check.specs.Drafts.{DraftView, drafts, node_refusal}
use Rattle.mg_check.specs.Joining.{join_refusal}
use Rattle.mg_check.specs.Planning.{plan_of}
use Rattle.mg_check.specs.Check.{refusal, check_by, check_of, IsOuterShape}
use Rattle.mg_check.specs.declared.fault.CheckFault.{CheckFault}
use Rattle.mg_check.specs.Code.Sound.{HasNames, IsSound, AreSound}
use Rattle.mg_check.proofs.DraftCounts.{drafts-most}
use Rattle.mg_check.proofs.SoundNodes.{drafts-are-sound}
use Rattle.mg_check.proofs.ValidLists.{all_so}
use Rattle.mg_check.proofs.ValidStreams.{valid_streams, valid_inputs, valid_producers}
use Rattle.mg_check.proofs.ValidEdges.{valid_edges, valid_back}
use Rattle.mg_check.proofs.ValidNodes.{HasOuter, valid_ports, valid_parameters, valid_shapes, valid_flights, valid_policies, valid_stated, valid_boxes, outers_fit}
use Rattle.mg_check.proofs.ValidRanges.{are_joined, valid_ranges}
use Rattle.mg_check.proofs.ValidOrder.{valid_order, valid_forward}

any_laws : (nodes : List PlanNode) → AllByRecursion (λ node. ⊤) nodes
any_laws [] = tt
any_laws (node ∷ nodes) = (tt, any_laws nodes)

pub joined_is_valid : (outers : List OuterShape) (graph : GraphView) (ds : List DraftView) → AreSound outers ds → length ds ≤ 4096 → join_refusal graph ds ≡ None → IsValidWithFree (plan_of graph ds)
joined_is_valid outers graph ds known short none =
    let sound : AllByRecursion IsSound ds = recursion_from_All IsSound ds known.each in
    let named : AllByRecursion HasNames ds = all_so IsSound HasNames ds (λ d s. s.names) sound in
    let together = are_joined graph ds none in
    record {
      ranges = valid_ranges graph ds short together named;
      streams = valid_streams graph ds named;
      inputs = valid_inputs graph ds;
      producers = valid_producers graph ds named;
      edges = valid_edges graph ds;
      ports = valid_ports graph ds sound;
      parameters = valid_parameters graph ds sound;
      shapes = valid_shapes graph ds sound;
      flights = valid_flights graph ds sound;
      policies = valid_policies graph ds sound;
      stated = valid_stated graph ds sound;
      boxes = valid_boxes graph ds known.once;
      order = valid_order graph ds together.none_wait;
      forward = valid_forward graph ds named;
      back = valid_back graph ds sound;
      laws = All-from_recursion (λ (node : PlanNode). ⊤) (plan_of graph ds).nodes (any_laws (plan_of graph ds).nodes);
    }

-- the user-supplied calculators fit it
pub joined_fits : (outers : List OuterShape) (graph : GraphView) (ds : List DraftView) → AreSound outers ds → OutersFit (plan_of graph ds) outers
joined_fits outers graph ds known = outers_fit outers graph ds (recursion_from_All (HasOuter outers) ds known.fit)

-- A graph that isn't refused has a valid plan, and the user-supplied calculators fit it.

pub plan_is_valid : (outers : List OuterShape) (graph : GraphView) → All IsOuterShape outers → length graph.nodes ≤ 4096 → refusal outers graph ≡ None
    → IsValidWithFree (plan_of graph (drafts outers graph.nodes)) × OutersFit (plan_of graph (drafts outers graph.nodes)) outers
plan_is_valid outers graph shaped few none =
    let ds = drafts outers graph.nodes in
    let known = drafts-are-sound outers graph.nodes shaped in
    let short : length ds ≤ 4096 = omega (arith, drafts-most outers graph.nodes) in
    (joined_is_valid outers graph ds known short (none_right (node_refusal outers graph.nodes) (join_refusal graph ds) none), joined_fits outers graph ds known)

-- and so has one that is given
pub checked_is_valid : (outers : List OuterShape) (graph : GraphView) (plan : Plan) → All IsOuterShape outers → length graph.nodes ≤ 4096 → check_of outers graph ≡ Ok plan → IsValidWithFree plan × OutersFit plan outers
checked_is_valid outers graph plan shaped few given = by (refusal outers graph) refl given
  where
    by : (o : Option CheckFault) → refusal outers graph ≡ o → check_by o (plan_of graph (drafts outers graph.nodes)) ≡ Ok plan → IsValidWithFree plan × OutersFit plan outers
    by None none given =
        let same : plan_of graph (drafts outers graph.nodes) ≡ plan = cc in
        subst (λ p. IsValidWithFree p × OutersFit p outers) same (plan_is_valid outers graph shaped few none)
    by (Some fault) none given = cc
