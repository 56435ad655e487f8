-- The answer of a check, by its two halves.
use Rattle.std.proofs.Common.{◌≡◌, ◌≤◌, List, None, Some, Result, Ok, Err, length, sym, ap, ◌∙◌, arith}
use Rattle.std.specs.Option.{option_or}
use Rattle.mg_config.specs.Config.{GraphView, NodeView, graph_view, node_view}
use Rattle.mg_config.specs.declared.graph.GraphConfig.{GraphConfig}
use Rattle.mg_calc.specs.declared.plan.Plan.{Plan}
use Rattle.mg_calc.specs.declared.shape.OuterShape.{OuterShape}
use Rattle.mg_check.specs.Drafts.{DraftView, drafts, node_refusal}
use Rattle.mg_check.specs.DraftView.{draft_view, drafts_view}
use Rattle.mg_check.specs.Joining.{join_refusal}
use Rattle.mg_check.specs.Planning.{plan_of}
use Rattle.mg_check.specs.Check.{check_by, check_of}
use Rattle.mg_check.specs.declared.draft.Draft.{Draft}
use Rattle.mg_check.specs.declared.fault.CheckFault.{CheckFault}
use Rattle.mg_check.proofs.DraftCounts.{drafts-most}
use Rattle.mg_subgraph.proofs.Steps.{length-map}

abbrev planned : Plan → Result Plan CheckFault
planned plan = Ok plan

pub has-plan : (outers : List OuterShape) (graph : GraphView) (ds : List DraftView) (plan : Plan) → node_refusal outers graph.nodes ≡ None → ds ≡ drafts outers graph.nodes
    → join_refusal graph ds ≡ None → plan ≡ plan_of graph ds → check_of outers graph ≡ Ok plan
has-plan outers graph ds plan nodes same joins made =
    ap (λ o. check_by (option_or o (join_refusal graph (drafts outers graph.nodes))) (plan_of graph (drafts outers graph.nodes))) nodes
    ∙ (ap (λ d. check_by (join_refusal graph d) (plan_of graph d)) (sym same) ∙ (ap (λ o. check_by o (plan_of graph ds)) joins ∙ ap planned (sym made)))

-- no node by itself is refused, but how nodes are joined
pub refused-then : (outers : List OuterShape) (graph : GraphView) (ds : List DraftView) (fault : CheckFault) → node_refusal outers graph.nodes ≡ None → ds ≡ drafts outers graph.nodes
    → join_refusal graph ds ≡ Some fault → check_of outers graph ≡ Err fault
refused-then outers graph ds fault nodes same joins =
    ap (λ o. check_by (option_or o (join_refusal graph (drafts outers graph.nodes))) (plan_of graph (drafts outers graph.nodes))) nodes
    ∙ (ap (λ d. check_by (join_refusal graph d) (plan_of graph d)) (sym same) ∙ ap (λ o. check_by o (plan_of graph ds)) joins)

-- there are no more drafts than nodes
pub few-drafts : (outers : List OuterShape) (nodes : List NodeView) (list : List Draft) → drafts_view list ≡ drafts outers nodes → length nodes ≤ 4096 → length list ≤ 4096
few-drafts outers nodes list same few =
    let count = sym (length-map draft_view list) ∙ ap length same in
    omega (arith, count, drafts-most outers nodes, few)

-- as many nodes are seen as there are
pub few-nodes : (config : GraphConfig) → length config.nodes ≤ 4096 → length (graph_view config).nodes ≤ 4096
few-nodes config few = let count = length-map node_view config.nodes in omega (arith, count, few)
