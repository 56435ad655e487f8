use Rattle.std.proofs.Common.{◌∙◌, sym, ap, length, subst, List, rules, w32}
use Rattle.std.proofs.lemmas.Int.{to_z-of_z}
use mir.Val.{SFits}
use Rattle.mg_config.specs.Config.{graph_view}
use Rattle.mg_check.specs.DraftView.{drafts_view}
use Rattle.mg_check.specs.Planning.{plan_nodes, limit_of, workers_of}
use Rattle.mg_check.specs.Joining.{stream_names}
use Rattle.mg_check.specs.Code.Refusing.{AreShown, AreWired}
use Rattle.mg_check.specs.declared.draft.Draft.{Draft}
use Rattle.mg_check.proofs.Made.{plan_made}
use Rattle.mg_check.proofs.planning.plan_of.Goals as goal

pub shown_of-requires-clause-wiring : goal.shown_of-requires-clause-wiring
shown_of-requires-clause-wiring c =
    let P : List Draft → Type 0 = λ l. AreWired c.args.joined.wiring (graph_view c.args.graph.now) (drafts_view l) in
    subst P (sym c.as_slice.ensures.value) c.requires.wiring

pub returns : goal.returns
returns c =
    let graph = graph_view c.args.graph.now in
    let ds = drafts_view c.args.drafts.items in
    let P : List Draft → Type 0 = λ l. AreShown c.in_ok-shown.shown graph (drafts_view l) in
    let shown : AreShown c.in_ok-shown.shown graph ds = subst P c.as_slice.ensures.value c.in_ok-shown.ensures in
    let plan_names = c.args.joined.plan_names in
    let limit_fits : SFits w32 c.limit_of.result = search rules in
    let size_fits : SFits w32 graph.max_queue_size = search rules in
    let threads_fit : SFits w32 graph.num_threads = search rules in
    plan_made graph ds c.in_ok-nodes.nodes c.in_ok-shown.shown.streams c.in_ok-edges.edges c.in_ok-order.order c.in_ok-shown.shown.inputs c.in_ok-shown.shown.outputs c.in_ok-shown.shown.sides _ c.workers_of.result
    (c.in_ok-nodes.ensures ∙ (ap (λ n. plan_nodes plan_names.streams plan_names.sides n ds) c.len.ensures
    ∙ (ap (λ l. plan_nodes l plan_names.sides (length graph.inputs) ds) c.requires.plan_names.of_streams ∙ ap (λ l. plan_nodes (stream_names graph ds) l (length graph.inputs) ds) c.requires.plan_names.of_sides)))
    shown.as_streams (c.in_ok-edges.ensures.entries ∙ c.requires.wiring.all_edges) (c.in_ok-order.ensures.entries ∙ c.requires.wiring.in_order) shown.as_inputs shown.as_outputs shown.as_sides
    (to_z-of_z w32 c.limit_of.result limit_fits ∙ (c.limit_of.ensures ∙ ap limit_of (to_z-of_z w32 graph.max_queue_size size_fits)))
    (c.workers_of.ensures ∙ ap workers_of (to_z-of_z w32 graph.num_threads threads_fit))
