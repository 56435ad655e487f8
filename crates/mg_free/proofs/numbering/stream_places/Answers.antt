use Rattle.std.proofs.Common.{◌≡◌, ◌∙◌, ℕ, ◌<◌, ◌++◌, List, filter, flat_map, All, sym, ap₂, subst}
use Rattle.mg_calc.specs.declared.plan_node.PlanNode.{PlanNode}
use Rattle.mg_free.specs.Core.{is_core, core_streams}
use Rattle.mg_free.proofs.CoreStreams.{streams_below}
use Rattle.mg_free.proofs.numbering.stream_places.Goals as goal

pub of-requires : goal.of-requires
of-requires c =
    let plan = c.args.plan.now in
    let list : c.in_ok-list.list ≡ core_streams plan =
    c.in_ok-list.ensures.entries
    ∙ (c.in_ok-streams.ensures ∙ ap₂ (λ (front : List ℕ) (nodes : List PlanNode). front ++ flat_map (λ node. node.outputs) (filter is_core nodes)) c.in_ok-entering.ensures c.as_slice.ensures) in
    subst (λ (l : List ℕ). All (λ n. n < c.len.result) l) (sym list)
    (subst (λ (m : ℕ). All (λ n. n < m) (core_streams plan)) (sym c.len.ensures) (streams_below plan c.requires.streams))
