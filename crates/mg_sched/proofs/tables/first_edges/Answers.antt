use Rattle.std.proofs.Common.{◌≡◌, ◌+◌, map, length, slice_get, Some, refl, sym, ap, ◌∙◌, arith}
use Rattle.std.proofs.lemmas.Option.{slice_get_read}
use Rattle.mg_calc.specs.Plan.{numbers}
use Rattle.mg_sched.specs.Places.{first_edge}
use Rattle.mg_sched.proofs.PlanEdges.{first_edge_next, first_edge_within, first_edges_next}
use Rattle.mg_sched.proofs.tables.first_edges.Goals as goal

there : (c : goal.After-len-first) → slice_get c.args.plan.now.nodes c.loop-node.node-index ≡ Some c.node-item.result
there c =
    ap (λ l. slice_get l c.loop-node.node-index) (sym c.as_slice-node-items.ensures)
    ∙ slice_get_read c.as_slice-node-items.result.now (length c.as_slice-node-items.result.now) c.loop-node.node-index c.node-item.result refl c.loop-node-test.true c.node-item.is

pub overflow_add-first : goal.overflow_add-first
overflow_add-first c =
    let plan = c.args.plan.now in
    let i = c.loop-node.node-index in
    omega (arith, c.loop-node.invariant.0, c.len-first.ensures, first_edge_next plan i c.node-item.result (there c), first_edge_within plan c.requires (i + 1), c.requires.ranges.edges)

pub loop-node-preserved : goal.loop-node-preserved
loop-node-preserved c =
    let plan = c.args.plan.now in
    let i = c.loop-node.node-index in (
      omega (arith, c.loop-node.invariant.0, c.len-first.ensures, first_edge_next plan i c.node-item.result (there c)),
      first_edges_next plan i c.loop-node.firsts.items c.push.new.self.items c.loop-node.first c.loop-node.invariant.1 c.loop-node.invariant.0 c.in_ok-push.ensures.items,
    )

pub returns : goal.returns
returns c =
    let plan = c.args.plan.now in
    let i = c.loop-node.node-index in
    let last : i ≡ length plan.nodes = omega (arith, c.loop-node-test.false, c.loop-node.auto.node-index-end, ap length c.as_slice-node-items.ensures) in
    first_edges_next plan i c.loop-node.firsts.items c.push-2.new.self.items c.loop-node.first c.loop-node.invariant.1 c.loop-node.invariant.0 c.in_ok-push-2.ensures.items
    ∙ ap (λ k. map (first_edge plan) (numbers (k + 1))) last
