use Rattle.std.proofs.Common.{◌≡◌, ◌∙◌, ◌<◌, List, Some, length, slice_get, get_or, refl, ap, arith}
use Rattle.std.proofs.lemmas.Option.{slice_get_read}
use Rattle.mg_calc.specs.declared.plan_node.PlanNode.{PlanNode}
use Rattle.mg_equations.proofs.RoundSteps.{begun_more}
use Rattle.mg_equations.proofs.round.first_nodes.Goals as goal

pub loop-node-preserved : goal.loop-node-preserved
loop-node-preserved c =
    let nodes = c.args.plan.now.nodes in
    let i = c.loop-node.node-index in
    let node = c.node-item.result in
    let below : i < length nodes = omega (arith, c.loop-node-test.true, ap length c.as_slice-node-items.ensures) in
    let at : slice_get nodes i ≡ Some node = slice_get_read nodes (length nodes) i node refl below (c.node-item.is ∙ ap (λ (ns : List PlanNode). get_or ns i node) c.as_slice-node-items.ensures) in
    (λ laws. rw c.in_ok-push.ensures.items
    (begun_more (record { plan = c.args.plan.now; inputs = c.args.inputs.now; laws = laws }) c.args.streams.now c.loop-node.nodes.items i node c.in_ok-first.field-0 (c.loop-node.invariant laws) at (c.in_ok-first.ensures laws)))

pub returns : goal.returns
returns c = λ laws. (let so_far = c.loop-node.invariant laws in record {
  many = omega (arith, so_far.many, c.loop-node-test.false, ap length c.as_slice-node-items.ensures);
  each = so_far.each;
})
