use Rattle.std.proofs.Common.{◌≡◌, ◌∙◌, ◌<◌, List, Some, length, slice_get, get_or, refl, ap, arith}
use Rattle.std.proofs.lemmas.Option.{slice_get_read}
use Rattle.mg_calc.specs.declared.plan_node.PlanNode.{PlanNode}
use Rattle.mg_equations.proofs.ReaderSteps.{has_more, has_all}
use Rattle.mg_equations.proofs.readers.readers_of.Goals as goal

pub loop-number-preserved : goal.loop-number-preserved
loop-number-preserved c =
    let nodes = c.args.plan.now.nodes in
    let k = c.loop-number.number in
    let node = c.index-as_slice-number.result in
    let below : k < length nodes = omega (arith, c.loop-number-test.true, c.len-number-end.ensures) in
    let at : slice_get nodes k ≡ Some node = slice_get_read nodes (length nodes) k node refl below (c.index-as_slice-number.is ∙ ap (λ (ns : List PlanNode). get_or ns k node) c.as_slice.ensures) in
    has_more c.args.plan.now k node c.loop-number.readers.items c.add_reader.new.readers.items c.loop-number.invariant below at c.in_ok-add_reader.ensures

pub returns : goal.returns
returns c = has_all c.args.plan.now c.loop-number.number (length c.args.plan.now.nodes) c.loop-number.readers.items c.loop-number.invariant (omega (arith, c.loop-number-test.false, c.len-number-end.ensures))
