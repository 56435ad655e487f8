use Rattle.std.proofs.Common.{◌≡◌, ◌∙◌, Some, false, slice_get, ap}
use Rattle.mg_calc.specs.declared.plan_node.PlanNode.{PlanNode}
use Rattle.mg_calc.specs.Shape.{ParametersFit, IsServed}
use Rattle.mg_route.specs.HolderView.{HolderView, holder_view}
use Rattle.mg_node.specs.Fresh.{own_told, fresh_engine}
use Rattle.mg_node.proofs.Lemmas.{at_each, read_at, some_same}
use Rattle.mg_sched.proofs.parts.engine_of.Goals as goal

pub returns-in-Ok : goal.returns-in-Ok
returns-in-Ok g c = λ planned there_too.
    let there : slice_get c.args.plan.now.nodes c.args.node ≡ Some c.index-as_slice-node.result = read_at _ _ _ _ c.as_slice.ensures c.requires.node c.index-as_slice-node.is in
    let same : c.index-as_slice-node.result ≡ planned = some_same _ _ _ there there_too in
    c.in-Ok.ensures.engine planned there_too
    ∙ ap (λ (t : HolderView). fresh_engine planned c.args.node t) (c.own.ensures ∙ ap (holder_view false) c.in_ok-builtin.ensures ∙ ap own_told same)

pub new-requires-clause-ranges : goal.new-requires-clause-ranges
new-requires-clause-ranges g c =
    at_each (λ (n : PlanNode). ParametersFit n.law) _ c.args.node _ c.requires.valid.parameters (read_at _ _ _ _ c.as_slice.ensures c.requires.node c.index-as_slice-node.is)

pub new-requires-clause-served : goal.new-requires-clause-served
new-requires-clause-served g c =
    at_each (λ (n : PlanNode). IsServed n.law) _ c.args.node _ c.requires.valid.laws (read_at _ _ _ _ c.as_slice.ensures c.requires.node c.index-as_slice-node.is)
