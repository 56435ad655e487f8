use Rattle.std.proofs.Common.{◌≡◌, Some, slice_get, subst, refl, arith}
use Rattle.mg_calc.specs.declared.plan.Plan.{Plan}
use Rattle.mg_calc.specs.declared.plan_node.PlanNode.{PlanNode}
use Rattle.mg_calc.specs.Plan.{FlightFits}
use Rattle.mg_calc.specs.Shape.{IsShapeOf, IsServed}
use Rattle.mg_node.proofs.HeldRules.{of_node}
use Rattle.mg_node.proofs.Making.{read_at, contexts_made, engine_made, some_same, fresh_unbegun}
use Rattle.mg_node.proofs.engine.Engine.new.Goals as goal

pub own_contexts-requires-clause-of_law : goal.own_contexts-requires-clause-of_law
own_contexts-requires-clause-of_law g c =
    let there : slice_get c.args.plan.now.nodes c.args.node ≡ Some c.index-as_slice-node.result = read_at _ _ _ _ c.as_slice.ensures c.requires.node c.index-as_slice-node.is in
    of_node (λ (n : PlanNode). IsShapeOf n.law n.shape) _ c.args.node _ c.requires.valid.shapes there

pub own_contexts-requires-clause-served : goal.own_contexts-requires-clause-served
own_contexts-requires-clause-served g c =
    let there : slice_get c.args.plan.now.nodes c.args.node ≡ Some c.index-as_slice-node.result = read_at _ _ _ _ c.as_slice.ensures c.requires.node c.index-as_slice-node.is in
    of_node (λ (n : PlanNode). IsServed n.law) _ c.args.node _ c.requires.valid.laws there

pub invariant_of-result : goal.invariant_of-result
invariant_of-result g c =
    let there : slice_get c.args.plan.now.nodes c.args.node ≡ Some c.index-as_slice-node.result = read_at _ _ _ _ c.as_slice.ensures c.requires.node c.index-as_slice-node.is in
    let some = (of_node FlightFits _ c.args.node _ c.requires.valid.flights there).some in
    let few = c.len.type_inv in
    let outs = c.in-Ok.ensures.len in
    let own = c.in-Ok-own_contexts.ensures.len in
    let room = c.in-Ok-own_contexts.ensures.room in
    let put = c.push_reserved.ensures.len in
    let kept = c.push_reserved.ensures.capacity in
    let none = c.in-Ok-with_capacity.ensures.len in
    let holds = c.in-Ok-with_capacity.ensures.capacity in
    (omega (arith, few, outs), omega (arith, some, own, put, none), omega (arith, some, room, kept), omega (arith, holds))

pub returns-clause-engine : goal.returns-clause-engine
returns-clause-engine g c = λ planned there_too.
    let there : slice_get c.args.plan.now.nodes c.args.node ≡ Some c.index-as_slice-node.result = read_at _ _ _ _ c.as_slice.ensures c.requires.node c.index-as_slice-node.is in
    engine_made c.index-as_slice-node.result planned c.args.node c.args.holder _ _ _ c.len.result _ _ _ (some_same _ _ _ there there_too) c.role_of.ensures c.first_of.ensures c.len-3.ensures c.len.ensures c.in-Ok.ensures.items c.in-Ok-with_capacity.ensures.items
    (contexts_made c.index-as_slice-node.result c.args.holder _ c.in-Ok-own_contexts.idle.items c.push_reserved.new.self.items c.in_ok-context.context c.in-Ok-new.set c.len-2.result refl c.in-Ok-own_contexts.ensures.items c.in-Ok-new.ensures c.len-2.ensures c.in_ok-context.ensures.made c.push_reserved.ensures.items)

pub returns-clause-lawful : goal.returns-clause-lawful
returns-clause-lawful g c = λ job planned same handed.
    fresh_unbegun job c.args.node planned c.args.holder _ handed
    (returns-clause-engine g c planned (subst (λ (p : Plan). slice_get p.nodes c.args.node ≡ Some planned) same handed.there))
