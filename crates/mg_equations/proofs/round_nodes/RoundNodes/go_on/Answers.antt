use Rattle.std.proofs.Common.{◌≡◌, ◌∙◌, false, List, Some, length, slice_get, get_or, refl, sym, ap, arith}
use Rattle.std.proofs.lemmas.List.{get_or_default}
use Rattle.std.proofs.lemmas.Option.{slice_get_read}
use Rattle.std.proofs.lemmas.Result.{on_ok_weaker}
use Rattle.mg_calc.specs.declared.plan_node.PlanNode.{PlanNode}
use Rattle.mg_equations.specs.Code.RoundNodes.{has_gone}
use Rattle.mg_equations.proofs.RoundNodeSteps.{went_on}
use Rattle.mg_equations.proofs.round_nodes.RoundNodes.go_on.Goals as goal

pub go_on-requires-clause-can : goal.go_on-requires-clause-can
go_on-requires-clause-can c =
    let nodes = c.args.plan.now.nodes in
    let k = c.args.number in
    let node = c.index-as_slice-place.result in
    let at : slice_get nodes k ≡ Some node = slice_get_read nodes (length nodes) k node refl c.requires.number (c.index-as_slice-place.is ∙ ap (λ (ns : List PlanNode). get_or ns k node) c.as_slice.ensures) in
    let not : has_gone c.args.self.now k ≡ false = get_or_default c.args.self.now.gone.items k false c.index.result.now (omega (arith, c.requires.number, c.requires.marks)) ∙ sym c.index.ensures ∙ c.if-index.false in
    c.requires.can not node c.index_mut-2.result.now at
    (slice_get_read c.args.self.now.nodes.items (length c.args.self.now.nodes.items) k c.index_mut-2.result.now refl (omega (arith, c.requires.number, c.requires.nodes)) c.index_mut-2.ensures.value)

pub returns : goal.returns
returns c =
    let nodes = c.args.plan.now.nodes in
    let k = c.args.number in
    let node = c.index-as_slice-place.result in
    let at : slice_get nodes k ≡ Some node = slice_get_read nodes (length nodes) k node refl c.requires.number (c.index-as_slice-place.is ∙ ap (λ (ns : List PlanNode). get_or ns k node) c.as_slice.ensures) in
    let not : has_gone c.args.self.now k ≡ false = get_or_default c.args.self.now.gone.items k false c.index.result.now (omega (arith, c.requires.number, c.requires.marks)) ∙ sym c.index.ensures ∙ c.if-index.false in
    let there = slice_get_read c.args.self.now.nodes.items (length c.args.self.now.nodes.items) k c.index_mut-2.result.now refl (omega (arith, c.requires.number, c.requires.nodes)) c.index_mut-2.ensures.value in
    on_ok_weaker c.go_on.result (went_on nodes c.args.streams.now k c.args.self.now _ node c.index_mut-2.result.now c.go_on.new.self not at there refl refl c.in_ok-push.ensures.items) c.go_on.ensures
