use Rattle.std.proofs.Common.{◌≡◌, ◌∙◌, ◌+◌, ◌++◌, ◌<◌, ℕ, List, Some, append_assoc, drop, length, slice_get, get_or, refl, sym, ap, arith}
use Rattle.std.specs.List.{flat_map}
use Rattle.std.proofs.lemmas.List.{get_or_default}
use Rattle.std.proofs.lemmas.Option.{slice_get_read}
use Rattle.mg_calc.specs.declared.plan_node.PlanNode.{PlanNode}
use Rattle.mg_route.proofs.LayingLemmas.{from_here}
use Rattle.mg_equations.specs.Code.RoundNodes.{outputs_at}
use Rattle.mg_equations.proofs.RoundNodeSteps.{outputs_are}
use Rattle.mg_equations.proofs.round_nodes.outputs_among.Goals as goal

pub loop-number-preserved : goal.loop-number-preserved
loop-number-preserved c =
    let nodes = c.args.plan.now.nodes in
    let numbers = c.args.nodes.now in
    let i = c.loop-number.number-index in
    let k = get_or numbers i 0 in
    let below : i < length numbers = omega (arith, c.loop-number-test.true) in
    let node = c.index-as_slice-number.result in
    let at : slice_get nodes k ≡ Some node = slice_get_read nodes (length nodes) k node refl (c.requires i 0 below) (c.index-as_slice-number.is ∙ ap (λ (ns : List PlanNode). get_or ns k node) c.as_slice.ensures) in
    let rest : List ℕ = flat_map (outputs_at nodes) (drop (i + 1) numbers) in
    let written = c.loop-number.streams.items in
    ap (λ (l : List ℕ). l ++ rest) (c.in_ok-extend_from_slice.ensures.items ∙ ap (λ (l : List ℕ). written ++ l) (c.as_slice-in-loop-number.ensures ∙ sym (outputs_are nodes k node at)))
    ∙ append_assoc written (outputs_at nodes k) rest
    ∙ ap (λ (l : List ℕ). written ++ flat_map (outputs_at nodes) l) (sym (from_here numbers i k below (get_or_default numbers i 0 k below)))
    ∙ c.loop-number.invariant
