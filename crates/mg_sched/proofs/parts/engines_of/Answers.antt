use Rattle.std.proofs.Common.{rules, ◌≡◌, ◌+◌, ◌<◌, Some, length, slice_get, refl, arith}
use Rattle.mg_node.specs.Fresh.{own_told}
use Rattle.mg_node.proofs.Lemmas.{read_at}
use Rattle.mg_sched.specs.Code.Made.{IsEngineAt}
use Rattle.mg_sched.proofs.AtEach.{pushed}
use Rattle.mg_sched.proofs.PartsMade.{input_engine_at}
use Rattle.mg_sched.proofs.parts.engines_of.Goals as goal

pub loop-input-preserved : goal.loop-input-preserved
loop-input-preserved g c =
    let less : c.loop-input.input < length c.args.streams.now = search rules in
    let there : slice_get c.args.streams.now c.loop-input.input ≡ Some c.index-as_slice-input.result = read_at _ _ _ _ c.as_slice.ensures less c.index-as_slice-input.is in
    let at = pushed (IsEngineAt c.args.plan.now c.args.streams.now (λ _ node. own_told node)) _ _ _ (length c.args.plan.now.nodes + c.loop-input.input) c.in_ok-push.ensures.items c.loop-input.invariant.0 c.loop-input.invariant.1
    (input_engine_at c.args.plan.now c.args.streams.now (length c.args.plan.now.nodes + c.loop-input.input) c.loop-input.input _ _ refl there c.in_ok-of_input.ensures.engine) in
    (at.0, omega (arith, at.1))
