use Rattle.std.proofs.Common.{◌≡◌, ◌∙◌, List, All, length, subst, sym, ap, arith}
use Rattle.std.proofs.lemmas.List.{with_items_is}
use Rattle.mg_value.specs.Payload.{Plain}
use Rattle.mg_settled.specs.Prefix.{StreamPrefix, IsPrefix}
use Rattle.mg_settled.specs.Settled.{inputs_of}
use Rattle.mg_settled.proofs.Lemmas.{all_inputs, all_without_first}
use Rattle.mg_equations.proofs.PortSteps.{inputs_long, without_long, left_long}
use Rattle.mg_equations.proofs.progress.Progress.show.Goals as goal

pub take_sets-requires-clause-streams : goal.take_sets-requires-clause-streams
take_sets-requires-clause-streams c =
    subst (λ (ss : List (StreamPrefix Plain)). All IsPrefix ss) (sym (c.as_mut_slice.ensures.value ∙ c.in_ok-rests.ensures.rests))
    (all_without_first (inputs_of c.args.streams.now c.args.node.now.inputs) c.deref.result.now (all_inputs c.args.streams.now c.args.node.now.inputs c.requires.streams))

pub read_at-requires-clause-many : goal.read_at-requires-clause-many
read_at-requires-clause-many c =
    let long = left_long _ _ _ _ c.in_ok-sets.ensures.left in
    let was = ap length c.as_mut_slice.ensures.value in
    let same : length c.take_sets.new.rests ≡ c.in_ok-rests.rests.len = omega (arith, long, was, c.as_mut_slice.ensures.len) in
    let read : length c.deref.result.now ≡ length (inputs_of c.args.streams.now c.args.node.now.inputs) = ap length c.deref.ensures.value ∙ c.requires.within.ports in
    ap length (c.as_slice-3.ensures.value ∙ with_items_is c.in_ok-rests.rests c.take_sets.new.rests same)
    ∙ long ∙ was ∙ ap length c.in_ok-rests.ensures.rests
    ∙ without_long c.deref.result.now (inputs_of c.args.streams.now c.args.node.now.inputs) read ∙ inputs_long c.args.streams.now c.args.node.now.inputs
