use Rattle.std.proofs.Common.{◌∙◌, List, All, subst, sym}
use Rattle.mg_value.specs.Payload.{Plain}
use Rattle.mg_settled.specs.Prefix.{StreamPrefix, IsPrefix}
use Rattle.mg_settled.proofs.SetSteps.{all_inputs}
use Rattle.mg_settled.proofs.sets.settled_sets.Goals as goal

pub take_sets-requires-clause-streams : goal.take_sets-requires-clause-streams
take_sets-requires-clause-streams c =
    subst (λ (ss : List (StreamPrefix Plain)). All IsPrefix ss) (sym (c.as_mut_slice.ensures.value ∙ c.in_ok-rests.ensures.rests)) (all_inputs c.args.prefixes.now c.args.ports.now c.requires.streams)
