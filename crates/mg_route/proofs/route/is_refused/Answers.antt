use Rattle.std.proofs.Common.{ap, ◌∙◌, sym}
use Rattle.mg_value.specs.declared.kind.Kind.TheVariants.{Flag, Int}
use Rattle.mg_calc.specs.declared.law.Law.{Law}
use Rattle.mg_calc.specs.Kinds.{is_wrong, has_wrong_kind}
use Rattle.mg_route.proofs.TakenKinds.{gate_refuses, mux_refuses, others_take}
use Rattle.mg_route.proofs.route.is_refused.Goals as goal

pub returns-in_default : goal.returns-in_default
returns-in_default c = others_take c.args.law.now c.requires c.in_default.not-Gate c.in_default.not-Mux c.args.set.now

pub returns-in-Gate : goal.returns-in-Gate
returns-in-Gate c =
    c.is_wrong.ensures
    ∙ ap (is_wrong Flag) c.get.ensures
    ∙ sym (ap (λ (law : Law). has_wrong_kind law c.args.set.now) c.in-Gate.is ∙ gate_refuses c.in-Gate.lanes c.in-Gate.disallow c.in-Gate.empty_as_allow c.args.set.now)

pub returns-in-Mux : goal.returns-in-Mux
returns-in-Mux c =
    c.is_wrong-in-Mux.ensures
    ∙ ap (is_wrong Int) c.get-in-Mux.ensures
    ∙ sym (ap (λ (law : Law). has_wrong_kind law c.args.set.now) c.in-Mux.is ∙ mux_refuses c.in-Mux.lanes c.args.set.now)
