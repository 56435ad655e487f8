use Rattle.std.proofs.Common.{List, map, ap, ◌∙◌, subst}
use Rattle.mg_calc.specs.Told.{BoxTold}
use Rattle.mg_sched.specs.Made.{IsMade}
use Rattle.mg_drive.proofs.running.make_net.Goals as goal

pub returns-in-Ok-clause-made : goal.returns-in-Ok-clause-made
returns-in-Ok-clause-made g c =
    subst (λ (boxes : List BoxTold). IsMade g.C.NodeCalculator.laws c.args.run.now.plan.now c.args.inputs.now boxes c.in-Ok.net) (ap (λ v. map g.C.NodeCalculator.told v.items) c.replace-handed.ensures.value) c.in-Ok.ensures.made

pub returns-in-Err-clause-same : goal.returns-in-Err-clause-same
returns-in-Err-clause-same g c = ap (λ v. map g.C.NodeCalculator.told v.items) (c.in-Err.ensures.returned ∙ c.replace-handed.ensures.value)
