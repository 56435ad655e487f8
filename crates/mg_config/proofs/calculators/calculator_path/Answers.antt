use Rattle.std.proofs.Common.{◌∙◌, ap, codes}
use Rattle.std.proofs.lemmas.Result.{IfOk-weaker}
use Rattle.mg_config.specs.Path.{below, numbered}
use Rattle.mg_config.proofs.calculators.calculator_path.Goals as goal

pub returns : goal.returns
returns c = IfOk-weaker c.below.result _ _
    (λ path same. same ∙ ap (λ place. below place c.in_ok-calculator.calculator) (c.as_str.ensures ∙ c.in_ok-node.ensures)
    ∙ ap (below (numbered (codes "node") c.args.k)) c.in_ok-calculator.ensures) c.below.ensures
