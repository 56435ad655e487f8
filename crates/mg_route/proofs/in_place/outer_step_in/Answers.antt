use Rattle.std.proofs.Common.{ap, sym, subst, ◌∙◌}
use Rattle.mg_calc.specs.declared.law.Law.{Law}
use Rattle.mg_calc.specs.Answer.{Answer, Gives}
use Rattle.mg_calc.specs.Law.{step}
use Rattle.mg_route.proofs.Passing.{passes, stated_stays}
use Rattle.mg_route.proofs.in_place.outer_step_in.Goals as goal

pub returns-in_ok-emission-in-Pass-clause-answer : goal.returns-in_ok-emission-in-Pass-clause-answer
returns-in_ok-emission-in-Pass-clause-answer c =
    ap (λ (law : Law). step law c.args.state.now c.args.at c.args.set.now) c.in-Pass.is
    ∙ passes c.args.set.now _ c.len.result c.len.ensures c.in_ok-emission-in-Pass.ensures c.args.state.now c.args.at

pub returns-in-Stated-clause-answer : goal.returns-in-Stated-clause-answer
returns-in-Stated-clause-answer c =
    c.keep_of.ensures.answer (step c.args.law.now c.args.state.now c.args.at c.args.set.now)
    (subst (λ (given : Answer). Gives c.stays-answer.result given)
    (sym (ap (λ (law : Law). step law c.args.state.now c.args.at c.args.set.now) c.in-Stated.is ∙ stated_stays c.in-Stated.number c.in-Stated.parameters c.in-Stated.offset c.args.state.now c.args.at c.args.set.now))
    c.stays-answer.ensures)
