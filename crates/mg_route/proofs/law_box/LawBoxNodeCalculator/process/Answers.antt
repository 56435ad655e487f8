use Rattle.std.proofs.Common.{sym, subst}
use Rattle.mg_calc.specs.Answer.{GivesEmission}
use Rattle.mg_calc.specs.Rules.{Rules}
use Rattle.mg_calc.specs.Law.{rules_of}
use Rattle.mg_calc.specs.Told.{BoxTold}
use Rattle.mg_route.specs.TableLaws.{table_laws}
use Rattle.mg_route.proofs.TableLaws.{all_by_table}
use Rattle.mg_route.proofs.law_box.LawBoxNodeCalculator.process.Goals as goal

pub returns-clause-answer : goal.returns-clause-answer
returns-clause-answer c =
    subst (λ (b : BoxTold). GivesEmission c.process-answer.result c.process-answer.new.self.state ((rules_of table_laws b.law).step b.state c.args.at c.args.set.now)) c.self.view_is
    (subst (λ (rules : Rules). GivesEmission c.process-answer.result c.process-answer.new.self.state (rules.step c.self.inside.inner.state c.args.at c.args.set.now))
    (sym (all_by_table c.self.inside.inner.law)) c.process-answer.ensures.answer)
