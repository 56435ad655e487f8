use Rattle.mg_settled.proofs.Extending.{appended_extends, all_appended_extend, all_appended_behind, raised_extends, closed_extends}
use Rattle.mg_settled.proofs.laws.steps_extend.Goals as goal

pub returns-clause-appended : goal.returns-clause-appended
returns-clause-appended c = λ s p may. appended_extends s p may

pub returns-clause-all_appended : goal.returns-clause-all_appended
returns-clause-all_appended c = λ s ps may. all_appended_extend s ps may

pub returns-clause-raised : goal.returns-clause-raised
returns-clause-raised c = λ s b. raised_extends s b

pub returns-clause-closed : goal.returns-clause-closed
returns-clause-closed c = λ s h. closed_extends s h

pub returns-clause-behind : goal.returns-clause-behind
returns-clause-behind c = λ s ps. all_appended_behind s ps
