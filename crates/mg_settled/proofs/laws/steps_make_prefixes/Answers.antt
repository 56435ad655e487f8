use Rattle.mg_settled.proofs.PrefixSteps.{appended_is_prefix, all_appended_is_prefix, raised_is_prefix, closed_is_prefix}
use Rattle.mg_settled.proofs.laws.steps_make_prefixes.Goals as goal

pub returns-clause-appended : goal.returns-clause-appended
returns-clause-appended c = λ s p h may. appended_is_prefix s p h may

pub returns-clause-all_appended : goal.returns-clause-all_appended
returns-clause-all_appended c = λ s ps h may. all_appended_is_prefix s ps h may

pub returns-clause-raised : goal.returns-clause-raised
returns-clause-raised c = λ s b h within. raised_is_prefix s b h within

pub returns-clause-closed : goal.returns-clause-closed
returns-clause-closed c = λ s h. closed_is_prefix s h
