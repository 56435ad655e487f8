use Rattle.mg_calc.proofs.FreeNodes.{without_free, with_none}
use Rattle.mg_calc.proofs.laws.free_nodes_alone_keep_a_plan_from_being_valid.Goals as goal

pub returns-clause-without : goal.returns-clause-without
returns-clause-without c = without_free

pub returns-clause-with_none : goal.returns-clause-with_none
returns-clause-with_none c = with_none
