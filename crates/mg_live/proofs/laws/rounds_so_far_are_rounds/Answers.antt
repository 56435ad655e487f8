use Rattle.mg_live.proofs.Following.{all_rounds, all_come}
use Rattle.mg_live.proofs.laws.rounds_so_far_are_rounds.Goals as goal

pub returns-clause-all : goal.returns-clause-all
returns-clause-all c = all_rounds

pub returns-clause-come : goal.returns-clause-come
returns-clause-come c = all_come
