use Rattle.mg_run.proofs.AnyLimit.{ended_same}
use Rattle.mg_run.proofs.OneAnswer.{one-of-run}
use Rattle.mg_run.proofs.laws.run_and_solve_answer_the_same.Goals as goal

pub returns : goal.returns
returns c = λ laws report limit plan boxes input a b one two. one-of-run laws report plan input a b (ended_same laws report limit plan input a one) two
