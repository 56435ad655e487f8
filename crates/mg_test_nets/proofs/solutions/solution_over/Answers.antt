use Rattle.mg_test_nets.proofs.Unstated.{unstated}
use Rattle.mg_test_nets.proofs.solutions.solution_over.Goals as goal

pub solve-requires-clause-unstated : goal.solve-requires-clause-unstated
solve-requires-clause-unstated c = unstated c.args.plan.now c.requires.valid c.requires.fit
