use Rattle.mg_calc.specs.Rules.{no_laws}
use Rattle.mg_answer.proofs.Answering.{ran-read, ran-once, ran-ended, ran-answered, read-risen, write-risen}
use Rattle.mg_answer.proofs.solving.solve_input.Goals as goal

pub returns-clause-read : goal.returns-clause-read
returns-clause-read g c = ran-read no_laws c.args.run.now.report c.args.run.now.plan.now c.solve_whole.result _ (c.solve_whole.ensures.ran no_laws)

pub returns-clause-once : goal.returns-clause-once
returns-clause-once g c = ran-once no_laws c.args.run.now.report c.args.run.now.plan.now c.solve_whole.result _ (c.solve_whole.ensures.ran no_laws)

pub returns-clause-ended : goal.returns-clause-ended
returns-clause-ended g c = ran-ended no_laws c.args.run.now.report c.args.run.now.plan.now c.solve_whole.result _ (c.solve_whole.ensures.ran no_laws)

pub returns-clause-answered : goal.returns-clause-answered
returns-clause-answered g c = λ none some laws. ran-answered laws c.args.run.now.report c.args.run.now.plan.now c.solve_whole.result _ (c.solve_whole.ensures.ran laws) none some

pub returns-clause-read_rose : goal.returns-clause-read_rose
returns-clause-read_rose g c = read-risen no_laws c.args.run.now.report c.args.run.now.plan.now c.solve_whole.result _ (c.solve_whole.ensures.ran no_laws)

pub returns-clause-write_rose : goal.returns-clause-write_rose
returns-clause-write_rose g c = write-risen no_laws c.args.run.now.report c.args.run.now.plan.now c.solve_whole.result _ (c.solve_whole.ensures.ran no_laws)
