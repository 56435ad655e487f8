use Rattle.mg_calc.proofs.LawCases.{stepped}
use Rattle.mg_calc.proofs.state_laws.states_keep_their_form.Goals as goal

pub returns-clause-stepped : goal.returns-clause-stepped
returns-clause-stepped c = stepped
