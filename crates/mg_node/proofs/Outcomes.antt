-- What comes back of a lawful work is lawful.
use Rattle.mg_calc.specs.Rules.{Laws}
use Rattle.std.proofs.Common.{◌≡◌, None, sym, subst}
use Rattle.mg_node.specs.Views.{WorkView, PerformedView, OutcomeView}
use Rattle.mg_node.specs.Job.{LoggedJob}
use Rattle.mg_node.specs.Lawful.{LawfulWork, LawfulPerformed, LawfulOutcome}
use Rattle.mg_node.specs.Shelves.{outcome_of}

pub ran_outcome : {laws : Laws} (job : LoggedJob laws) (p : PerformedView) (o : OutcomeView) → o ≡ outcome_of p → LawfulPerformed job p → LawfulOutcome job o
unfolding LawfulPerformed LawfulOutcome
ran_outcome {laws} job p o is lawful = subst (λ (x : OutcomeView). LawfulOutcome job x) (sym is) lawful

pub unrun_outcome : {laws : Laws} (job : LoggedJob laws) (work : WorkView) (o : OutcomeView) → o ≡ record { work = work; answer = None } → LawfulWork job work → LawfulOutcome job o
unfolding LawfulWork LawfulOutcome
unrun_outcome {laws} job work o is lawful = subst (λ (x : OutcomeView). LawfulOutcome job x) (sym is) lawful
