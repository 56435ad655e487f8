use Rattle.mg_trace.proofs.Welcome.{job_is_recorded, job_is_good}
use Rattle.mg_trace.proofs.laws.canonical_lines_are_good.Goals as goal

pub returns-clause-recorded : goal.returns-clause-recorded
returns-clause-recorded c = λ plan inputs told kinds. job_is_recorded plan inputs told kinds

pub returns-clause-good : goal.returns-clause-good
returns-clause-good c = λ plan inputs told fits. job_is_good plan inputs told fits
