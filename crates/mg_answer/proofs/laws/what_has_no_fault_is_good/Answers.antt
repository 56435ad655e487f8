use Rattle.mg_answer.specs.Answer.{by_summary, generated_job}
use Rattle.mg_answer.proofs.OneAnswer.{good-answer, good-told}
use Rattle.mg_answer.proofs.laws.what_has_no_fault_is_good.Goals as goal

pub returns-clause-read : goal.returns-clause-read
returns-clause-read c = λ laws report plan bytes streams answer solution none no_fault no_stall is. good-answer laws report plan bytes streams answer solution none no_fault no_stall is

pub returns-clause-generated : goal.returns-clause-generated
returns-clause-generated c = λ laws report plan number streams answer solution no_fault no_stall is.
    good-told (by_summary report) (generated_job laws plan number) streams answer solution no_fault no_stall is
