use Rattle.mg_answer.proofs.GeneratedFits.{generated-fit}
use Rattle.mg_answer.proofs.laws.generated_packets_fit.Goals as goal

pub returns : goal.returns
returns c = λ plan number valid few. generated-fit plan number valid few
