use Rattle.mg_node.proofs.FewWait.{few_packets}
use Rattle.mg_node.proofs.laws.few_wait.Goals as goal

pub returns : goal.returns
returns c = λ laws. few_packets
