use Rattle.mg_node.proofs.Knowing.{intake_ports}
use Rattle.mg_node.proofs.laws.ports_are_known.Goals as goal

pub returns : goal.returns
returns c = λ laws. intake_ports
