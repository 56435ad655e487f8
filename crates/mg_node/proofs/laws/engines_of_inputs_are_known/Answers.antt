use Rattle.mg_node.proofs.Knowing.{input_known}
use Rattle.mg_node.proofs.laws.engines_of_inputs_are_known.Goals as goal

pub returns : goal.returns
returns c = λ laws. input_known
