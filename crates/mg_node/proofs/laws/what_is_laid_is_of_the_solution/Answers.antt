use Rattle.mg_node.proofs.LaidAndCame.{node_has_laid, input_has_laid}
use Rattle.mg_node.proofs.laws.what_is_laid_is_of_the_solution.Goals as goal

pub returns-clause-node : goal.returns-clause-node
returns-clause-node c = λ laws. node_has_laid

pub returns-clause-input : goal.returns-clause-input
returns-clause-input c = λ laws. input_has_laid
