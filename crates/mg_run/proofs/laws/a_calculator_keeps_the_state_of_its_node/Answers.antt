use Rattle.std.proofs.Common.{sym}
use Rattle.mg_drive.proofs.BoxesBack.{state_kept}
use Rattle.mg_run.proofs.laws.a_calculator_keeps_the_state_of_its_node.Goals as goal

pub returns : goal.returns
returns c = λ job streams node shown close outer. sym (state_kept job streams node shown close outer)
