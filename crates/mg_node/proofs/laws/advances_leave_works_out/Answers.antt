use Rattle.std.proofs.Common.{refl}
use Rattle.mg_node.proofs.Growing.{advance_grows}
use Rattle.mg_node.proofs.KeptOut.{advance_out, advance_set_up}
use Rattle.mg_node.proofs.laws.advances_leave_works_out.Goals as goal

pub returns-clause-out : goal.returns-clause-out
returns-clause-out c = λ engine waits. advance_out engine _ waits refl

pub returns-clause-set_up : goal.returns-clause-set_up
returns-clause-set_up c = λ engine waits. advance_set_up engine _ waits refl

pub returns-clause-grows : goal.returns-clause-grows
returns-clause-grows c = λ engine waits. advance_grows engine _ waits refl
