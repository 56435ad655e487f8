use Rattle.mg_settled.proofs.ShownSets.{sets-show}
use Rattle.mg_settled.proofs.laws.settled_sets_show_packets.Goals as goal

pub returns : goal.returns
returns c = λ policy ss h. sets-show policy ss h
