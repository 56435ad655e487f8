use Rattle.mg_settled.proofs.GonePackets.{selects-gone}
use Rattle.mg_settled.proofs.laws.a_set_takes_a_packet_of_select.Goals as goal

pub returns : goal.returns
returns c = λ k ss gone h are. selects-gone k ss gone h are
