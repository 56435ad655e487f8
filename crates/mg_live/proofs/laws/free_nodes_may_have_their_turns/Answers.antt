use Rattle.mg_live.proofs.Following.{may_all_turn}
use Rattle.mg_live.proofs.laws.free_nodes_may_have_their_turns.Goals as goal

pub returns : goal.returns
returns c = may_all_turn
