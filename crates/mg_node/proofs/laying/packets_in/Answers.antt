use Rattle.mg_node.proofs.LayingBehind.{packets_none}
use Rattle.mg_node.proofs.laying.packets_in.Goals as goal

pub returns-in-None : goal.returns-in-None
returns-in-None c = packets_none c.args.output c.args.emission.now c.in-None.ensures
