use Rattle.std.proofs.Common.{sym}
use Rattle.mg_node.proofs.Beginning.{has_ports}
use Rattle.mg_node.proofs.intake.waits_at.Goals as goal

pub waits_of-requires : goal.waits_of-requires
waits_of-requires c = has_ports _ _ _ c.requires (sym c.in-Some.ensures)
