use Rattle.mg_node.proofs.Filling.{filled_none, filled_more, filled_all, filled_above}
use Rattle.mg_node.proofs.laid.fill.Goals as goal

pub loop-packet-init : goal.loop-packet-init
loop-packet-init c = filled_none _ _

pub loop-packet-preserved : goal.loop-packet-preserved
loop-packet-preserved c = filled_more _ _ _ _ _ c.packet-item.result _ c.loop-packet.invariant c.loop-packet-test.true c.packet-item.is c.in_ok-try_clone.ensures c.in-Ok.ensures.ok c.in-Ok.ensures.may_come

pub returns-clause-gone : goal.returns-clause-gone
returns-clause-gone c = c.loop-packet.invariant.gone

pub returns-clause-packets : goal.returns-clause-packets
returns-clause-packets c = (filled_all _ _ _ _ c.loop-packet.invariant c.loop-packet-test.false).0

pub returns-clause-bound : goal.returns-clause-bound
returns-clause-bound c = (filled_all _ _ _ _ c.loop-packet.invariant c.loop-packet-test.false).1

pub returns-clause-above : goal.returns-clause-above
returns-clause-above c = filled_above _ _ _ _ c.loop-packet.invariant c.loop-packet-test.false

pub returns-clause-grows : goal.returns-clause-grows
returns-clause-grows c = c.loop-packet.invariant.grows
