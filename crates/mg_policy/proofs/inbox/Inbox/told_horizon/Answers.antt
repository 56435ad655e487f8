use Rattle.mg_policy.proofs.Horizons.{horizon-ready, horizon-none}
use Rattle.mg_policy.proofs.Readinesses.{over_none}
use Rattle.mg_policy.proofs.inbox.Inbox.told_horizon.Goals as goal

pub returns-in-Ready : goal.returns-in-Ready
returns-in-Ready c = horizon-ready _ _ _ c.in-Ready.ensures.waits

pub returns-in-Close : goal.returns-in-Close
returns-in-Close c = horizon-none _ _ _ (over_none _ _ c.in-Close.ensures.waits) c.low.ensures.low

pub returns-in-NotReady : goal.returns-in-NotReady
returns-in-NotReady c = horizon-none _ _ _ c.in-NotReady.ensures.waits.0 c.low-in-NotReady.ensures.low
