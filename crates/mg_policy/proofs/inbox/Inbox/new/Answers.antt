use Rattle.mg_policy.proofs.Answered.{fresh}
use Rattle.mg_policy.proofs.inbox.Inbox.new.Goals as goal

pub returns-clause-stand : goal.returns-clause-stand
returns-clause-stand c = fresh c.args.policy c.args.ports c.in_ok-pool.pool c.in_ok-pool.ensures
