use Rattle.mg_node.proofs.Claiming.{claimed_sets, on_true}
use Rattle.mg_node.proofs.IntakesGrow.{set_leaves}
use Rattle.mg_node.proofs.ClaimsLeave.{same_counts, same_bounds}
use Rattle.mg_node.proofs.intake.claim_of.Goals as goal

pub returns-in-Sets-clause-holds : goal.returns-in-Sets-clause-holds
returns-in-Sets-clause-holds c = λ laws job streams consumer k holds.
    (let h = rw c.in-Sets.is at holds in
    on_true c.claim.result (λ next. (let all = claimed_sets job streams consumer k c.in-Sets.inbox c.claim.new.self c.claim.new.into h.1 c.claim.ensures.policy next in
    record { holds = (h.0, all.0); few = all.1.0; shows = all.1.1 })) (c.claim.ensures.whole k h.1.came h.1.stands))

pub returns-in-Sets-clause-grow : goal.returns-in-Sets-clause-grow
returns-in-Sets-clause-grow c = λ laws job streams consumer k port holds.
    (let h = rw c.in-Sets.is at holds in
    rw c.in-Sets.is (set_leaves _ _ c.claim.result c.in-Sets.inbox.policy k c.in-Sets.inbox c.claim.new.self h.1.came h.1.stands (c.claim.ensures.whole k h.1.came h.1.stands) c.claim.ensures.unchanged port))

pub returns-in-Sets-clause-counts : goal.returns-in-Sets-clause-counts
returns-in-Sets-clause-counts c = λ port.
    rw c.in-Sets.is (same_counts c.claim.new.self.pool.spare c.in-Sets.inbox.pool.spare c.claim.new.self.pool.ports c.in-Sets.inbox.pool.ports c.claim.ensures.counts port)

pub returns-in-Sets-clause-bounds : goal.returns-in-Sets-clause-bounds
returns-in-Sets-clause-bounds c = λ port.
    rw c.in-Sets.is (same_bounds _ c.claim.result c.in-Sets.inbox.policy c.in-Sets.inbox c.claim.new.self c.claim.ensures.left c.claim.ensures.unchanged port)
