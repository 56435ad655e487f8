use Rattle.std.proofs.Common.{true}
use Rattle.std.specs.Prelude.{⊤}
use Rattle.mg_node.proofs.Claiming.{claimed_sets}
use Rattle.mg_node.proofs.IntakesGrow.{set_leaves}
use Rattle.mg_node.proofs.ClaimsLeave.{same_counts, same_bounds}
use Rattle.mg_node.proofs.intake.claim_known.Goals as goal

pub claim_at-requires-clause-next : goal.claim_at-requires-clause-next
claim_at-requires-clause-next c = (let next = c.requires.next in rw c.in-Sets.is at next)

pub returns-clause-shown : goal.returns-clause-shown
returns-clause-shown c = rw c.in-Sets.is c.claim_at.ensures.shown

pub returns-clause-holds : goal.returns-clause-holds
returns-clause-holds c = λ laws job streams consumer k holds.
    (let h = rw c.in-Sets.is at holds in
    let all = claimed_sets job streams consumer k c.in-Sets.inbox c.claim_at.new.self c.claim_at.new.into h.1 c.claim_at.ensures.policy (c.claim_at.ensures.whole k h.1.came h.1.stands) in
    record { holds = (h.0, all.0); few = all.1.0; shows = all.1.1 })

pub returns-clause-grow : goal.returns-clause-grow
returns-clause-grow c = λ laws job streams consumer k port holds.
    (let h = rw c.in-Sets.is at holds in
    rw c.in-Sets.is (set_leaves _ ⊤ true c.in-Sets.inbox.policy k c.in-Sets.inbox c.claim_at.new.self h.1.came h.1.stands (c.claim_at.ensures.whole k h.1.came h.1.stands) tt port))

pub returns-clause-counts : goal.returns-clause-counts
returns-clause-counts c = λ port.
    rw c.in-Sets.is (same_counts c.claim_at.new.self.pool.spare c.in-Sets.inbox.pool.spare c.claim_at.new.self.pool.ports c.in-Sets.inbox.pool.ports c.claim_at.ensures.counts port)

pub returns-clause-bounds : goal.returns-clause-bounds
returns-clause-bounds c = λ port.
    rw c.in-Sets.is (same_bounds ⊤ true c.in-Sets.inbox.policy c.in-Sets.inbox c.claim_at.new.self c.claim_at.ensures.left tt port)
