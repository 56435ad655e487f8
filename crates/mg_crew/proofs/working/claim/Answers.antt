use Rattle.mg_crew.proofs.Sharing.{claim_left, missed_work, stays_shared, has_claimed}
use Rattle.mg_crew.proofs.working.claim.Goals as goal

pub returns-in-Done-Work-clause-work : goal.returns-in-Done-Work-clause-work
returns-in-Done-Work-clause-work g c =
    has_claimed c.args.net.now c.args.seat.now c.try_claim.new.seat c.in-Done-Work.work c.requires.shared c.in-Done-Work.ensures.of
    (claim_left _ _ _ _ (rw c.in-Done-Work.field-0-is at c.in-Done-Work.ensures.tried)) (λ job fits. rw c.in-Done-Work.field-0-is at (c.in-Done-Work.ensures.lawful job fits))

pub returns-in-Done-Work-clause-lawful : goal.returns-in-Done-Work-clause-lawful
returns-in-Done-Work-clause-lawful g c = λ job fits. rw c.in-Done-Work.field-0-is at (c.in-Done-Work.ensures.lawful job fits)

pub returns-in-Done-Answered-clause-none : goal.returns-in-Done-Answered-clause-none
returns-in-Done-Answered-clause-none g c =
    stays_shared c.args.net.now c.args.seat.now c.try_claim.new.seat c.requires.shared c.in-Done-Answered.ensures.of (claim_left _ _ _ _ (rw c.in-Done-Answered.field-0-is at c.in-Done-Answered.ensures.tried)) c.in-Done-Answered.ensures.keeps

pub returns-in-Done-NotReady-clause-none : goal.returns-in-Done-NotReady-clause-none
returns-in-Done-NotReady-clause-none g c =
    stays_shared c.args.net.now c.args.seat.now c.try_claim.new.seat c.requires.shared c.in-Done-NotReady.ensures.of (claim_left _ _ _ _ (rw c.in-Done-NotReady.field-0-is at c.in-Done-NotReady.ensures.tried)) c.in-Done-NotReady.ensures.keeps

pub returns-in-Done-InFlightFull-clause-none : goal.returns-in-Done-InFlightFull-clause-none
returns-in-Done-InFlightFull-clause-none g c =
    stays_shared c.args.net.now c.args.seat.now c.try_claim.new.seat c.requires.shared c.in-Done-InFlightFull.ensures.of (claim_left _ _ _ _ (rw c.in-Done-InFlightFull.field-0-is at c.in-Done-InFlightFull.ensures.tried)) c.in-Done-InFlightFull.ensures.keeps

pub returns-in-Done-Draining-clause-none : goal.returns-in-Done-Draining-clause-none
returns-in-Done-Draining-clause-none g c =
    stays_shared c.args.net.now c.args.seat.now c.try_claim.new.seat c.requires.shared c.in-Done-Draining.ensures.of (claim_left _ _ _ _ (rw c.in-Done-Draining.field-0-is at c.in-Done-Draining.ensures.tried)) c.in-Done-Draining.ensures.keeps

pub returns-in-Done-Ended-clause-none : goal.returns-in-Done-Ended-clause-none
returns-in-Done-Ended-clause-none g c =
    stays_shared c.args.net.now c.args.seat.now c.try_claim.new.seat c.requires.shared c.in-Done-Ended.ensures.of (claim_left _ _ _ _ (rw c.in-Done-Ended.field-0-is at c.in-Done-Ended.ensures.tried)) c.in-Done-Ended.ensures.keeps

pub returns-in-Done-OutOfMemory-clause-none : goal.returns-in-Done-OutOfMemory-clause-none
returns-in-Done-OutOfMemory-clause-none g c =
    stays_shared c.args.net.now c.args.seat.now c.try_claim.new.seat c.requires.shared c.in-Done-OutOfMemory.ensures.of (claim_left _ _ _ _ (rw c.in-Done-OutOfMemory.field-0-is at c.in-Done-OutOfMemory.ensures.tried)) c.in-Done-OutOfMemory.ensures.keeps

pub returns-in-Busy-clause-none : goal.returns-in-Busy-clause-none
returns-in-Busy-clause-none g c = stays_shared c.args.net.now c.args.seat.now c.try_claim.new.seat c.requires.shared c.in-Busy.ensures.of (missed_work _ _ _ _ _ c.in-Busy.ensures.tried) c.in-Busy.ensures.keeps
