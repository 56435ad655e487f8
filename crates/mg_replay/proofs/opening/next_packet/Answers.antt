use Rattle.std.proofs.Common.{ℕ, Some, refl, subst, arith}
use Rattle.mg_feed.specs.LinesSeen.{line_of}
use Rattle.mg_replay.specs.Code.Reading.{StopsBy}
use Rattle.mg_replay.proofs.JobLines.{stops_early, opens_next, one_more}
use Rattle.mg_replay.proofs.opening.next_packet.Goals as goal

pub returns-in-Some-clause-opens : goal.returns-in-Some-clause-opens
returns-in-Some-clause-opens g c = λ laws plan first o boxes.
    stops_early c.in_ok-next.next (line_of c.next.new.self) plan boxes c.in-Some.end first _ _ _ _ _ _ o c.in_ok-next.ensures.comes
    (subst (λ (k : ℕ). StopsBy c.in_ok-next.next k (Some c.in-Some.end)) c.number-before.ensures c.in-Some.ensures) (c.in_ok-next.ensures.any refl)

pub returns-in_ok-opened-in-None-clause-opens : goal.returns-in_ok-opened-in-None-clause-opens
returns-in_ok-opened-in-None-clause-opens g c = λ laws plan first o.
    opens_next laws c.in_ok-opened-in-None.opened c.in_ok-next.next (line_of c.next.new.self) c.line.result.now plan first _ _ _ _ _ _ _ c.number.result _ _ o c.in_ok-next.ensures.comes c.in_ok-next.ensures.number c.in-None.ensures c.line.ensures c.number.ensures
    c.in_ok-opened-in-None.ensures

pub returns-in_ok-opened-in-None-clause-more : goal.returns-in_ok-opened-in-None-clause-more
returns-in_ok-opened-in-None-clause-more g c = λ going.
    let next = one_more c.in_ok-next.next _ _ _ c.in_ok-next.ensures.number c.in-None.ensures in
    let few = c.in_ok-next.ensures.few in
    (omega (arith, next), omega (arith, next, few))
