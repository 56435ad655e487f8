use Rattle.std.proofs.Common.{ℕ, Some, subst}
use Rattle.mg_feed.specs.LinesSeen.{line_of}
use Rattle.mg_sched.specs.Sweeps.{itself}
use Rattle.mg_replay.specs.Code.Reading.{StopsBy}
use Rattle.mg_replay.proofs.EventLines.{behind_moves, behind_next, opened_by, opened_next, stops_later, stops_not, takes_next, rests_taken, less_taken}
use Rattle.mg_replay.proofs.events.next_event.Goals as goal

pub returns-in_err-next-clause-opened : goal.returns-in_err-next-clause-opened
returns-in_err-next-clause-opened g c = λ boxes inputs first m. opened_by c.args.plan.now boxes inputs first _ _ _ _ _ _ m (behind_moves _ _ _ _ c.in_err-next.ensures.kept)

pub returns-in_err-next-clause-becomes : goal.returns-in_err-next-clause-becomes
returns-in_err-next-clause-becomes g c = itself

pub returns-in-Some-clause-makes : goal.returns-in-Some-clause-makes
returns-in-Some-clause-makes g c = λ boxes inputs first m.
    stops_later c.in_ok-next.next (line_of c.next.new.self) c.args.plan.now boxes inputs c.in-Some.end first _ _ _ _ _ _ m c.in_ok-next.ensures.comes
    (subst (λ (k : ℕ). StopsBy c.in_ok-next.next k (Some c.in-Some.end)) c.number-before.ensures c.in-Some.ensures)

pub returns-in-Some-clause-rests : goal.returns-in-Some-clause-rests
returns-in-Some-clause-rests g c = λ is. absurd (stops_not c.in_ok-next.next _ (Some c.in-Some.end) c.in-Some.ensures is)

pub returns-in-Some-clause-opened : goal.returns-in-Some-clause-opened
returns-in-Some-clause-opened g c = λ boxes inputs first m. opened_by c.args.plan.now boxes inputs first _ _ _ _ _ _ m (behind_next c.in_ok-next.next (line_of c.next.new.self) _ _ _ _ c.in_ok-next.ensures.comes)

pub returns-in-Some-clause-becomes : goal.returns-in-Some-clause-becomes
returns-in-Some-clause-becomes g c = itself

pub returns-in_err-stop-in-None-clause-opened : goal.returns-in_err-stop-in-None-clause-opened
returns-in_err-stop-in-None-clause-opened g c = λ boxes inputs first m.
    opened_next c.in_ok-next.next (line_of c.next.new.self) c.args.plan.now boxes inputs first _ _ _ _ _ _ _ _ _ m c.in_ok-next.ensures.comes c.in-None.ensures c.in_err-stop-in-None.ensures.behind

pub returns-in_ok-stop-in-None-clause-makes : goal.returns-in_ok-stop-in-None-clause-makes
returns-in_ok-stop-in-None-clause-makes g c = λ boxes inputs first m.
    takes_next c.in_ok-stop-in-None.stop c.in_ok-next.next c.args.plan.now boxes inputs first _ _ _ (line_of c.next.new.self) _ _ _ _ _ _ _ _ _ c.requires.plan m c.in_ok-next.ensures.comes c.in_ok-next.ensures.number c.in-None.ensures
    c.in_ok-stop-in-None.ensures.takes

pub returns-in_ok-stop-in-None-clause-rests : goal.returns-in_ok-stop-in-None-clause-rests
returns-in_ok-stop-in-None-clause-rests g c = λ is. rests_taken c.in_ok-stop-in-None.stop c.args.plan.now _ _ _ _ _ _ _ _ _ c.in_ok-stop-in-None.ensures.takes is

pub returns-in_ok-stop-in-None-clause-opened : goal.returns-in_ok-stop-in-None-clause-opened
returns-in_ok-stop-in-None-clause-opened g c = λ boxes inputs first m.
    opened_next c.in_ok-next.next (line_of c.next.new.self) c.args.plan.now boxes inputs first _ _ _ _ _ _ _ _ _ m c.in_ok-next.ensures.comes c.in-None.ensures c.in_ok-stop-in-None.ensures.behind

pub returns-in_ok-stop-in-None-clause-less : goal.returns-in_ok-stop-in-None-clause-less
returns-in_ok-stop-in-None-clause-less g c = λ is. less_taken c.in_ok-stop-in-None.stop c.args.plan.now _ _ _ _ _ _ _ _ _ c.requires.plan c.requires.running c.requires.stands c.in_ok-stop-in-None.ensures.takes is
