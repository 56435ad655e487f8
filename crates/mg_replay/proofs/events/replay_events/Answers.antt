use Rattle.std.proofs.Common.{Some, ap, ◌∙◌}
use Rattle.mg_sched.specs.Sweeps.{itself}
use Rattle.mg_sched.proofs.Becoming.{becomes_trans, becomes_plan, becomes_runs, becomes_some}
use Rattle.mg_replay.proofs.EventLines.{making_on, making_ends}
use Rattle.mg_replay.proofs.events.replay_events.Goals as goal

pub events-init : goal.events-init
events-init g c = (itself, λ boxes inputs first m. m)

pub next_event-requires-clause-plan : goal.next_event-requires-clause-plan
next_event-requires-clause-plan g c = becomes_plan _ _ c.events.invariant.0 ∙ c.requires.plan

pub next_event-requires-clause-running : goal.next_event-requires-clause-running
next_event-requires-clause-running g c = becomes_runs _ _ c.requires.running c.events.invariant.0

pub next_event-requires-clause-stands : goal.next_event-requires-clause-stands
next_event-requires-clause-stands g c = becomes_some _ _ c.requires.running c.requires.stands c.events.invariant.0

pub events-preserved : goal.events-preserved
events-preserved g c = (
  becomes_trans _ _ _ c.events.invariant.0 c.in_ok-stop.ensures.becomes,
  λ boxes inputs first m. making_on c.in_ok-stop.stop _ boxes inputs first _ _ _ _ (c.in_ok-stop.ensures.makes boxes inputs first (c.events.invariant.1 boxes inputs first m)) c.in-None.is,
)

pub events-smaller : goal.events-smaller
events-smaller g c = c.in_ok-stop.ensures.less c.in-None.is

pub returns-in-Some-clause-read : goal.returns-in-Some-clause-read
returns-in-Some-clause-read g c = λ boxes inputs first m. making_ends c.in_ok-stop.stop c.in-Some.end _ boxes inputs first _ _ _ _ (c.in_ok-stop.ensures.makes boxes inputs first (c.events.invariant.1 boxes inputs first m)) c.in-Some.is

pub returns-in-Some-clause-rests : goal.returns-in-Some-clause-rests
returns-in-Some-clause-rests g c = λ is. c.in_ok-stop.ensures.rests (c.in-Some.is ∙ ap Some is)

pub returns-in-Some-clause-opened : goal.returns-in-Some-clause-opened
returns-in-Some-clause-opened g c = λ boxes inputs first m. c.in_ok-stop.ensures.opened boxes inputs first (c.events.invariant.1 boxes inputs first m)

pub returns-in-Some-clause-becomes : goal.returns-in-Some-clause-becomes
returns-in-Some-clause-becomes g c = becomes_trans _ _ _ c.events.invariant.0 c.in_ok-stop.ensures.becomes

pub returns-in_err-stop-clause-opened : goal.returns-in_err-stop-clause-opened
returns-in_err-stop-clause-opened g c = λ boxes inputs first m. c.in_err-stop.ensures.opened boxes inputs first (c.events.invariant.1 boxes inputs first m)

pub returns-in_err-stop-clause-becomes : goal.returns-in_err-stop-clause-becomes
returns-in_err-stop-clause-becomes g c = becomes_trans _ _ _ c.events.invariant.0 c.in_err-stop.ensures.becomes
