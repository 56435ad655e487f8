use Rattle.std.proofs.Common.{refl}
use Rattle.mg_sched.specs.Sweeps.{itself}
use Rattle.mg_replay.proofs.EventLines.{net_event, makes_by, none_makes}
use Rattle.mg_replay.proofs.events.make_line.Goals as goal

pub make_event-requires-clause-event : goal.make_event-requires-clause-event
make_event-requires-clause-event g c = net_event c.in-Some.event c.args.plan.now c.args.net.now c.requires.plan ((c.in-Some.ensures c.in-Some.event).0 refl).0

pub returns-in_ok-stop-in-Some-clause-makes : goal.returns-in_ok-stop-in-Some-clause-makes
returns-in_ok-stop-in-Some-clause-makes g c =
    let says = (c.in-Some.ensures c.in-Some.event).0 refl in
    makes_by g.C.NodeCalculator.laws c.in_ok-stop-in-Some.stop c.in-Some.event c.args.plan.now c.args.line.now c.args.number _ _ says.0 says.1 c.in_ok-stop-in-Some.ensures.makes

pub returns-in-None-clause-makes : goal.returns-in-None-clause-makes
returns-in-None-clause-makes g c = none_makes g.C.NodeCalculator.laws c.args.plan.now c.args.line.now c.args.number c.args.net.now c.args.net.now c.in-None.ensures

pub returns-in-None-clause-becomes : goal.returns-in-None-clause-becomes
returns-in-None-clause-becomes g c = itself
