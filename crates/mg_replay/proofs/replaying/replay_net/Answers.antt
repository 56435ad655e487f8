use Rattle.std.proofs.Common.{refl, sym, ◌∙◌}
use Rattle.std.proofs.lemmas.Result.{err_from_is_err_and}
use Rattle.mg_sched.specs.Made.{job_of}
use Rattle.mg_drive.proofs.Looping.{keeps_on, begins_keep, stands_still}
use Rattle.mg_sched.proofs.Becoming.{becomes_runs, becomes_stands}
use Rattle.mg_replay.proofs.Ended.{is_accepted, not_accepted, making_begins, stands_begun, stands_later, some_stands, plan_is_of, none_taken, keeps_later, stood_later, net_accepted, net_refused, short_begun, short_events, short_accepted}
use Rattle.mg_replay.proofs.replaying.replay_net.Goals as goal

pub begin-requires : goal.begin-requires
begin-requires g c = record { stands = record { job = job_of g.C.NodeCalculator.laws c.args.run.now.plan.now c.requires.made.inputs c.requires.made.boxes; stands = c.requires.made.made.stands } }

pub returns-in_err-begin-clause-some : goal.returns-in_err-begin-clause-some
returns-in_err-begin-clause-some g c =
    let is = err_from_is_err_and c.from_residual.result c.from_residual.ensures.1 in
    rw is.1 (λ inputs boxes first made same has. short_begun c.args.run.now.plan.now inputs boxes first _ _ _ _ _ c.begin.new.self has refl
    (stands_still (job_of g.C.NodeCalculator.laws c.args.run.now.plan.now inputs boxes) c.begin.new.self (c.in_err-begin.ensures.stands (job_of g.C.NodeCalculator.laws c.args.run.now.plan.now inputs boxes) made.stands)))

pub returns-in_err-begin-clause-unnoted : goal.returns-in_err-begin-clause-unnoted
returns-in_err-begin-clause-unnoted g c =
    let is = err_from_is_err_and c.from_residual.result c.from_residual.ensures.1 in
    rw is.1 refl

pub returns-in_err-begin-clause-stood : goal.returns-in_err-begin-clause-stood
returns-in_err-begin-clause-stood g c = λ job h. stands_still job c.begin.new.self (c.in_err-begin.ensures.stands job h)

pub returns-in_err-begin-clause-keeps : goal.returns-in_err-begin-clause-keeps
returns-in_err-begin-clause-keeps g c = begins_keep c.args.net.now.net c.begin.new.self c.in_err-begin.ensures.begins

pub replay_events-requires-clause-plan : goal.replay_events-requires-clause-plan
replay_events-requires-clause-plan g c = plan_is_of c.args.run.now.plan.now c.begin.new.self (stands_begun c.args.run.now.plan.now c.args.net.now.net c.begin.new.self c.requires.made c.in_ok-begin.ensures.stands)

pub replay_events-requires-clause-stands : goal.replay_events-requires-clause-stands
replay_events-requires-clause-stands g c = some_stands c.args.run.now.plan.now c.begin.new.self (stands_begun c.args.run.now.plan.now c.args.net.now.net c.begin.new.self c.requires.made c.in_ok-begin.ensures.stands)

pub returns-in_err-end-clause-some : goal.returns-in_err-end-clause-some
returns-in_err-end-clause-some g c =
    let is = err_from_is_err_and c.from_residual-in_err-end.result c.from_residual-in_err-end.ensures.1 in
    rw is.1 (λ inputs boxes first made same has.
    short_events c.args.run.now.plan.now inputs boxes _ _ _ c.replay_events.new.net
    (c.in_err-end.ensures.opened boxes inputs first
    (making_begins c.args.run.now.plan.now inputs boxes first _ _ _ c.args.net.now.net c.begin.new.self made c.in_ok-begin.ensures.begins c.in_ok-begin.ensures.stands c.in_ok-begin.ensures.running has)) refl
    (stood_later (job_of g.C.NodeCalculator.laws c.args.run.now.plan.now inputs boxes) c.begin.new.self c.replay_events.new.net c.in_ok-begin.ensures.running (c.in_ok-begin.ensures.stands (job_of g.C.NodeCalculator.laws c.args.run.now.plan.now inputs boxes) made.stands) c.in_err-end.ensures.becomes))

pub returns-in_err-end-clause-unnoted : goal.returns-in_err-end-clause-unnoted
returns-in_err-end-clause-unnoted g c =
    let is = err_from_is_err_and c.from_residual-in_err-end.result c.from_residual-in_err-end.ensures.1 in
    rw is.1 refl

pub returns-in_err-end-clause-stood : goal.returns-in_err-end-clause-stood
returns-in_err-end-clause-stood g c = λ job h. stood_later job c.begin.new.self c.replay_events.new.net c.in_ok-begin.ensures.running (c.in_ok-begin.ensures.stands job h) c.in_err-end.ensures.becomes

pub returns-in_err-end-clause-keeps : goal.returns-in_err-end-clause-keeps
returns-in_err-end-clause-keeps g c = keeps_later c.args.net.now.net c.begin.new.self c.replay_events.new.net c.in_ok-begin.ensures.begins c.in_err-end.ensures.becomes

pub accept-requires-clause-running : goal.accept-requires-clause-running
accept-requires-clause-running g c = becomes_runs c.begin.new.self c.replay_events.new.net c.in_ok-begin.ensures.running c.in_ok-end.ensures.becomes

pub accept-requires-clause-rests : goal.accept-requires-clause-rests
accept-requires-clause-rests g c = c.in_ok-end.ensures.rests (is_accepted c.in_ok-end.end (sym c.is_accepted.ensures ∙ c.if-is_accepted.true))

pub accept-requires-clause-stands : goal.accept-requires-clause-stands
accept-requires-clause-stands g c = stands_later c.args.run.now.plan.now c.begin.new.self c.replay_events.new.net c.in_ok-begin.ensures.running (stands_begun c.args.run.now.plan.now c.args.net.now.net c.begin.new.self c.requires.made c.in_ok-begin.ensures.stands) c.in_ok-end.ensures.becomes

pub accept-requires-clause-untaken : goal.accept-requires-clause-untaken
accept-requires-clause-untaken g c = none_taken c.args.run.now.plan.now c.requires.made.inputs c.requires.made.boxes c.args.net.now.net c.begin.new.self c.replay_events.new.net c.requires.made.made c.in_ok-begin.ensures.begins c.in_ok-end.ensures.becomes

pub returns-in_err-status-clause-some : goal.returns-in_err-status-clause-some
returns-in_err-status-clause-some g c =
    let is = err_from_is_err_and c.from_residual-in_err-status.result c.from_residual-in_err-status.ensures.1 in
    rw is.1 (λ inputs boxes first made same has.
    short_accepted c.args.run.now.plan.now inputs boxes c.in_ok-end.end _ _ _ c.accept.new.net.net (is_accepted c.in_ok-end.end (sym c.is_accepted.ensures ∙ c.if-is_accepted.true))
    (c.in_ok-end.ensures.read boxes inputs first (making_begins c.args.run.now.plan.now inputs boxes first _ _ _ c.args.net.now.net c.begin.new.self made c.in_ok-begin.ensures.begins c.in_ok-begin.ensures.stands c.in_ok-begin.ensures.running has))
    (c.in_ok-end.ensures.opened boxes inputs first (making_begins c.args.run.now.plan.now inputs boxes first _ _ _ c.args.net.now.net c.begin.new.self made c.in_ok-begin.ensures.begins c.in_ok-begin.ensures.stands c.in_ok-begin.ensures.running has))
    (λ streams solution. c.in_err-status.ensures.front (job_of g.C.NodeCalculator.laws c.args.run.now.plan.now inputs boxes) streams refl (becomes_stands (job_of g.C.NodeCalculator.laws c.args.run.now.plan.now inputs boxes) c.begin.new.self c.replay_events.new.net c.in_ok-begin.ensures.running (c.in_ok-begin.ensures.stands (job_of g.C.NodeCalculator.laws c.args.run.now.plan.now inputs boxes) made.stands) c.in_ok-end.ensures.becomes) solution)
    (c.in_err-status.ensures.stood (job_of g.C.NodeCalculator.laws c.args.run.now.plan.now inputs boxes) (becomes_stands (job_of g.C.NodeCalculator.laws c.args.run.now.plan.now inputs boxes) c.begin.new.self c.replay_events.new.net c.in_ok-begin.ensures.running (c.in_ok-begin.ensures.stands (job_of g.C.NodeCalculator.laws c.args.run.now.plan.now inputs boxes) made.stands) c.in_ok-end.ensures.becomes)))

pub returns-in_err-status-clause-stood : goal.returns-in_err-status-clause-stood
returns-in_err-status-clause-stood g c = λ job h. c.in_err-status.ensures.stood job (becomes_stands job c.begin.new.self c.replay_events.new.net c.in_ok-begin.ensures.running (c.in_ok-begin.ensures.stands job h) c.in_ok-end.ensures.becomes)

pub returns-in_err-status-clause-keeps : goal.returns-in_err-status-clause-keeps
returns-in_err-status-clause-keeps g c = keeps_on c.args.net.now.net c.replay_events.new.net c.accept.new.net.net (keeps_later c.args.net.now.net c.begin.new.self c.replay_events.new.net c.in_ok-begin.ensures.begins c.in_ok-end.ensures.becomes) c.in_err-status.ensures.keeps

pub returns-then-is_accepted-clause-replayed : goal.returns-then-is_accepted-clause-replayed
returns-then-is_accepted-clause-replayed g c = λ inputs boxes first made same has.
    net_accepted c.args.run.now.report c.args.run.now.plan.now inputs boxes c.args.ended c.in_ok-end.end c.in_ok-status.status _ _ _ c.accept.new.net.net (is_accepted c.in_ok-end.end (sym c.is_accepted.ensures ∙ c.if-is_accepted.true)) same
    (c.in_ok-end.ensures.read boxes inputs first (making_begins c.args.run.now.plan.now inputs boxes first _ _ _ c.args.net.now.net c.begin.new.self made c.in_ok-begin.ensures.begins c.in_ok-begin.ensures.stands c.in_ok-begin.ensures.running has))
    (c.in_ok-status.ensures.wrote (job_of g.C.NodeCalculator.laws c.args.run.now.plan.now inputs boxes) refl (becomes_stands (job_of g.C.NodeCalculator.laws c.args.run.now.plan.now inputs boxes) c.begin.new.self c.replay_events.new.net c.in_ok-begin.ensures.running (c.in_ok-begin.ensures.stands (job_of g.C.NodeCalculator.laws c.args.run.now.plan.now inputs boxes) made.stands) c.in_ok-end.ensures.becomes)) (c.in_ok-status.ensures.had (job_of g.C.NodeCalculator.laws c.args.run.now.plan.now inputs boxes) (becomes_stands (job_of g.C.NodeCalculator.laws c.args.run.now.plan.now inputs boxes) c.begin.new.self c.replay_events.new.net c.in_ok-begin.ensures.running (c.in_ok-begin.ensures.stands (job_of g.C.NodeCalculator.laws c.args.run.now.plan.now inputs boxes) made.stands) c.in_ok-end.ensures.becomes))
    (c.in_ok-status.ensures.stood (job_of g.C.NodeCalculator.laws c.args.run.now.plan.now inputs boxes) (becomes_stands (job_of g.C.NodeCalculator.laws c.args.run.now.plan.now inputs boxes) c.begin.new.self c.replay_events.new.net c.in_ok-begin.ensures.running (c.in_ok-begin.ensures.stands (job_of g.C.NodeCalculator.laws c.args.run.now.plan.now inputs boxes) made.stands) c.in_ok-end.ensures.becomes))

pub returns-then-is_accepted-clause-stood : goal.returns-then-is_accepted-clause-stood
returns-then-is_accepted-clause-stood g c = λ job h. c.in_ok-status.ensures.stood job (becomes_stands job c.begin.new.self c.replay_events.new.net c.in_ok-begin.ensures.running (c.in_ok-begin.ensures.stands job h) c.in_ok-end.ensures.becomes)

pub returns-then-is_accepted-clause-keeps : goal.returns-then-is_accepted-clause-keeps
returns-then-is_accepted-clause-keeps g c = keeps_on c.args.net.now.net c.replay_events.new.net c.accept.new.net.net (keeps_later c.args.net.now.net c.begin.new.self c.replay_events.new.net c.in_ok-begin.ensures.begins c.in_ok-end.ensures.becomes) c.in_ok-status.ensures.keeps

pub refuse-requires-clause-running : goal.refuse-requires-clause-running
refuse-requires-clause-running g c = becomes_runs c.begin.new.self c.replay_events.new.net c.in_ok-begin.ensures.running c.in_ok-end.ensures.becomes

pub refuse-requires-clause-stands : goal.refuse-requires-clause-stands
refuse-requires-clause-stands g c = some_stands c.args.run.now.plan.now c.replay_events.new.net (stands_later c.args.run.now.plan.now c.begin.new.self c.replay_events.new.net c.in_ok-begin.ensures.running (stands_begun c.args.run.now.plan.now c.args.net.now.net c.begin.new.self c.requires.made c.in_ok-begin.ensures.stands) c.in_ok-end.ensures.becomes)

pub returns-in_err-status-2-clause-some : goal.returns-in_err-status-2-clause-some
returns-in_err-status-2-clause-some g c =
    let is = err_from_is_err_and c.from_residual-in_err-status-2.result c.from_residual-in_err-status-2.ensures.1 in
    rw is.1 (λ inputs boxes first made same has.
    short_events c.args.run.now.plan.now inputs boxes _ _ _ c.refuse.new.net (c.in_ok-end.ensures.opened boxes inputs first (making_begins c.args.run.now.plan.now inputs boxes first _ _ _ c.args.net.now.net c.begin.new.self made c.in_ok-begin.ensures.begins c.in_ok-begin.ensures.stands c.in_ok-begin.ensures.running has)) refl (c.in_err-status-2.ensures.stood (job_of g.C.NodeCalculator.laws c.args.run.now.plan.now inputs boxes) (becomes_stands (job_of g.C.NodeCalculator.laws c.args.run.now.plan.now inputs boxes) c.begin.new.self c.replay_events.new.net c.in_ok-begin.ensures.running (c.in_ok-begin.ensures.stands (job_of g.C.NodeCalculator.laws c.args.run.now.plan.now inputs boxes) made.stands) c.in_ok-end.ensures.becomes)))

pub returns-in_err-status-2-clause-stood : goal.returns-in_err-status-2-clause-stood
returns-in_err-status-2-clause-stood g c = λ job h. c.in_err-status-2.ensures.stood job (becomes_stands job c.begin.new.self c.replay_events.new.net c.in_ok-begin.ensures.running (c.in_ok-begin.ensures.stands job h) c.in_ok-end.ensures.becomes)

pub returns-in_err-status-2-clause-keeps : goal.returns-in_err-status-2-clause-keeps
returns-in_err-status-2-clause-keeps g c = keeps_on c.args.net.now.net c.replay_events.new.net c.refuse.new.net (keeps_later c.args.net.now.net c.begin.new.self c.replay_events.new.net c.in_ok-begin.ensures.begins c.in_ok-end.ensures.becomes) c.in_err-status-2.ensures.keeps

pub returns-clause-replayed : goal.returns-clause-replayed
returns-clause-replayed g c = λ inputs boxes first made same has.
    net_refused c.args.run.now.report c.args.run.now.plan.now inputs boxes c.in_ok-end.end c.in_ok-status-2.status _ _ _ c.refuse.new.net (not_accepted c.in_ok-end.end (sym c.is_accepted.ensures ∙ c.if-is_accepted.false))
    (c.in_ok-end.ensures.read boxes inputs first (making_begins c.args.run.now.plan.now inputs boxes first _ _ _ c.args.net.now.net c.begin.new.self made c.in_ok-begin.ensures.begins c.in_ok-begin.ensures.stands c.in_ok-begin.ensures.running has)) refl
    c.in_ok-status-2.ensures.wrote (c.in_ok-status-2.ensures.closed (job_of g.C.NodeCalculator.laws c.args.run.now.plan.now inputs boxes) (becomes_stands (job_of g.C.NodeCalculator.laws c.args.run.now.plan.now inputs boxes) c.begin.new.self c.replay_events.new.net c.in_ok-begin.ensures.running (c.in_ok-begin.ensures.stands (job_of g.C.NodeCalculator.laws c.args.run.now.plan.now inputs boxes) made.stands) c.in_ok-end.ensures.becomes)) (c.in_ok-status-2.ensures.stood (job_of g.C.NodeCalculator.laws c.args.run.now.plan.now inputs boxes) (becomes_stands (job_of g.C.NodeCalculator.laws c.args.run.now.plan.now inputs boxes) c.begin.new.self c.replay_events.new.net c.in_ok-begin.ensures.running (c.in_ok-begin.ensures.stands (job_of g.C.NodeCalculator.laws c.args.run.now.plan.now inputs boxes) made.stands) c.in_ok-end.ensures.becomes))

pub returns-clause-stood : goal.returns-clause-stood
returns-clause-stood g c = λ job h. c.in_ok-status-2.ensures.stood job (becomes_stands job c.begin.new.self c.replay_events.new.net c.in_ok-begin.ensures.running (c.in_ok-begin.ensures.stands job h) c.in_ok-end.ensures.becomes)

pub returns-clause-keeps : goal.returns-clause-keeps
returns-clause-keeps g c = keeps_on c.args.net.now.net c.replay_events.new.net c.refuse.new.net (keeps_later c.args.net.now.net c.begin.new.self c.replay_events.new.net c.in_ok-begin.ensures.begins c.in_ok-end.ensures.becomes) c.in_ok-status-2.ensures.keeps
