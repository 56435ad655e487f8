use Rattle.std.proofs.lemmas.Result.{err_from_is_err_and}
use Rattle.mg_answer.specs.Answer.{packet_lines}
use Rattle.mg_drive.proofs.Looping.{stands_still}
use Rattle.mg_drive.proofs.RunsEnd.{had_of}
use Rattle.mg_replay.proofs.replaying.accept.Goals as goal

pub returns-in_err-text-clause-stood : goal.returns-in_err-text-clause-stood
returns-in_err-text-clause-stood g c = λ job h. stands_still job c.tell_outputs.new.net.net (c.in_err-text.ensures.stands job h)

pub returns-in_err-status-clause-front : goal.returns-in_err-status-clause-front
returns-in_err-status-clause-front g c =
    let is = err_from_is_err_and c.from_residual-in_err-status.result c.from_residual-in_err-status.ensures.1 in
    rw is.1 (λ job streams same h solution. c.in_err-status.ensures.front packet_lines job.job (g.K.Sink.told c.args.output.now) (c.in_ok-text.ensures.whole job same h) streams solution)

pub returns-in_err-status-2-clause-front : goal.returns-in_err-status-2-clause-front
returns-in_err-status-2-clause-front g c =
    let is = err_from_is_err_and c.from_residual-in_err-status-2.result c.from_residual-in_err-status-2.ensures.1 in
    rw is.1 (λ job streams same h solution. c.in_err-status-2.ensures.front packet_lines job.job (g.K.Sink.told c.args.output.now) (c.in_ok-text.ensures.whole job same h) streams solution)

pub returns-then-ended-clause-had : goal.returns-then-ended-clause-had
returns-then-ended-clause-had g c = λ job h.
    had_of job c.tell_outputs.new.net.net c.finish.new.net.net (c.in_ok-text.ensures.stands job h) (c.in_ok-text.ensures.rested job h) c.in_ok-status.ensures.wound.0 c.in_ok-status.ensures.wound.1

pub returns-clause-had : goal.returns-clause-had
returns-clause-had g c = λ job h.
    had_of job c.tell_outputs.new.net.net c.finish_frozen.new.net.net (c.in_ok-text.ensures.stands job h) (c.in_ok-text.ensures.rested job h) c.in_ok-status-2.ensures.wound.0 c.in_ok-status-2.ensures.wound.1

pub finish-requires : goal.finish-requires
finish-requires g c =
    let s = c.requires.stands in
    record { rested = record { job = s.job; plan_is = s.plan_is; stands = c.in_ok-text.ensures.stands s.job s.stands; has_rested = c.in_ok-text.ensures.rested s.job s.stands } }

pub finish_frozen-requires : goal.finish_frozen-requires
finish_frozen-requires g c =
    let s = c.requires.stands in
    record { rested = record { job = s.job; plan_is = s.plan_is; stands = c.in_ok-text.ensures.stands s.job s.stands; has_rested = c.in_ok-text.ensures.rested s.job s.stands } }
