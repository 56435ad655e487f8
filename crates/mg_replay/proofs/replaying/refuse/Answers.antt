use Rattle.std.proofs.Common.{refl}
use Rattle.std.proofs.lemmas.Result.{err_from_is_err_and}
use Rattle.mg_sched.proofs.WoundNets.{what_stands_may_wind_up}
use Rattle.mg_replay.proofs.Closed.{back_keeps, back_wound, closed_where}
use Rattle.mg_replay.proofs.replaying.refuse.Goals as goal

pub wind_up-requires : goal.wind_up-requires
wind_up-requires g c = record { may = what_stands_may_wind_up c.put_back_all.new.self (record { job = c.requires.stands.job; stands = c.put_back_all.ensures.stands c.requires.stands.job c.requires.stands.stands }) }

pub returns-in_err-wind_up-clause-unnoted : goal.returns-in_err-wind_up-clause-unnoted
returns-in_err-wind_up-clause-unnoted g c =
    let is = err_from_is_err_and c.from_residual.result c.from_residual.ensures.1 in
    rw is.1 refl

pub returns-in_err-wind_up-clause-stood : goal.returns-in_err-wind_up-clause-stood
returns-in_err-wind_up-clause-stood g c = λ job h. back_wound job c.put_back_all.new.self c.wind_up.new.self (c.put_back_all.ensures.stands job h) c.in_err-wind_up.ensures.wound_up

pub returns-in_err-wind_up-clause-keeps : goal.returns-in_err-wind_up-clause-keeps
returns-in_err-wind_up-clause-keeps g c = back_keeps c.args.net.now c.put_back_all.new.self c.wind_up.new.self _ _ c.put_back_all.ensures.others c.in_err-wind_up.ensures.wound_up

pub returns-in_err-status-clause-unnoted : goal.returns-in_err-status-clause-unnoted
returns-in_err-status-clause-unnoted g c =
    let is = err_from_is_err_and c.from_residual-in_err-status.result c.from_residual-in_err-status.ensures.1 in
    rw is.1 c.in_err-status.ensures.unnoted

pub returns-in_err-status-clause-stood : goal.returns-in_err-status-clause-stood
returns-in_err-status-clause-stood g c = λ job h. back_wound job c.put_back_all.new.self c.wind_up.new.self (c.put_back_all.ensures.stands job h) c.in_ok-wind_up.ensures.wound_up

pub returns-in_err-status-clause-keeps : goal.returns-in_err-status-clause-keeps
returns-in_err-status-clause-keeps g c = back_keeps c.args.net.now c.put_back_all.new.self c.wind_up.new.self _ _ c.put_back_all.ensures.others c.in_ok-wind_up.ensures.wound_up

pub returns-clause-closed : goal.returns-clause-closed
returns-clause-closed g c = λ job h.
    closed_where job c.args.net.now c.put_back_all.new.self c.wind_up.new.self _ _ c.requires.running c.put_back_all.ensures.others (c.put_back_all.ensures.stands job h) c.put_back_all.ensures.none c.in_ok-wind_up.ensures.wound_up c.in_ok-wind_up.ensures.all

pub returns-clause-stood : goal.returns-clause-stood
returns-clause-stood g c = λ job h. back_wound job c.put_back_all.new.self c.wind_up.new.self (c.put_back_all.ensures.stands job h) c.in_ok-wind_up.ensures.wound_up

pub returns-clause-keeps : goal.returns-clause-keeps
returns-clause-keeps g c = back_keeps c.args.net.now c.put_back_all.new.self c.wind_up.new.self _ _ c.put_back_all.ensures.others c.in_ok-wind_up.ensures.wound_up
