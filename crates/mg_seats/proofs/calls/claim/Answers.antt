use Rattle.std.proofs.lemmas.Result.{IfOk-weaker, on_err_weaker}
use Rattle.mg_seats.proofs.Sharing.{has_claimed, has_none, is_lawful}
use Rattle.mg_seats.proofs.calls.claim.Goals as goal

pub returns-in-Done-clause-work : goal.returns-in-Done-clause-work
returns-in-Done-clause-work c =
    let tried = c.in-Done.ensures in
    IfOk-weaker c.work_of.result _ _
    (λ work is. has_claimed c.args.net.now c.args.seat.now c.try_claim.new.seat c.in-Done.claimed work c.args.node c.requires.shared tried.of is tried.tried tried.lawful) c.work_of.ensures.work

pub returns-in-Done-clause-free : goal.returns-in-Done-clause-free
returns-in-Done-clause-free c =
    let tried = c.in-Done.ensures in
    on_err_weaker c.work_of.result
    (λ none. has_none c.args.net.now c.args.seat.now c.try_claim.new.seat c.in-Done.claimed c.args.node c.requires.shared tried.of (none _) tried.tried) c.work_of.ensures.none

pub returns-in-Done-clause-lawful : goal.returns-in-Done-clause-lawful
returns-in-Done-clause-lawful c = IfOk-weaker c.work_of.result _ _ (λ work is. is_lawful _ c.in-Done.claimed work is c.in-Done.ensures.lawful) c.work_of.ensures.work
