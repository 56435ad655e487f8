use Rattle.std.proofs.Common.{inl, refl}
use Rattle.std.proofs.lemmas.Result.{err_from_is_err_and}
use Rattle.mg_feed.specs.Graph.{inputs_of}
use Rattle.mg_answer.specs.Devices.{device}
use Rattle.mg_answer.proofs.Gathering.{read-came}
use Rattle.mg_answer.proofs.Answering.{ran-wrote, ran-out}
use Rattle.mg_answer.proofs.solving.solve_read.Goals as goal

pub returns-in_err-whole-clause-read : goal.returns-in_err-whole-clause-read
returns-in_err-whole-clause-read g c =
    let is = err_from_is_err_and c.from_residual.result c.from_residual.ensures.1 in
    rw is.1 c.in_err-whole.ensures.short

pub returns-in_err-whole-clause-short : goal.returns-in_err-whole-clause-short
returns-in_err-whole-clause-short g c =
    let is = err_from_is_err_and c.from_residual.result c.from_residual.ensures.1 in
    rw is.1 (λ laws. inl refl)

pub returns-in_err-status-clause-read : goal.returns-in_err-status-clause-read
returns-in_err-status-clause-read g c =
    let is = err_from_is_err_and c.from_residual-in_err-status.result c.from_residual-in_err-status.ensures.1 in
    let gathered = c.in_ok-whole.ensures.gathered in
    rw is.1
    (read-came (inputs_of c.args.run.now.plan.now) (device (g.S.Source.told c.args.devices.now.input.now) (g.S.Source.told c.read_whole.new.input)) gathered.read gathered.came)

pub returns-in_err-status-clause-short : goal.returns-in_err-status-clause-short
returns-in_err-status-clause-short g c =
    let is = err_from_is_err_and c.from_residual-in_err-status.result c.from_residual-in_err-status.ensures.1 in
    rw is.1
    (λ laws. ran-out laws c.args.run.now.report c.args.run.now.plan.now (device (g.S.Source.told c.args.devices.now.input.now) (g.S.Source.told c.read_whole.new.input)) c.in_ok-whole.whole.end c.in_ok-whole.whole.inputs _
    c.in_ok-whole.ensures.gathered (c.in_err-status.ensures.wrote laws))

pub returns-clause-ran : goal.returns-clause-ran
returns-clause-ran g c = λ laws.
    ran-wrote laws c.args.run.now.report c.args.run.now.plan.now (device (g.S.Source.told c.args.devices.now.input.now) (g.S.Source.told c.read_whole.new.input)) c.in_ok-whole.whole.end c.in_ok-whole.whole.inputs
    c.in_ok-status.status _ _ c.in_ok-whole.ensures.gathered (c.in_ok-status.ensures.wrote laws)
