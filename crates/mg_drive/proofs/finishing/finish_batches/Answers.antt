use Rattle.std.proofs.lemmas.Result.{err_from_is_err_and}
use Rattle.std.proofs.Common.{refl}
use Rattle.mg_answer.specs.Answer.{output_in}
use Rattle.mg_drive.proofs.Reported.{of_given}
use Rattle.mg_drive.proofs.RunsEnd.{front_whole, rested_of}
use Rattle.mg_drive.proofs.finishing.finish_batches.Goals as goal

pub wound_up-requires : goal.wound_up-requires
wound_up-requires g c = record { rested = rested_of (g.B.Batches.gives g.N.Driven.laws) c.args.run.now.plan.now c.args.closing.end (g.N.Driven.net c.args.net.now) c.args.batches.now c.requires.rested }

pub conclude-requires : goal.conclude-requires
conclude-requires g c = record {
  tells = c.in_ok-outcomes.ensures.tells;
  of = (g.N.Driven.laws, of_given (g.B.Batches.gives g.N.Driven.laws) c.args.run.now.plan.now c.args.closing.end (g.N.Driven.net c.args.net.now) c.args.batches.now c.in_ok-outcomes.outcomes c.requires.rested c.in_ok-outcomes.ensures.told);
}

pub returns-clause-wrote : goal.returns-clause-wrote
returns-clause-wrote g c = λ form job first plan stands rested whole.
    c.in_ok-status.ensures.wrote form job.job first (c.in_ok-outcomes.ensures.ends form job first (g.K.Sink.told c.args.output.now) c.args.closing.text plan stands rested whole)

pub returns-in_err-outcomes-clause-front : goal.returns-in_err-outcomes-clause-front
returns-in_err-outcomes-clause-front g c =
    let is = err_from_is_err_and c.from_residual.result c.from_residual.ensures.1 in
    rw is.1 (λ form job first whole. front_whole form first (g.K.Sink.told c.args.output.now) job c.args.closing.text whole)

pub returns-in_err-status-clause-front : goal.returns-in_err-status-clause-front
returns-in_err-status-clause-front g c =
    let is = err_from_is_err_and c.from_residual-in_err-status.result c.from_residual-in_err-status.ensures.1 in
    rw is.1 (λ form job first whole streams solution. c.in_err-status.ensures.front first (output_in form job.plan streams) (whole streams solution))

pub returns-in_err-outcomes-clause-unnoted : goal.returns-in_err-outcomes-clause-unnoted
returns-in_err-outcomes-clause-unnoted g c =
    let is = err_from_is_err_and c.from_residual.result c.from_residual.ensures.1 in
    rw is.1 refl

pub returns-in_err-status-clause-unnoted : goal.returns-in_err-status-clause-unnoted
returns-in_err-status-clause-unnoted g c =
    let is = err_from_is_err_and c.from_residual-in_err-status.result c.from_residual-in_err-status.ensures.1 in
    rw is.1 c.in_err-status.ensures.unnoted
