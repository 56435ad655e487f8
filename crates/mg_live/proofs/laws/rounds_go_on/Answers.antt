use Rattle.mg_live.proofs.Following.{is_job, round_goes_on, batch_goes_on}
use Rattle.mg_live.proofs.laws.rounds_go_on.Goals as goal

pub returns-clause-job : goal.returns-clause-job
returns-clause-job c = is_job

pub returns-clause-round : goal.returns-clause-round
returns-clause-round c = round_goes_on

pub returns-clause-batch : goal.returns-clause-batch
returns-clause-batch c = batch_goes_on
