use Rattle.mg_seats.proofs.Outputs.{outputs_stay}
use Rattle.mg_seats.proofs.nets.together.Goals as goal

pub returns-clause-outputs : goal.returns-clause-outputs
returns-clause-outputs c = λ count came. outputs_stay count came.before _ (c.unshare-net.ensures.became came.before came.has.stands came.of).stands came.has
