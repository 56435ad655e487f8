use Rattle.mg_seats.proofs.Outputs.{outputs_stay}
use Rattle.mg_seats.proofs.nets.take_next.Goals as goal

pub returns : goal.returns
returns c = record { outputs = outputs_stay _ _ _ c.take_out-took.ensures.stands c.requires.outputs }
