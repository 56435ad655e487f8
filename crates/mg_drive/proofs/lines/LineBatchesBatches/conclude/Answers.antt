use Rattle.mg_drive.proofs.lines.LineBatchesBatches.conclude.Goals as goal

pub returns-clause-wrote : goal.returns-clause-wrote
returns-clause-wrote g c = λ form job first ends. c.in_ok-status.ensures.wrote form job ends.streams first ends.plan_is ends.solution ends.tells ends.put
