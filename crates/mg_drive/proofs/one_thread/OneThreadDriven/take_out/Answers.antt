use Rattle.mg_sched.proofs.OutputsTaken.{taking_leaves_nodes}
use Rattle.mg_drive.proofs.StillThere.{takings_whole}
use Rattle.mg_drive.proofs.one_thread.OneThreadDriven.take_out.Goals as goal

pub returns-clause-whole : goal.returns-clause-whole
returns-clause-whole g c = takings_whole c.args.self.now.net c.take_out.new.self (taking_leaves_nodes c.take_out.result c.args.into.now c.take_out.new.into c.args.self.now.net c.take_out.new.self c.take_out.ensures.taken)
