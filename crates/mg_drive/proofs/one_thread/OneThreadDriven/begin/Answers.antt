use Rattle.mg_drive.proofs.Looping.{begins_keep, begins_taken}
use Rattle.mg_sched.proofs.NothingGone.{begins_keep as begins_whole}
use Rattle.mg_drive.proofs.one_thread.OneThreadDriven.begin.Goals as goal

pub returns-in_err-begin-clause-keeps : goal.returns-in_err-begin-clause-keeps
returns-in_err-begin-clause-keeps g c = begins_keep c.args.self.now.net c.begin.new.self c.in_err-begin.ensures.begins

pub returns-in_err-begin-clause-taken : goal.returns-in_err-begin-clause-taken
returns-in_err-begin-clause-taken g c = begins_taken c.args.self.now.net c.begin.new.self c.in_err-begin.ensures.begins

pub returns-clause-keeps : goal.returns-clause-keeps
returns-clause-keeps g c = begins_keep c.args.self.now.net c.begin.new.self c.in_ok-begin.ensures.begins

pub returns-clause-taken : goal.returns-clause-taken
returns-clause-taken g c = begins_taken c.args.self.now.net c.begin.new.self c.in_ok-begin.ensures.begins

pub returns-in_err-begin-clause-whole : goal.returns-in_err-begin-clause-whole
returns-in_err-begin-clause-whole g c = λ stream number. begins_whole c.args.self.now.net c.begin.new.self stream number c.in_err-begin.ensures.begins

pub returns-clause-whole : goal.returns-clause-whole
returns-clause-whole g c = λ stream number. begins_whole c.args.self.now.net c.begin.new.self stream number c.in_ok-begin.ensures.begins
