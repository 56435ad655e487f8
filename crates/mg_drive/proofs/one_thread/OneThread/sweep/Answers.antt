use Rattle.mg_drive.proofs.Looping.{becomes_keeps}
use Rattle.mg_sched.proofs.NothingGone.{steps_keep}
use Rattle.mg_drive.proofs.one_thread.OneThread.sweep.Goals as goal

pub returns-in_err-sweep-clause-keeps : goal.returns-in_err-sweep-clause-keeps
returns-in_err-sweep-clause-keeps g c = becomes_keeps c.args.self.now.net c.sweep.new.self c.in_err-sweep.ensures.becomes

pub returns-clause-keeps : goal.returns-clause-keeps
returns-clause-keeps g c = becomes_keeps c.args.self.now.net c.sweep.new.self c.in_ok-sweep.ensures.becomes

pub returns-in_err-sweep-clause-whole : goal.returns-in_err-sweep-clause-whole
returns-in_err-sweep-clause-whole g c = λ stream number. steps_keep c.args.self.now.net c.sweep.new.self stream number c.in_err-sweep.ensures.becomes

pub returns-clause-whole : goal.returns-clause-whole
returns-clause-whole g c = λ stream number. steps_keep c.args.self.now.net c.sweep.new.self stream number c.in_ok-sweep.ensures.becomes
