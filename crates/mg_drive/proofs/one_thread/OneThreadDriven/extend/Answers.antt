use Rattle.std.proofs.Common.{ap}
use Rattle.mg_sched.specs.Taking.{taken_out}
use Rattle.mg_drive.proofs.Looping.{extends_keep, extends_run, extends_taken, same_keeps, same_runs}
use Rattle.mg_sched.proofs.NothingGone.{extends_keep as extends_whole}
use Rattle.mg_drive.proofs.StillThere.{same_whole}
use Rattle.mg_drive.proofs.one_thread.OneThreadDriven.extend.Goals as goal

pub returns-in_err-extend-clause-running : goal.returns-in_err-extend-clause-running
returns-in_err-extend-clause-running g c = same_runs c.args.self.now.net c.extend.new.self c.in_err-extend.ensures.unchanged

pub returns-in_err-extend-clause-keeps : goal.returns-in_err-extend-clause-keeps
returns-in_err-extend-clause-keeps g c = same_keeps c.args.self.now.net c.extend.new.self c.in_err-extend.ensures.unchanged

pub returns-in_err-extend-clause-taken : goal.returns-in_err-extend-clause-taken
returns-in_err-extend-clause-taken g c = ap taken_out c.in_err-extend.ensures.unchanged

pub returns-clause-running : goal.returns-clause-running
returns-clause-running g c = extends_run c.args.more.now c.args.self.now.net c.extend.new.self c.in_ok-extend.ensures.extends

pub returns-clause-keeps : goal.returns-clause-keeps
returns-clause-keeps g c = extends_keep c.args.more.now c.args.self.now.net c.extend.new.self c.in_ok-extend.ensures.extends

pub returns-clause-taken : goal.returns-clause-taken
returns-clause-taken g c = extends_taken c.args.more.now c.args.self.now.net c.extend.new.self c.in_ok-extend.ensures.extends

pub returns-in_err-extend-clause-whole : goal.returns-in_err-extend-clause-whole
returns-in_err-extend-clause-whole g c = same_whole c.args.self.now.net c.extend.new.self c.in_err-extend.ensures.unchanged

pub returns-clause-whole : goal.returns-clause-whole
returns-clause-whole g c = λ stream number. extends_whole c.args.more.now c.args.self.now.net c.extend.new.self stream number c.requires.may c.in_ok-extend.ensures.extends
