use Rattle.mg_drive.proofs.Looping.{trims_keep, trims_run, trims_taken}
use Rattle.mg_drive.proofs.StillThere.{trims_laid}
use Rattle.mg_drive.proofs.one_thread.OneThreadDriven.trim.Goals as goal

pub returns-clause-running : goal.returns-clause-running
returns-clause-running g c = trims_run c.args.self.now.net c.trim.new.self c.trim.ensures.trims

pub returns-clause-keeps : goal.returns-clause-keeps
returns-clause-keeps g c = trims_keep c.args.self.now.net c.trim.new.self c.trim.ensures.trims

pub returns-clause-taken : goal.returns-clause-taken
returns-clause-taken g c = trims_taken c.args.self.now.net c.trim.new.self c.trim.ensures.trims

pub returns-clause-laid : goal.returns-clause-laid
returns-clause-laid g c = λ stream number. trims_laid c.args.self.now.net c.trim.new.self stream number c.trim.ensures.trims
