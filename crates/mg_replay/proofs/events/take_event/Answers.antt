use Rattle.mg_replay.proofs.EventLines.{behind_itself}
use Rattle.mg_replay.proofs.events.take_event.Goals as goal

pub returns-in_err-stop-clause-behind : goal.returns-in_err-stop-clause-behind
returns-in_err-stop-clause-behind g c = behind_itself _ _

pub returns-clause-behind : goal.returns-clause-behind
returns-clause-behind g c = behind_itself _ _
