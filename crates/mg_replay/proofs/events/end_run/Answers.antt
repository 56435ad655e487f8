use Rattle.mg_feed.specs.LinesSeen.{line_of}
use Rattle.mg_replay.proofs.EventLines.{behind_itself, behind_moves, behind_next}
use Rattle.mg_replay.proofs.events.end_run.Goals as goal

pub returns-in_err-rests-clause-behind : goal.returns-in_err-rests-clause-behind
returns-in_err-rests-clause-behind g c = behind_itself _ _

pub returns-then-not-rests-clause-behind : goal.returns-then-not-rests-clause-behind
returns-then-not-rests-clause-behind g c = behind_itself _ _

pub returns-in_err-next-clause-behind : goal.returns-in_err-next-clause-behind
returns-in_err-next-clause-behind g c = behind_moves _ _ _ _ c.in_err-next.ensures.kept

pub returns-clause-behind : goal.returns-clause-behind
returns-clause-behind g c = behind_next c.in_ok-next.next (line_of c.next.new.self) _ _ _ _ c.in_ok-next.ensures.comes
