-- The remaining readings turn what is known so far into what all readings give.
use Rattle.std.proofs.Common.{◌≡◌, drop}
use Rattle.mg_check.specs.Code.Meets.{meet_all, readings_of}
use Rattle.mg_check.proofs.meeting.meet_all.Given as goal

abbrev pub invariant-loop-place : goal.invariant-loop-place
invariant-loop-place l = meet_all l.mets.items (readings_of (drop l.place l.edges) (drop l.place l.kinds)) ≡ meet_all l.fn.mets.items (readings_of l.edges l.kinds)
