-- The list so far, followed by what the remaining kinds give, is the whole list.
use Rattle.std.proofs.Common.{◌≡◌, ◌++◌, drop, map}
use Rattle.mg_check.specs.Code.Meets.{begun}
use Rattle.mg_check.proofs.meeting.begin.Given as goal

abbrev pub invariant-loop-kind : goal.invariant-loop-kind
invariant-loop-kind l = l.mets.items ++ map begun (drop l.kind-index l.kinds) ≡ map begun l.kinds
