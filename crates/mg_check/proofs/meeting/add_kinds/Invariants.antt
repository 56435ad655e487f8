-- The list so far, followed by what the remaining ports give, is the whole list.
use Rattle.std.proofs.Common.{◌≡◌, ◌++◌, drop}
use Rattle.mg_check.specs.Joining.{kinds}
use Rattle.mg_check.proofs.meeting.add_kinds.Given as goal

abbrev pub invariant-loop-port : goal.invariant-loop-port
invariant-loop-port l = l.out.items ++ kinds (drop l.port-index l.ports) ≡ l.fn.out.items ++ kinds l.ports
