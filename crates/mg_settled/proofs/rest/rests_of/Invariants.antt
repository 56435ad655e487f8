use Rattle.std.proofs.Common.{◌≡◌, take}
use Rattle.mg_settled.specs.Settled.{inputs_of}
use Rattle.mg_settled.proofs.rest.rests_of.Given as goal

abbrev pub invariant-loop-port : goal.invariant-loop-port
invariant-loop-port l = l.rests.items ≡ take l.port (inputs_of l.prefixes l.ports)
