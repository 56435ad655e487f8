use Rattle.std.proofs.Common.{◌≡◌, drop}
use Rattle.mg_names.specs.Ports.{stands_twice}
use Rattle.mg_names.proofs.few.stands_twice.Given as goal

-- two of all ports have the same tag and index exactly if two of the remaining ports do
abbrev pub invariant-loop-place : goal.invariant-loop-place
invariant-loop-place l = stands_twice l.ports ≡ stands_twice (drop l.place l.ports)
