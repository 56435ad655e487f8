use Rattle.std.proofs.Common.{◌≡◌, drop}
use Rattle.std.specs.List.{position_from}
use Rattle.mg_names.specs.Ports.{is_at, place_of}
use Rattle.mg_names.proofs.few.place_among.Given as goal

-- what is looked for stands first among the ports that are left
abbrev pub invariant-loop-place : goal.invariant-loop-place
invariant-loop-place l = place_of l.tag l.index l.ports ≡ position_from (is_at l.tag l.index) l.place (drop l.place l.ports)
