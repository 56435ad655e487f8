use Rattle.std.proofs.Common.{◌≡◌, [], take, Ok}
use Rattle.mg_names.specs.Ports.{ports_after}
use Rattle.mg_names.proofs.port_map.PortMap.read_placed.Given as goal

-- the reader has the ports of the texts so far
abbrev pub invariant-loop-text : goal.invariant-loop-text
invariant-loop-text l = ports_after [] (take l.text-index l.texts) ≡ Ok l.reader
