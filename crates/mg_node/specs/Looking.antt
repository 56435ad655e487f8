-- The packets that an output still keeps of what was laid there.
use Rattle.std.specs.Prelude.{ℕ, ◌-◌, nat_lt, Option, None, slice_get, if◌then◌else◌}
use Rattle.mg_value.specs.Payload.{Plain}
use Rattle.mg_value.specs.Packet.{Stamped}
use Rattle.mg_stream.specs.Pool.{Backlog}

-- the packet of an output by its number, from 0 on: none if it is given up, or wasn't laid yet
abbrev pub kept_packet : Backlog Plain → ℕ → Option (Stamped Plain)
kept_packet output number = if nat_lt number output.gone then None else slice_get output.packets (number - output.gone)
