-- A side packet that may be missing, as a plain tree.
use Rattle.std.specs.Prelude.{Option, option_map}
use Rattle.std.specs.declared.sync.Arc.{Arc}
use Rattle.std.specs.Arc.{arc_value}
use Rattle.mg_value.specs.declared.payload.Payload.{Payload}
use Rattle.mg_value.specs.Payload.{Plain, plain}

-- the payload of a side packet as a plain tree, or none if the side packet is missing
abbrev pub given : {Z : Type 0} → Option (Arc Payload Z) → Option Plain
given place = option_map (λ p. plain (arc_value p)) place
