-- How many packets a delivery brought.
use Rattle.std.specs.Prelude.{ℕ}
use Rattle.mg_node.specs.declared.delivered.Delivered.{Delivered}
use Rattle.mg_node.specs.declared.delivered.Delivered.TheVariants.{Moved, OutOfMemory}

-- how many packets a delivery brought
abbrev pub packets_in : Delivered → ℕ
packets_in (Moved packets raised) = packets
packets_in (OutOfMemory packets) = packets
