-- The items so far are packets at their inner times.
use Rattle.std.proofs.Common.{◌≡◌, ◌+◌, map, take}
use Rattle.mg_value.specs.Payload.{plain}
use Rattle.mg_calc.specs.Batch.{at_inner_times}
use Rattle.mg_batch.proofs.begin_loop.stamped.Given as goal

abbrev pub invariant-loop-item : goal.invariant-loop-item
invariant-loop-item l = (l.number ≡ l.first + l.item-index) × (l.packets.items ≡ at_inner_times l.first (map plain (take l.item-index l.items)))
