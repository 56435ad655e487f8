-- The payloads copied so far are the first of the list.
use Rattle.std.proofs.Common.{◌≡◌, map, take}
use Rattle.std.specs.Arc.{arc_value}
use Rattle.mg_value.specs.Payload.{plain}
use Rattle.mg_batch.proofs.copying.all_copied.Given as goal

abbrev pub invariant-loop-payload : goal.invariant-loop-payload
invariant-loop-payload l = map plain l.copies.items ≡ map (λ p. plain (arc_value p)) (take l.payload-index l.list)
