-- The entries so far.
use Rattle.std.proofs.Common.{◌≡◌, ◌+◌, map, take}
use Rattle.mg_drive.proofs.live.inputs_at.Given as goal

abbrev pub invariant-loop-place : goal.invariant-loop-place
invariant-loop-place l = l.inputs.items ≡ map (λ place. l.first + place) (take l.place-index l.places)
