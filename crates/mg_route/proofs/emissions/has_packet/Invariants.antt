-- The places from this one on decide.
use Rattle.std.proofs.Common.{◌≡◌, is_some}
use Rattle.std.specs.List.{list_any}
use Rattle.mg_route.specs.Places.{first_places}
use Rattle.mg_route.proofs.PlaceLemmas.{any_from}
use Rattle.mg_route.proofs.emissions.has_packet.Given as goal

abbrev pub invariant-loop-i : goal.invariant-loop-i
invariant-loop-i g l = any_from is_some (g.P.Places.place l.from l.fn.at) l.i l.count ≡ list_any is_some (first_places (g.P.Places.place l.from l.fn.at) l.count)
