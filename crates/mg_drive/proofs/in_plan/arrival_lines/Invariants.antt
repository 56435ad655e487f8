-- The lines of the first nodes.
use Rattle.std.proofs.Common.{◌≡◌, List, take}
use Rattle.std.specs.List.{flat_map, zip}
use Rattle.mg_free.specs.Rounds.{Taken}
use Rattle.mg_live.specs.Takes.{HaveTaken}
use Rattle.mg_drive.specs.Live.{lines_at}
use Rattle.mg_drive.proofs.in_plan.arrival_lines.Given as goal

abbrev pub invariant-loop-place : goal.invariant-loop-place
invariant-loop-place l = (takens : List Taken) → HaveTaken l.live.free takens l.live.takers.items → l.lines.items ≡ flat_map lines_at (take l.place (zip l.live.free takens))
