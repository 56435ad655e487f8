use Rattle.std.proofs.Common.{length}
use Rattle.mg_throttle.specs.Code.Reach.{MarksSources}
use Rattle.mg_throttle.proofs.reach.mark_sources.Given as goal

abbrev pub invariant-loop-place : goal.invariant-loop-place
invariant-loop-place l = MarksSources l.sources l.inputs l.feeders (length l.initial.rows) l.place l.rows
