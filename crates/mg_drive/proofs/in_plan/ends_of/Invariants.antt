-- The entries so far.
use Rattle.std.proofs.Common.{◌≡◌, List, map, take}
use Rattle.mg_value.specs.Payload.{Plain}
use Rattle.mg_settled.specs.Prefix.{StreamPrefix}
use Rattle.mg_calc.specs.Equations.{stream_of}
use Rattle.mg_settled.specs.Ends.{end_of}
use Rattle.mg_drive.proofs.in_plan.ends_of.Given as goal

abbrev pub invariant-loop-stream : goal.invariant-loop-stream
invariant-loop-stream l = (prefixes : List (StreamPrefix Plain)) → l.ends ≡ map end_of prefixes → l.now.items ≡ map (λ stream. end_of (stream_of prefixes stream)) (take l.stream-index l.streams)
