use Rattle.std.proofs.Common.{◌≡◌, map, take}
use Rattle.mg_settled.specs.Ends.{end_of}
use Rattle.mg_answer.proofs.solving.ends_of.Given as goal

abbrev pub invariant-loop-stream : goal.invariant-loop-stream
invariant-loop-stream l = l.ends.items ≡ map end_of (take l.stream-index l.streams)
