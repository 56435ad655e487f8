-- With the streams that are left the result is the same.
use Rattle.std.proofs.Common.{◌≡◌, ◌++◌, [], drop, get_or}
use Rattle.std.specs.List.{flat_map}
use Rattle.mg_equations.proofs.readers.readers_among.Given as goal

abbrev pub invariant-loop-stream : goal.invariant-loop-stream
invariant-loop-stream l = l.nodes.items ++ flat_map (λ s. get_or l.readers s []) (drop l.stream-index l.streams) ≡ flat_map (λ s. get_or l.readers s []) l.streams
