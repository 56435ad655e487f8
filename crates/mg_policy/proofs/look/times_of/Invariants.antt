use Rattle.std.proofs.Common.{◌≡◌, take}
use Rattle.mg_settled.specs.Settled.{low}
use Rattle.mg_settled.specs.FirstSet.{earliest}
use Rattle.mg_stream.specs.Pool.{queues_of}
use Rattle.mg_policy.specs.Inbox.{rests}
use Rattle.mg_policy.proofs.look.times_of.Given as goal

abbrev pub invariant-loop-port : goal.invariant-loop-port
invariant-loop-port l = record {
  earliest : l.earliest ≡ earliest (take l.port (rests (queues_of l.pool)));
  low : l.low ≡ low (take l.port (rests (queues_of l.pool)));
}
