-- No packet waits at the ports from this one on.
use Rattle.std.proofs.Common.{◌≡◌, ◌≤◌, List, length}
use Rattle.mg_value.specs.Payload.{Plain}
use Rattle.mg_settled.specs.Prefix.{StreamPrefix}
use Rattle.mg_free.specs.Rounds.{Taken, free_inputs, next_arrivals, last_of}
use Rattle.mg_live.specs.Takes.{HasTaken}
use Rattle.mg_live.proofs.LastWaits.{waits_below}
use Rattle.mg_live.proofs.taker.Taker.last_port.Given as goal

abbrev pub invariant-ports : goal.invariant-ports
invariant-ports g l = record {
  within : l.port ≤ length l.free.inputs;
  same : (ss : List (StreamPrefix Plain)) (taken : Taken) → g.S.Streams.are l.streams ss → HasTaken l.free taken l.self → last_of (waits_below (free_inputs ss l.free) taken.log l.port) ≡ last_of (next_arrivals ss l.free taken);
}

abbrev pub decreases-ports : goal.decreases-ports
decreases-ports g l = l.port
