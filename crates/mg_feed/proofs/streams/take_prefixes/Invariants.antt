use Rattle.std.proofs.Common.{◌≡◌, ◌≤◌, ◌++◌, take, drop, map, length, vec_len, vec_capacity}
use Rattle.mg_feed.specs.Given.{ended_stream}
use Rattle.mg_feed.proofs.Emptying.{both, emptied}
use Rattle.mg_feed.proofs.streams.take_prefixes.Given as goal

-- the streams so far were taken, and the others are as they were
abbrev pub invariant-loop-i : goal.invariant-loop-i
invariant-loop-i l = record {
  prefixes : l.prefixes.items ≡ map (λ p. ended_stream l.ended p.0) (take l.i (map both l.fn.streams));
  number : vec_len l.prefixes ≡ l.i;
  room : length l.streams ≤ vec_capacity l.prefixes;
  streams : map both l.streams ≡ map emptied (take l.i (map both l.fn.streams)) ++ drop l.i (map both l.fn.streams);
}
