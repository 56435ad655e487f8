use Rattle.std.proofs.Common.{◌≡◌, map, replicate, false, vec_len}
use Rattle.mg_settled.specs.Prefix.{empty_prefix}
use Rattle.mg_feed.specs.Code.Streams.{waiting, was_taken}
use Rattle.mg_feed.proofs.taking.open_streams.Given as goal

abbrev pub invariant-loop : goal.invariant-loop
invariant-loop l = record {
  streams : map waiting l.streams.items ≡ replicate l.counter empty_prefix;
  taken : map was_taken l.streams.items ≡ replicate l.counter false;
  number : vec_len l.streams ≡ l.counter;
}
