use Rattle.std.proofs.Common.{◌≡◌, length, map}
use Rattle.mg_feed.specs.Code.Streams.{waiting, was_taken}
use Rattle.mg_feed.specs.Code.Due.{AllRoom, with_due}
use Rattle.std.specs.Vec.Iter.{into_iter_items}
use Rattle.mg_feed.proofs.due.lay.Given as goal

-- what is laid so far, and with the packets that are left
abbrev pub invariant-loop-d : goal.invariant-loop-d
invariant-loop-d l = record {
  laid : with_due (into_iter_items l.d-iterator) (map waiting l.streams) ≡ with_due l.fn.due.items (map waiting l.fn.streams);
  taken : map was_taken l.streams ≡ map was_taken l.fn.streams;
  room : AllRoom (length (into_iter_items l.d-iterator)) l.streams (into_iter_items l.d-iterator);
}
