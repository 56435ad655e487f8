use Rattle.std.proofs.Common.{◌≡◌, length, map, take}
use Rattle.mg_feed.specs.Code.Streams.{waiting, was_taken}
use Rattle.mg_feed.specs.Code.Due.{AllRoom}
use Rattle.mg_feed.proofs.due.make_room.Given as goal

-- the packets so far have room, and nothing else changed
abbrev pub invariant-loop-d : goal.invariant-loop-d
invariant-loop-d l = record {
  kept : map waiting l.streams ≡ map waiting l.fn.streams;
  taken : map was_taken l.streams ≡ map was_taken l.fn.streams;
  room : AllRoom (length l.due) l.streams (take l.d-index l.due);
}
