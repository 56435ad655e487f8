-- Appending the packets that are left gives the same queue.
use Rattle.std.proofs.Common.{◌≡◌}
use Rattle.std.specs.Vec.Iter.{into_iter_items}
use Rattle.mg_node.specs.Code.QueueLaying.{all_appended, MayAllCome}
use Rattle.mg_node.proofs.laying.append_each.Given as goal

abbrev pub invariant-loop-packet : goal.invariant-loop-packet
invariant-loop-packet l = record {
  same : all_appended l.output (into_iter_items l.packet-iterator) ≡ all_appended l.fn.output l.fn.packets.items;
  may : MayAllCome l.output (into_iter_items l.packet-iterator);
}
