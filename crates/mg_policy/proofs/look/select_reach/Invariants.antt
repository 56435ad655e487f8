use Rattle.std.proofs.Common.{◌≡◌}
use Rattle.mg_value.specs.declared.policy.Policy.TheVariants.{Mux}
use Rattle.mg_settled.specs.Settled.{reach}
use Rattle.mg_stream.specs.Pool.{queues_of}
use Rattle.mg_policy.specs.Inbox.{rests}
use Rattle.mg_policy.proofs.PoolRests.{reach_from}
use Rattle.mg_policy.proofs.look.select_reach.Given as goal

abbrev pub invariant-loop-packet : goal.invariant-loop-packet
invariant-loop-packet l = record {
  can : (goal.iterator-loop-packet).can_next l.packet-iterator;
  finite : (goal.iterator-loop-packet).is_finite l.packet-iterator;
  reach : reach_from (rests (queues_of l.pool)) l.packet-iterator ≡ reach Mux (rests (queues_of l.pool));
}
