use Rattle.std.proofs.Common.{arith}
use Rattle.mg_crew.proofs.Noting.{length_made, length_reached}
use Rattle.mg_crew.proofs.gauge.Gauge.new.Goals as goal

pub invariant_of-gauge : goal.invariant_of-gauge
invariant_of-gauge c = record {
  sized = length_made c.in_ok-limits.limits.queues c.args.plan.now.edges _ c.len.result c.in_ok-limits.ensures.queues c.len.ensures;
  fed = omega (arith, c.in_ok-limits.ensures.of.marked_feeders, c.requires.feeders);
  reached = length_reached c.args.plan.now c.in_ok-limits.limits _ c.in_ok-limits.ensures.of c.len-2.ensures;
}
