use Rattle.std.proofs.Common.{◌∙◌, ap, sym, length, arith}
use Rattle.mg_throttle.specs.Throttle.{QueueLimits}
use Rattle.mg_crew.proofs.Noting.{length_noted}
use Rattle.mg_crew.proofs.gauge.Gauge.note.Goals as goal

pub invariant_of-self : goal.invariant_of-self
invariant_of-self c =
    let now = c.note.ensures.noted in
    record {
      sized = omega (arith, c.args.self.now.sized, ap (λ (l : QueueLimits). length l.queues) now, length_noted c.args.self.now.limits.queues c.args.edge c.args.packets);
      reached = c.args.self.now.reached ∙ sym (ap (λ (l : QueueLimits). length l.reached) now);
      fed = omega (arith, c.args.self.now.fed, ap (λ (l : QueueLimits). l.feeders) now);
    }
