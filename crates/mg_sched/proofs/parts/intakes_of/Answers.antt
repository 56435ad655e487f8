use Rattle.mg_sched.specs.Code.Made.{IsIntakeAt}
use Rattle.mg_sched.proofs.AtEach.{pushed}
use Rattle.mg_sched.proofs.parts.intakes_of.Goals as goal

pub loop-consumer-preserved : goal.loop-consumer-preserved
loop-consumer-preserved c =
    pushed (IsIntakeAt c.args.plan.now) _ _ _ c.loop-consumer.consumer c.in_ok-push.ensures.items c.loop-consumer.invariant.0 c.loop-consumer.invariant.1
    (record { fresh = c.in_ok-new.ensures.fresh; lawful = λ job. c.in_ok-new.ensures.lawful _ job })
