use Rattle.std.proofs.Common.{◌<◌, length, subst, arith}
use Rattle.mg_sched.specs.Views.{NetView}
use Rattle.mg_sched.proofs.WoundNets.{one_more_wound}
use Rattle.mg_sched.proofs.net.Net.wind_up.Goals as goal

pub loop-self-preserved : goal.loop-self-preserved
loop-self-preserved g c = one_more_wound c.args.self.now c.loop-self.self c.wind_up_next.new.self c.loop-self.invariant c.in_ok-wind_up_next.ensures.next
    (subst (λ (v : NetView). v.wound < length v.plan.nodes) c.self.view_is (let within = c.loop-self-test.true in let ends = c.len.ensures in omega (arith, within, ends)))
