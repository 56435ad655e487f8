use Rattle.mg_nets.proofs.Driving.{now_driven}
use Rattle.mg_nets.proofs.driver.begun.Goals as goal

pub returns-in-Ok : goal.returns-in-Ok
returns-in-Ok c =
    now_driven c.args.plan.now c.args.inputs.now _ _ c.in_ok-net.ensures.of_plan c.in_ok-net.ensures.stands c.in-Ok.ensures.running c.in-Ok.ensures.stands
