use denote.Param.Send.{IsSend, sendable}
use Rattle.mg_route.proofs.Sent.{law_box}
use Rattle.mg_route.specs.contracts.law_box.LawBox as LawBox
use Rattle.mg_nets.proofs.Driving.{still_driven}
use Rattle.mg_bench.proofs.chain.worked.Goals as goal

calculator : IsSend (LawBox.the_field).row
calculator = search (law_box, sendable) depth 40 fits 50000

pub run_workers-net-requires-send-C : goal.run_workers-net-requires-send-C
run_workers-net-requires-send-C g c κs within = search (calculator, sendable) depth 20 fits 20000

pub returns : goal.returns
returns g c = still_driven c.args.driver.plan c.args.driver.inputs c.args.driver.net _ c.requires c.run_workers-net.ensures.running c.run_workers-net.ensures.became.stands
