use denote.Param.Send.{IsSend, sendable}
use Rattle.mg_batch.proofs.Sent.{call_log}
use Rattle.mg_route.proofs.Sent.{builtin, law_box}
use Rattle.mg_route.specs.contracts.law_box.LawBox as LawBox
use Rattle.mg_nets.proofs.Driving.{still_driven}
use Rattle.mg_test_workers.proofs.running.run.Goals as goal

calculator : IsSend (LawBox.the_field).row
calculator = search (law_box, builtin, call_log, sendable) depth 40 fits 50000

pub run_workers-net-requires-send-C : goal.run_workers-net-requires-send-C
run_workers-net-requires-send-C g c κs within = search (calculator, law_box, sendable) depth 20 fits 20000

pub returns : goal.returns
returns g c = still_driven c.args.driver.plan c.args.driver.inputs c.args.driver.net _ c.requires c.run_workers-net.ensures.running c.run_workers-net.ensures.became.stands
