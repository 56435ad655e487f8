use Rattle.mg_calc.specs.declared.plan_stream.Producer.TheVariants.{Node}
use Rattle.mg_check.proofs.Filling.{one_more}
use Rattle.mg_check.proofs.linking.add_outputs.Goals as goal

pub loop-port-preserved : goal.loop-port-preserved
loop-port-preserved c = one_more (Node c.args.node) c.args.out.now.items c.loop-port.out.items c.push.new.self.items c.loop-port.port c.in_ok-push.ensures.items c.loop-port.invariant
