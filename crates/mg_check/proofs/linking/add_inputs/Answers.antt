use Rattle.mg_calc.specs.declared.plan_stream.Producer.TheVariants.{Input}
use Rattle.mg_check.proofs.Filling.{one_more}
use Rattle.mg_check.proofs.linking.add_inputs.Goals as goal

pub loop-number-preserved : goal.loop-number-preserved
loop-number-preserved c = one_more Input c.args.out.now.items c.loop-number.out.items c.push.new.self.items c.loop-number.number c.in_ok-push.ensures.items c.loop-number.invariant
