use Rattle.mg_check.proofs.Filling.{one_number_more}
use Rattle.mg_check.proofs.counting.range_of.Goals as goal

pub loop-i-preserved : goal.loop-i-preserved
loop-i-preserved c = one_number_more c.push.new.self.items c.loop-i.numbers.items c.args.first c.loop-i.i c.in-Some.number c.in_ok-push.ensures.items c.in-Some.ensures.1 c.loop-i.invariant
