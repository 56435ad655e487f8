use Rattle.mg_calc.specs.Batch.{last_inner}
use Rattle.mg_batch.proofs.InnerTimes.{one_more_clone}
use Rattle.mg_batch.proofs.begin_loop.put_clones.Goals as goal

pub loop-i-preserved : goal.loop-i-preserved
loop-i-preserved c =
    one_more_clone c.args.emission.now.items c.loop-i.emission.items c.push.new.self.items c.args.span.now.first (last_inner c.args.span.now.first c.args.count) c.args.count c.loop-i.i c.args.set.now _ c.in_ok-clone_laid.field-0
    c.in_ok-push.ensures.items c.in_ok-clone_laid.ensures c.get.ensures c.loop-i.invariant
