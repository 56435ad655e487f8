use Rattle.std.proofs.Common.{◌∙◌}
use Rattle.mg_feed.proofs.Sending.{TookAll-on}
use Rattle.mg_feed.proofs.put.put_all.Goals as goal

pub loop-left-preserved : goal.loop-left-preserved
loop-left-preserved g c =
    let was = c.loop-left.invariant.taken in
    record {
      taken = TookAll-on _ _ _ _ was.0 c.loop-left.left.now _ c.in-Took.count was.1 was.2 c.in-Took.ensures.bytes c.split_at.ensures.back;
      steady = c.in-Took.ensures.fault ∙ c.loop-left.invariant.steady;
    }
