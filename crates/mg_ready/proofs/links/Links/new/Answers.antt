use Rattle.std.proofs.Common.{arith}
use Rattle.mg_ready.proofs.Slots.{IsLinked-empty}
use Rattle.mg_ready.proofs.links.Links.new.Goals as goal

pub invariant_of-result : goal.invariant_of-result
invariant_of-result c =
    IsLinked-empty c.args.places c.top_of-top.result _ _ _ c.ranges.places.fits c.top_of-top.ensures c.in_ok-is_in.ensures
    (omega (arith, c.in_ok-above.ensures.len)) (omega (arith, c.in_ok-below.ensures.len)) c.in_ok-above.ensures.links c.in_ok-below.ensures.links
