use Rattle.mg_live.proofs.Turned.{none_below, one_more_below}
use Rattle.mg_live.proofs.due.fill.Goals as goal

pub loop-place-init : goal.loop-place-init
loop-place-init c = none_below c.clear.new.self.items c.clear.ensures.items

pub loop-place-preserved : goal.loop-place-preserved
loop-place-preserved c = one_more_below c.loop-place.due.items c.push.new.self.items c.loop-place.place c.in_ok-push.ensures.items c.loop-place.invariant
