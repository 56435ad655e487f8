use Rattle.mg_drive.proofs.Reading.{none_yet, one_more}
use Rattle.mg_drive.proofs.readers.no_readers.Goals as goal

pub loop-place-init : goal.loop-place-init
loop-place-init c = none_yet c.in_ok-readers.readers.items c.in_ok-readers.ensures.items

pub loop-place-preserved : goal.loop-place-preserved
loop-place-preserved c = one_more c.loop-place.readers.items c.push.new.self.items _ c.loop-place.place c.in_ok-push.ensures.items c.loop-place.invariant
