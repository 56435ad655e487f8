use Rattle.std.proofs.Common.{take}
use Rattle.mg_check.specs.Code.Taking.{HasWaits, is_marked}
use Rattle.mg_check.proofs.waiting.waiting_of.Given as goal

abbrev pub invariant-loop-link : goal.invariant-loop-link
invariant-loop-link l = HasWaits l.count (take l.link-index l.links) (is_marked l.taken) l.waiting.items
