use Rattle.std.proofs.Common.{take}
use Rattle.mg_check.specs.Code.Taking.{HasReaders}
use Rattle.mg_check.proofs.readers.readers_of.Given as goal

abbrev pub invariant-loop-link : goal.invariant-loop-link
invariant-loop-link l = HasReaders l.count (take l.link-index l.links) l.rows.items
