use Rattle.std.proofs.Common.{◌≡◌, ◌++◌, replicate}
use Rattle.mg_settled.specs.Prefix.{empty_prefix}
use Rattle.mg_drive.proofs.live.opened.Given as goal

abbrev pub invariant-loop-place : goal.invariant-loop-place
invariant-loop-place l = l.opened.items ≡ l.fn.streams.items ++ replicate l.place empty_prefix
