-- The numbers of the first streams are what is laid.
use Rattle.std.proofs.Common.{◌≡◌, length}
use Rattle.mg_sched.specs.Code.Outputs.{AreLaid}
use Rattle.mg_sched.proofs.net.trimming.set_laid.Given as goal

abbrev pub invariant-loop-stream : goal.invariant-loop-stream
invariant-loop-stream g l = AreLaid l.engines l.stream l.got × (length l.got ≡ length l.initial.got)
