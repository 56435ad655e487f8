-- The numbers of the first streams are 0 if these are kept.
use Rattle.mg_sched.proofs.KeptStreams.{Spared}
use Rattle.mg_sched.proofs.net.trimming.spare.Given as goal

abbrev pub invariant-loop-stream : goal.invariant-loop-stream
invariant-loop-stream l = Spared l.kept l.initial.got l.got l.stream
