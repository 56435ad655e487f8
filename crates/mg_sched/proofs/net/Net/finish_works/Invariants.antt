-- Some works are performed or committed, or the net is as it was.
use Rattle.mg_sched.specs.Sweeps.{Becomes}
use Rattle.mg_sched.specs.Code.Left.{left_in, Goes}
use Rattle.mg_sched.specs.Code.Quiet.{OnlyAt}
use Rattle.mg_sched.specs.Heard.{Heard}
use Rattle.mg_sched.proofs.net.Net.finish_works.Given as goal

abbrev pub invariant-works : goal.invariant-works
invariant-works g l = record { becomes : Becomes g.C.NodeCalculator.laws l.fn.self l.self; goes : Goes l.did l.fn.self l.self; only : OnlyAt l.fn.node l.fn.self l.self; heard : Heard g.C.NodeCalculator.laws g.H.Hears.has_heard l.fn.hearer l.hearer l.fn.self l.self }

abbrev pub decreases-works : goal.decreases-works
decreases-works g l = left_in l.self
