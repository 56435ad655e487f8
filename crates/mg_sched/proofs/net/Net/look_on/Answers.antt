use Rattle.std.proofs.Common.{refl, arith}
use Rattle.mg_sched.specs.Sweeps.{itself}
use Rattle.mg_sched.proofs.HeardOn.{heard_none}
use Rattle.mg_sched.proofs.Touching.{notes_same}
use Rattle.mg_sched.proofs.net.Net.look_on.Goals as goal

pub returns-clause-becomes : goal.returns-clause-becomes
returns-clause-becomes g c = itself

pub returns-clause-heard : goal.returns-clause-heard
returns-clause-heard g c = heard_none g.C.NodeCalculator.laws g.H.Hears.has_heard c.args.hearer.now c.args.self.now

pub returns-clause-notes : goal.returns-clause-notes
returns-clause-notes g c = notes_same c.args.self.now c.args.self.now c.args.agenda.now c.args.agenda.now refl refl

pub returns-clause-rest : goal.returns-clause-rest
returns-clause-rest g c = λ isnt there. absurd (let past = c.if-place-nodes.false in let count = c.node_count-nodes.ensures in omega (arith, past, count, there))

pub work_here-requires-clause-there : goal.work_here-requires-clause-there
work_here-requires-clause-there g c = (let less = c.if-place-nodes.true in let count = c.node_count-nodes.ensures in omega (arith, less, count))

pub returns-then-place-nodes-clause-rest : goal.returns-then-place-nodes-clause-rest
returns-then-place-nodes-clause-rest g c = λ isnt there. c.in_ok-worked.ensures.rest isnt
