use Rattle.std.proofs.Common.{refl, arith}
use Rattle.mg_sched.specs.Sweeps.{itself}
use Rattle.mg_sched.proofs.HeardOn.{heard_none}
use Rattle.mg_sched.proofs.Touching.{notes_same}
use Rattle.mg_sched.proofs.RestingPlaces.{into_none}
use Rattle.mg_sched.proofs.net.Net.look_into.Goals as goal

pub returns-then-nodes-place-clause-becomes : goal.returns-then-nodes-place-clause-becomes
returns-then-nodes-place-clause-becomes g c = itself

pub returns-then-nodes-place-clause-heard : goal.returns-then-nodes-place-clause-heard
returns-then-nodes-place-clause-heard g c = heard_none g.C.NodeCalculator.laws g.H.Hears.has_heard c.args.hearer.now c.args.self.now

pub returns-then-nodes-place-clause-notes : goal.returns-then-nodes-place-clause-notes
returns-then-nodes-place-clause-notes g c = notes_same c.args.self.now c.args.self.now c.args.agenda.now c.args.agenda.now refl refl

pub returns-then-nodes-place-clause-rest : goal.returns-then-nodes-place-clause-rest
returns-then-nodes-place-clause-rest g c = λ isnt. into_none c.args.self.now c.args.place c.requires.stands (let past = c.if-nodes-place.true in let count = c.node_count-nodes.ensures in omega (arith, past, count))

pub receive-requires-clause-there : goal.receive-requires-clause-there
receive-requires-clause-there g c = (let upto = c.if-nodes-place.false in let count = c.node_count-nodes.ensures in omega (arith, upto, count))
