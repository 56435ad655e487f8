use Rattle.std.proofs.Common.{refl, arith}
use Rattle.mg_sched.specs.Sweeps.{itself}
use Rattle.mg_sched.proofs.HeardOn.{heard_none}
use Rattle.mg_sched.proofs.Becoming.{becomes_plan}
use Rattle.mg_sched.proofs.Touching.{notes_same}
use Rattle.mg_sched.proofs.RestingPlaces.{behind_none, behind_all}
use Rattle.mg_sched.proofs.net.Net.look_from.Goals as goal

pub returns-clause-becomes : goal.returns-clause-becomes
returns-clause-becomes g c = itself

pub returns-clause-heard : goal.returns-clause-heard
returns-clause-heard g c = heard_none g.C.NodeCalculator.laws g.H.Hears.has_heard c.args.hearer.now c.args.self.now

pub returns-clause-notes : goal.returns-clause-notes
returns-clause-notes g c = notes_same c.args.self.now c.args.self.now c.args.agenda.now c.args.agenda.now refl refl

pub start-first-requires : goal.start-first-requires
start-first-requires g c = (let less = c.if-place-count.true in let count = c.count-count.ensures.count in omega (arith, less, count))

pub returns-clause-rest : goal.returns-clause-rest
returns-clause-rest g c = λ isnt. behind_none c.args.self.now c.args.place c.requires.stands (let past = c.if-place-count.false in let count = c.count-count.ensures.count in let long = c.requires.agenda.places in omega (arith, past, count, long))

pub returns-then-place-count-clause-rest : goal.returns-then-place-count-clause-rest
returns-then-place-count-clause-rest g c = λ isnt. behind_all g.C.NodeCalculator.laws c.args.self.now.plan c.args.place c.args.agenda.now c.send_from.new.self c.start-first.result c.requires.agenda (becomes_plan c.args.self.now c.send_from.new.self c.in_ok-did.ensures.becomes)
    (let less = c.if-place-count.true in let count = c.count-count.ensures.count in omega (arith, less, count)) c.start-first.ensures.start (c.in_ok-did.ensures.rest isnt)
