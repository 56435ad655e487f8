use Rattle.std.proofs.Common.{refl}
use Rattle.mg_sched.proofs.Sweeping.{goes_true, goes_false, agenda_same, node_place}
use Rattle.mg_sched.proofs.Touching.{notes_one, notes_idle}
use Rattle.mg_sched.proofs.net.Net.work_here.Goals as goal

pub go_on_with-requires : goal.go_on_with-requires
go_on_with-requires g c = node_place c.args.self.now.plan c.args.agenda.now c.args.node c.requires.agenda c.requires.there

pub returns-then-worked-clause-goes : goal.returns-then-worked-clause-goes
returns-then-worked-clause-goes g c = goes_true c.in_ok-worked.worked c.args.self.now c.work.new.self c.if-worked.true c.in_ok-worked.ensures.goes

pub returns-then-worked-clause-agenda : goal.returns-then-worked-clause-agenda
returns-then-worked-clause-agenda g c = agenda_same c.args.self.now.plan c.args.agenda.now c.go_on_with.new.agenda c.requires.agenda c.go_on_with.ensures.leads.0 c.go_on_with.ensures.leads.1 c.go_on_with.ensures.leads.2

pub returns-then-worked-clause-notes : goal.returns-then-worked-clause-notes
returns-then-worked-clause-notes g c = notes_one c.args.node c.args.self.now c.args.agenda.now c.work.new.self c.go_on_with.new.agenda c.in_ok-worked.ensures.only c.go_on_with.ensures.touched c.go_on_with.ensures.only

pub returns-clause-goes : goal.returns-clause-goes
returns-clause-goes g c = goes_false c.in_ok-worked.worked c.args.self.now c.work.new.self c.if-worked.false c.in_ok-worked.ensures.goes

pub returns-clause-notes : goal.returns-clause-notes
returns-clause-notes g c = notes_idle c.in_ok-worked.worked c.args.self.now c.work.new.self c.args.agenda.now c.args.agenda.now c.if-worked.false c.in_ok-worked.ensures.goes refl

pub returns-clause-rest : goal.returns-clause-rest
returns-clause-rest g c = λ isnt. c.in_ok-worked.ensures.rest c.if-worked.false
