use Rattle.std.proofs.Common.{true, ap, refl}
use Rattle.mg_sched.specs.Sweeps.{itself}
use Rattle.mg_sched.specs.Code.Agendas.{AgendaView}
use Rattle.mg_sched.proofs.Becoming.{becomes_runs, becomes_some, becomes_trans}
use Rattle.mg_sched.proofs.Sweeping.{goes_then, goes_true, agenda_on, agenda_back, agenda_same, node_place}
use Rattle.mg_sched.proofs.HeardOn.{heard_none, heard_then, heard_then_some, on_err}
use Rattle.mg_sched.proofs.Touching.{notes_same, notes_then, notes_one, notes_idle}
use Rattle.mg_sched.proofs.net.Net.visit_node.Goals as goal

pub hold-requires : goal.hold-requires
hold-requires g c = node_place c.args.self.now.plan c.args.agenda.now c.args.node c.requires.agenda c.requires.there

pub returns-then-is_held_source-clause-becomes : goal.returns-then-is_held_source-clause-becomes
returns-then-is_held_source-clause-becomes g c = itself

pub returns-then-is_held_source-clause-agenda : goal.returns-then-is_held_source-clause-agenda
returns-then-is_held_source-clause-agenda g c =
    agenda_same c.args.self.now.plan c.args.agenda.now c.hold.new.self c.requires.agenda (ap (λ (a : AgendaView). a.heads) c.hold.ensures.others) (ap (λ (a : AgendaView). a.links) c.hold.ensures.others) (ap (λ (a : AgendaView). a.starts) c.hold.ensures.others)

pub returns-then-is_held_source-clause-unchanged : goal.returns-then-is_held_source-clause-unchanged
returns-then-is_held_source-clause-unchanged g c = λ is. ap (λ (a : AgendaView). a.ready) c.hold.ensures.others

pub go_on_with-requires : goal.go_on_with-requires
go_on_with-requires g c = node_place c.args.self.now.plan c.args.agenda.now c.args.node c.requires.agenda c.requires.there

pub send-requires-clause-running : goal.send-requires-clause-running
send-requires-clause-running g c = becomes_runs c.args.self.now c.work_long.new.self c.requires.running c.in_ok-work_long.ensures.becomes

pub send-requires-clause-stands : goal.send-requires-clause-stands
send-requires-clause-stands g c = becomes_some c.args.self.now c.work_long.new.self c.requires.running c.requires.stands c.in_ok-work_long.ensures.becomes

pub send-requires-clause-agenda : goal.send-requires-clause-agenda
send-requires-clause-agenda g c =
    agenda_on c.args.self.now c.work_long.new.self c.go_on_with.new.agenda c.in_ok-work_long.ensures.becomes
    (agenda_same c.args.self.now.plan c.args.agenda.now c.go_on_with.new.agenda c.requires.agenda c.go_on_with.ensures.leads.0 c.go_on_with.ensures.leads.1 c.go_on_with.ensures.leads.2)

pub returns-in_err-send-clause-becomes : goal.returns-in_err-send-clause-becomes
returns-in_err-send-clause-becomes g c = becomes_trans c.args.self.now c.work_long.new.self c.send.new.self c.in_ok-work_long.ensures.becomes c.in_err-send.ensures.becomes

pub returns-in_err-send-clause-agenda : goal.returns-in_err-send-clause-agenda
returns-in_err-send-clause-agenda g c = agenda_back c.args.self.now c.work_long.new.self c.send.new.agenda c.in_ok-work_long.ensures.becomes c.in_err-send.ensures.agenda

pub returns-clause-becomes : goal.returns-clause-becomes
returns-clause-becomes g c = becomes_trans c.args.self.now c.work_long.new.self c.send.new.self c.in_ok-work_long.ensures.becomes c.in_ok-send.ensures.becomes

pub returns-clause-agenda : goal.returns-clause-agenda
returns-clause-agenda g c = agenda_back c.args.self.now c.work_long.new.self c.send.new.agenda c.in_ok-work_long.ensures.becomes c.in_ok-send.ensures.agenda

pub returns-clause-goes : goal.returns-clause-goes
returns-clause-goes g c = goes_then true c.in_ok-send.field-0 c.args.self.now c.work_long.new.self c.send.new.self (goes_true c.in_ok-work_long.field-0 c.args.self.now c.work_long.new.self c.if-not-branch.false c.in_ok-work_long.ensures.goes) c.in_ok-send.ensures.goes

pub returns-then-is_held_source-clause-heard : goal.returns-then-is_held_source-clause-heard
returns-then-is_held_source-clause-heard g c = heard_none g.C.NodeCalculator.laws g.H.Hears.has_heard c.args.hearer.now c.args.self.now

pub returns-in_err-send-clause-heard_some : goal.returns-in_err-send-clause-heard_some
returns-in_err-send-clause-heard_some g c = on_err c.from_residual-in_err-send.result (heard_then_some g.C.NodeCalculator.laws g.H.Hears.has_heard c.args.hearer.now c.work_long.new.hearer c.send.new.hearer c.args.self.now c.work_long.new.self c.in_ok-work_long.ensures.heard c.in_err-send.ensures.heard_some)

pub returns-clause-heard : goal.returns-clause-heard
returns-clause-heard g c = heard_then g.C.NodeCalculator.laws g.H.Hears.has_heard c.args.hearer.now c.work_long.new.hearer c.send.new.hearer c.args.self.now c.work_long.new.self c.send.new.self c.in_ok-work_long.ensures.heard c.in_ok-send.ensures.heard

pub returns-then-is_held_source-clause-notes : goal.returns-then-is_held_source-clause-notes
returns-then-is_held_source-clause-notes g c = notes_same c.args.self.now c.args.self.now c.args.agenda.now c.hold.new.self refl (ap (λ (a : AgendaView). a.touched) c.hold.ensures.others)

pub returns-then-not-branch-clause-notes : goal.returns-then-not-branch-clause-notes
returns-then-not-branch-clause-notes g c = notes_idle c.in_ok-work_long.field-0 c.args.self.now c.work_long.new.self c.args.agenda.now c.args.agenda.now c.if-not-branch.true c.in_ok-work_long.ensures.goes refl

pub returns-clause-notes : goal.returns-clause-notes
returns-clause-notes g c = notes_then c.args.self.now c.args.agenda.now c.work_long.new.self c.go_on_with.new.agenda c.send.new.self c.send.new.agenda
    (notes_one c.args.node c.args.self.now c.args.agenda.now c.work_long.new.self c.go_on_with.new.agenda c.in_ok-work_long.ensures.only c.go_on_with.ensures.touched c.go_on_with.ensures.only) c.in_ok-send.ensures.notes
