use Rattle.std.proofs.Common.{refl}
use Rattle.mg_sched.specs.Sweeps.{itself}
use Rattle.mg_sched.proofs.Becoming.{becomes_runs, becomes_some, becomes_trans}
use Rattle.mg_sched.proofs.Sweeping.{goes_true, agenda_on, agenda_back}
use Rattle.mg_sched.proofs.HeardOn.{heard_none, heard_then, heard_then_some, on_err}
use Rattle.mg_sched.proofs.Touching.{notes_same, notes_then}
use Rattle.mg_sched.proofs.net.Net.work_off.Goals as goal

pub steps-init : goal.steps-init
steps-init g c = record { becomes = itself; agenda = c.requires.agenda; notes = notes_same c.args.self.now c.args.self.now c.args.agenda.now c.args.agenda.now refl refl; heard = heard_none g.C.NodeCalculator.laws g.H.Hears.has_heard c.args.hearer.now c.args.self.now }

pub go_on-requires-clause-running : goal.go_on-requires-clause-running
go_on-requires-clause-running g c = becomes_runs c.args.self.now c.steps.self c.requires.running c.steps.invariant.becomes

pub go_on-requires-clause-stands : goal.go_on-requires-clause-stands
go_on-requires-clause-stands g c = becomes_some c.args.self.now c.steps.self c.requires.running c.requires.stands c.steps.invariant.becomes

pub go_on-requires-clause-agenda : goal.go_on-requires-clause-agenda
go_on-requires-clause-agenda g c = agenda_on c.args.self.now c.steps.self c.steps.agenda c.steps.invariant.becomes c.steps.invariant.agenda

pub returns-in_err-go_on-clause-becomes : goal.returns-in_err-go_on-clause-becomes
returns-in_err-go_on-clause-becomes g c = becomes_trans c.args.self.now c.steps.self c.go_on.new.self c.steps.invariant.becomes c.in_err-go_on.ensures.becomes

pub returns-in_err-go_on-clause-agenda : goal.returns-in_err-go_on-clause-agenda
returns-in_err-go_on-clause-agenda g c = agenda_back c.args.self.now c.steps.self c.go_on.new.agenda c.steps.invariant.becomes c.in_err-go_on.ensures.agenda

pub steps-smaller : goal.steps-smaller
steps-smaller g c = goes_true c.in_ok-go_on.field-0 c.steps.self c.go_on.new.self c.if-branch.true c.in_ok-go_on.ensures.goes

pub steps-preserved : goal.steps-preserved
steps-preserved g c = record {
  notes = notes_then c.args.self.now c.args.agenda.now c.steps.self c.steps.agenda c.go_on.new.self c.go_on.new.agenda c.steps.invariant.notes c.in_ok-go_on.ensures.notes;
  heard = heard_then g.C.NodeCalculator.laws g.H.Hears.has_heard c.args.hearer.now c.steps.hearer c.go_on.new.hearer c.args.self.now c.steps.self c.go_on.new.self c.steps.invariant.heard c.in_ok-go_on.ensures.heard;
  becomes = becomes_trans c.args.self.now c.steps.self c.go_on.new.self c.steps.invariant.becomes c.in_ok-go_on.ensures.becomes;
  agenda = agenda_back c.args.self.now c.steps.self c.go_on.new.agenda c.steps.invariant.becomes c.in_ok-go_on.ensures.agenda;
}

pub returns-clause-becomes : goal.returns-clause-becomes
returns-clause-becomes g c = becomes_trans c.args.self.now c.steps.self c.go_on.new.self c.steps.invariant.becomes c.in_ok-go_on.ensures.becomes

pub returns-clause-agenda : goal.returns-clause-agenda
returns-clause-agenda g c = agenda_back c.args.self.now c.steps.self c.go_on.new.agenda c.steps.invariant.becomes c.in_ok-go_on.ensures.agenda

pub returns-in_err-go_on-clause-heard_some : goal.returns-in_err-go_on-clause-heard_some
returns-in_err-go_on-clause-heard_some g c = on_err c.from_residual.result (heard_then_some g.C.NodeCalculator.laws g.H.Hears.has_heard c.args.hearer.now c.steps.hearer c.go_on.new.hearer c.args.self.now c.steps.self c.steps.invariant.heard c.in_err-go_on.ensures.heard_some)

pub returns-clause-heard : goal.returns-clause-heard
returns-clause-heard g c = heard_then g.C.NodeCalculator.laws g.H.Hears.has_heard c.args.hearer.now c.steps.hearer c.go_on.new.hearer c.args.self.now c.steps.self c.go_on.new.self c.steps.invariant.heard c.in_ok-go_on.ensures.heard

pub returns-clause-notes : goal.returns-clause-notes
returns-clause-notes g c = notes_then c.args.self.now c.args.agenda.now c.steps.self c.steps.agenda c.go_on.new.self c.go_on.new.agenda c.steps.invariant.notes c.in_ok-go_on.ensures.notes
