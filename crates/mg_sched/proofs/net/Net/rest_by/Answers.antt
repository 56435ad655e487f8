use Rattle.mg_sched.specs.Sweeps.{itself}
use Rattle.mg_sched.proofs.Becoming.{becomes_plan, becomes_runs, becomes_some, becomes_trans}
use Rattle.mg_sched.proofs.LeftIn.{becomes_no_more}
use Rattle.mg_sched.proofs.Sweeping.{later_less, goes_true, agenda_on, agenda_back}
use Rattle.mg_sched.proofs.HeardOn.{heard_none, heard_then, heard_then_some, on_err}
use Rattle.mg_sched.proofs.RestingPlaces.{rests_still}
use Rattle.mg_sched.proofs.net.Net.rest_by.Goals as goal

pub passes-init : goal.passes-init
passes-init g c = record { becomes = itself; agenda = c.requires.agenda; rests = c.requires.rests; heard = heard_none g.C.NodeCalculator.laws g.H.Hears.has_heard c.args.hearer.now c.args.self.now }

pub work_off-requires-clause-running : goal.work_off-requires-clause-running
work_off-requires-clause-running g c = becomes_runs c.args.self.now c.passes.self c.requires.running c.passes.invariant.becomes

pub work_off-requires-clause-stands : goal.work_off-requires-clause-stands
work_off-requires-clause-stands g c = becomes_some c.args.self.now c.passes.self c.requires.running c.requires.stands c.passes.invariant.becomes

pub work_off-requires-clause-agenda : goal.work_off-requires-clause-agenda
work_off-requires-clause-agenda g c = agenda_on c.args.self.now c.passes.self c.passes.agenda c.passes.invariant.becomes c.passes.invariant.agenda

pub returns-in_err-work_off-clause-becomes : goal.returns-in_err-work_off-clause-becomes
returns-in_err-work_off-clause-becomes g c = becomes_trans c.args.self.now c.passes.self c.work_off.new.self c.passes.invariant.becomes c.in_err-work_off.ensures.becomes

pub returns-in_err-work_off-clause-agenda : goal.returns-in_err-work_off-clause-agenda
returns-in_err-work_off-clause-agenda g c = agenda_back c.args.self.now c.passes.self c.work_off.new.agenda c.passes.invariant.becomes c.in_err-work_off.ensures.agenda

pub returns-in_err-work_off-clause-heard_some : goal.returns-in_err-work_off-clause-heard_some
returns-in_err-work_off-clause-heard_some g c = on_err c.from_residual.result (heard_then_some g.C.NodeCalculator.laws g.H.Hears.has_heard c.args.hearer.now c.passes.hearer c.work_off.new.hearer c.args.self.now c.passes.self c.passes.invariant.heard c.in_err-work_off.ensures.heard_some)

pub look_over-requires-clause-running : goal.look_over-requires-clause-running
look_over-requires-clause-running g c = becomes_runs c.args.self.now c.work_off.new.self c.requires.running (becomes_trans c.args.self.now c.passes.self c.work_off.new.self c.passes.invariant.becomes c.in_ok-work_off.ensures.becomes)

pub look_over-requires-clause-stands : goal.look_over-requires-clause-stands
look_over-requires-clause-stands g c = becomes_some c.args.self.now c.work_off.new.self c.requires.running c.requires.stands (becomes_trans c.args.self.now c.passes.self c.work_off.new.self c.passes.invariant.becomes c.in_ok-work_off.ensures.becomes)

pub look_over-requires-clause-agenda : goal.look_over-requires-clause-agenda
look_over-requires-clause-agenda g c = agenda_on c.passes.self c.work_off.new.self c.work_off.new.agenda c.in_ok-work_off.ensures.becomes c.in_ok-work_off.ensures.agenda

pub look_over-requires-clause-rests : goal.look_over-requires-clause-rests
look_over-requires-clause-rests g c = rests_still c.passes.self c.passes.agenda c.work_off.new.self c.work_off.new.agenda (becomes_plan c.passes.self c.work_off.new.self c.in_ok-work_off.ensures.becomes) c.in_ok-work_off.ensures.notes c.passes.invariant.rests

pub returns-in_err-look_over-clause-becomes : goal.returns-in_err-look_over-clause-becomes
returns-in_err-look_over-clause-becomes g c = becomes_trans c.args.self.now c.work_off.new.self c.look_over.new.self (becomes_trans c.args.self.now c.passes.self c.work_off.new.self c.passes.invariant.becomes c.in_ok-work_off.ensures.becomes) c.in_err-look_over.ensures.becomes

pub returns-in_err-look_over-clause-agenda : goal.returns-in_err-look_over-clause-agenda
returns-in_err-look_over-clause-agenda g c = agenda_back c.args.self.now c.work_off.new.self c.look_over.new.agenda (becomes_trans c.args.self.now c.passes.self c.work_off.new.self c.passes.invariant.becomes c.in_ok-work_off.ensures.becomes) c.in_err-look_over.ensures.agenda

pub returns-in_err-look_over-clause-heard_some : goal.returns-in_err-look_over-clause-heard_some
returns-in_err-look_over-clause-heard_some g c = on_err c.from_residual-in_err-look_over.result (heard_then_some g.C.NodeCalculator.laws g.H.Hears.has_heard c.args.hearer.now c.work_off.new.hearer c.look_over.new.hearer c.args.self.now c.work_off.new.self (heard_then g.C.NodeCalculator.laws g.H.Hears.has_heard c.args.hearer.now c.passes.hearer c.work_off.new.hearer c.args.self.now c.passes.self c.work_off.new.self c.passes.invariant.heard c.in_ok-work_off.ensures.heard) c.in_err-look_over.ensures.heard_some)

pub returns-then-not-branch-clause-rest : goal.returns-then-not-branch-clause-rest
returns-then-not-branch-clause-rest g c = c.in_ok-look_over.ensures.rest c.if-not-branch.true

pub returns-then-not-branch-clause-becomes : goal.returns-then-not-branch-clause-becomes
returns-then-not-branch-clause-becomes g c = becomes_trans c.args.self.now c.work_off.new.self c.look_over.new.self (becomes_trans c.args.self.now c.passes.self c.work_off.new.self c.passes.invariant.becomes c.in_ok-work_off.ensures.becomes) c.in_ok-look_over.ensures.becomes

pub returns-then-not-branch-clause-heard : goal.returns-then-not-branch-clause-heard
returns-then-not-branch-clause-heard g c = heard_then g.C.NodeCalculator.laws g.H.Hears.has_heard c.args.hearer.now c.work_off.new.hearer c.look_over.new.hearer c.args.self.now c.work_off.new.self c.look_over.new.self (heard_then g.C.NodeCalculator.laws g.H.Hears.has_heard c.args.hearer.now c.passes.hearer c.work_off.new.hearer c.args.self.now c.passes.self c.work_off.new.self c.passes.invariant.heard c.in_ok-work_off.ensures.heard) c.in_ok-look_over.ensures.heard

pub returns-then-not-branch-clause-agenda : goal.returns-then-not-branch-clause-agenda
returns-then-not-branch-clause-agenda g c = agenda_back c.args.self.now c.work_off.new.self c.look_over.new.agenda (becomes_trans c.args.self.now c.passes.self c.work_off.new.self c.passes.invariant.becomes c.in_ok-work_off.ensures.becomes) c.in_ok-look_over.ensures.agenda

pub returns-then-not-branch-clause-left : goal.returns-then-not-branch-clause-left
returns-then-not-branch-clause-left g c = c.in_ok-look_over.ensures.left

pub passes-smaller : goal.passes-smaller
passes-smaller g c = later_less c.passes.self c.work_off.new.self c.look_over.new.self
    (becomes_no_more c.passes.self c.work_off.new.self (becomes_runs c.args.self.now c.passes.self c.requires.running c.passes.invariant.becomes)
    (becomes_some c.args.self.now c.passes.self c.requires.running c.requires.stands c.passes.invariant.becomes) c.in_ok-work_off.ensures.becomes)
    (goes_true c.in_ok-look_over.field-0 c.work_off.new.self c.look_over.new.self c.if-not-branch.false c.in_ok-look_over.ensures.goes)

pub passes-preserved : goal.passes-preserved
passes-preserved g c = record {
  heard = heard_then g.C.NodeCalculator.laws g.H.Hears.has_heard c.args.hearer.now c.work_off.new.hearer c.look_over.new.hearer c.args.self.now c.work_off.new.self c.look_over.new.self (heard_then g.C.NodeCalculator.laws g.H.Hears.has_heard c.args.hearer.now c.passes.hearer c.work_off.new.hearer c.args.self.now c.passes.self c.work_off.new.self c.passes.invariant.heard c.in_ok-work_off.ensures.heard) c.in_ok-look_over.ensures.heard;
  becomes = becomes_trans c.args.self.now c.work_off.new.self c.look_over.new.self (becomes_trans c.args.self.now c.passes.self c.work_off.new.self c.passes.invariant.becomes c.in_ok-work_off.ensures.becomes) c.in_ok-look_over.ensures.becomes;
  agenda = agenda_back c.args.self.now c.work_off.new.self c.look_over.new.agenda (becomes_trans c.args.self.now c.passes.self c.work_off.new.self c.passes.invariant.becomes c.in_ok-work_off.ensures.becomes) c.in_ok-look_over.ensures.agenda;
  rests = c.in_ok-look_over.ensures.left;
}
