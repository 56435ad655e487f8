use Rattle.std.proofs.Common.{refl}
use Rattle.mg_sched.specs.Sweeps.{itself}
use Rattle.mg_sched.proofs.Becoming.{becomes_runs, becomes_some, becomes_trans}
use Rattle.mg_sched.proofs.Sweeping.{goes_less, goes_same, goes_true, goes_false, still_there}
use Rattle.mg_sched.proofs.HeardOn.{heard_none, heard_then, heard_then_some, on_err}
use Rattle.mg_sched.proofs.Touching.{only_none, only_then}
use Rattle.mg_sched.proofs.net.Net.do_works.Goals as goal

pub works-init : goal.works-init
works-init g c = record { becomes = itself; goes = refl; only = only_none c.args.node c.args.self.now c.args.self.now refl; heard = heard_none g.C.NodeCalculator.laws g.H.Hears.has_heard c.args.hearer.now c.args.self.now }

pub work_on-requires-clause-running : goal.work_on-requires-clause-running
work_on-requires-clause-running g c = becomes_runs c.args.self.now c.works.self c.requires.running c.works.invariant.becomes

pub work_on-requires-clause-stands : goal.work_on-requires-clause-stands
work_on-requires-clause-stands g c = becomes_some c.args.self.now c.works.self c.requires.running c.requires.stands c.works.invariant.becomes

pub work_on-requires-clause-there : goal.work_on-requires-clause-there
work_on-requires-clause-there g c = still_there c.args.node c.args.self.now c.works.self c.works.invariant.becomes c.requires.there

pub returns-in_err-work_on-clause-becomes : goal.returns-in_err-work_on-clause-becomes
returns-in_err-work_on-clause-becomes g c = becomes_trans c.args.self.now c.works.self c.work_on.new.self c.works.invariant.becomes c.in_err-work_on.ensures.becomes

pub works-smaller : goal.works-smaller
works-smaller g c = goes_true c.in_ok-work_on.field-0 c.works.self c.work_on.new.self c.if-branch.true c.in_ok-work_on.ensures.goes

pub works-preserved : goal.works-preserved
works-preserved g c = record {
  only = only_then c.args.node c.args.self.now c.works.self c.work_on.new.self c.works.invariant.only c.in_ok-work_on.ensures.only;
  heard = heard_then g.C.NodeCalculator.laws g.H.Hears.has_heard c.args.hearer.now c.works.hearer c.work_on.new.hearer c.args.self.now c.works.self c.work_on.new.self c.works.invariant.heard c.in_ok-work_on.ensures.heard;
  becomes = becomes_trans c.args.self.now c.works.self c.work_on.new.self c.works.invariant.becomes c.in_ok-work_on.ensures.becomes;
  goes = goes_less c.works.did c.args.self.now c.works.self c.work_on.new.self c.works.invariant.goes (goes_true c.in_ok-work_on.field-0 c.works.self c.work_on.new.self c.if-branch.true c.in_ok-work_on.ensures.goes);
}

pub returns-clause-becomes : goal.returns-clause-becomes
returns-clause-becomes g c = becomes_trans c.args.self.now c.works.self c.work_on.new.self c.works.invariant.becomes c.in_ok-work_on.ensures.becomes

pub returns-clause-goes : goal.returns-clause-goes
returns-clause-goes g c = goes_same c.works.did c.args.self.now c.works.self c.work_on.new.self c.works.invariant.goes (goes_false c.in_ok-work_on.field-0 c.works.self c.work_on.new.self c.if-branch.false c.in_ok-work_on.ensures.goes)

pub returns-in_err-work_on-clause-heard_some : goal.returns-in_err-work_on-clause-heard_some
returns-in_err-work_on-clause-heard_some g c = on_err c.from_residual.result (heard_then_some g.C.NodeCalculator.laws g.H.Hears.has_heard c.args.hearer.now c.works.hearer c.work_on.new.hearer c.args.self.now c.works.self c.works.invariant.heard c.in_err-work_on.ensures.heard_some)

pub returns-clause-heard : goal.returns-clause-heard
returns-clause-heard g c = heard_then g.C.NodeCalculator.laws g.H.Hears.has_heard c.args.hearer.now c.works.hearer c.work_on.new.hearer c.args.self.now c.works.self c.work_on.new.self c.works.invariant.heard c.in_ok-work_on.ensures.heard

pub returns-clause-only : goal.returns-clause-only
returns-clause-only g c = only_then c.args.node c.args.self.now c.works.self c.work_on.new.self c.works.invariant.only c.in_ok-work_on.ensures.only
