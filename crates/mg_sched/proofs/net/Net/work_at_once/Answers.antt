use Rattle.mg_sched.proofs.HeardOn.{on_err}
use Rattle.mg_sched.proofs.WorkingAtOnce.{comes_becomes, comes_heard, comes_heard_some, comes_steps}
use Rattle.mg_sched.proofs.Touching.{comes_only}
use Rattle.mg_sched.proofs.net.Net.work_at_once.Goals as goal

pub returns-in_err-did-clause-becomes : goal.returns-in_err-did-clause-becomes
returns-in_err-did-clause-becomes g c = comes_becomes c.args.node c.turn-reached.result c.args.self.now c.turn-reached.new.self c.requires.there c.turn-reached.ensures

pub returns-in_err-did-clause-heard_some : goal.returns-in_err-did-clause-heard_some
returns-in_err-did-clause-heard_some g c =
    on_err c.from_residual.result (comes_heard_some g.C.NodeCalculator.laws g.H.Hears.has_heard c.args.hearer.now c.hear.new.hearer c.args.node c.turn-reached.result c.args.self.now c.turn-reached.new.self c.turn-reached.ensures c.in_err-did.ensures.none c.hear.ensures)

pub returns-clause-becomes : goal.returns-clause-becomes
returns-clause-becomes g c = comes_becomes c.args.node c.turn-reached.result c.args.self.now c.turn-reached.new.self c.requires.there c.turn-reached.ensures

pub returns-clause-heard : goal.returns-clause-heard
returns-clause-heard g c =
    comes_heard g.C.NodeCalculator.laws g.H.Hears.has_heard c.args.hearer.now c.hear.new.hearer c.args.node c.turn-reached.result c.in_ok-did.did c.args.self.now c.turn-reached.new.self c.turn-reached.ensures c.in_ok-did.ensures.some c.hear.ensures

pub returns-clause-steps : goal.returns-clause-steps
returns-clause-steps g c = comes_steps c.args.node c.turn-reached.result c.in_ok-did.did c.args.self.now c.turn-reached.new.self c.requires.stands c.requires.running c.turn-reached.ensures c.in_ok-did.ensures.some

pub returns-clause-only : goal.returns-clause-only
returns-clause-only g c = comes_only g.C.NodeCalculator.laws c.args.node c.turn-reached.result c.args.self.now c.turn-reached.new.self c.turn-reached.ensures
