use Rattle.std.proofs.Common.{Bool, false, subst}
use Rattle.mg_calc.specs.declared.event.Event.TheVariants.{Claim}
use Rattle.mg_sched.specs.Code.Left.{Steps}
use Rattle.mg_sched.proofs.Becoming.{becomes_runs, becomes_some, becomes_trans}
use Rattle.mg_sched.proofs.Sweeping.{goes_then, steps_go, still_there, works_rest}
use Rattle.mg_sched.proofs.HeardOn.{heard_then, heard_then_some, on_err}
use Rattle.mg_sched.proofs.Touching.{only_then}
use Rattle.mg_sched.proofs.net.Net.work_on.Goals as goal

pub finish_works-requires-clause-running : goal.finish_works-requires-clause-running
finish_works-requires-clause-running g c = becomes_runs c.args.self.now c.work_at_once.new.self c.requires.running c.in_ok-worked.ensures.becomes

pub finish_works-requires-clause-stands : goal.finish_works-requires-clause-stands
finish_works-requires-clause-stands g c = becomes_some c.args.self.now c.work_at_once.new.self c.requires.running c.requires.stands c.in_ok-worked.ensures.becomes

pub finish_works-requires-clause-there : goal.finish_works-requires-clause-there
finish_works-requires-clause-there g c = still_there c.args.node c.args.self.now c.work_at_once.new.self c.in_ok-worked.ensures.becomes c.requires.there

pub returns-in_err-finished-clause-becomes : goal.returns-in_err-finished-clause-becomes
returns-in_err-finished-clause-becomes g c = becomes_trans c.args.self.now c.work_at_once.new.self c.finish_works.new.self c.in_ok-worked.ensures.becomes c.in_err-finished.ensures.becomes

pub returns-clause-becomes : goal.returns-clause-becomes
returns-clause-becomes g c = becomes_trans c.args.self.now c.work_at_once.new.self c.finish_works.new.self c.in_ok-worked.ensures.becomes c.in_ok-finished.ensures.becomes

pub returns-then-worked-clause-goes : goal.returns-then-worked-clause-goes
returns-then-worked-clause-goes g c = subst (λ (did : Bool). Steps g.C.NodeCalculator.laws did (Claim c.args.node) c.args.self.now c.work_at_once.new.self) c.if-worked.true c.in_ok-worked.ensures.steps

pub returns-clause-goes : goal.returns-clause-goes
returns-clause-goes g c =
    goes_then false c.in_ok-finished.finished c.args.self.now c.work_at_once.new.self c.finish_works.new.self
    (steps_go g.C.NodeCalculator.laws false (Claim c.args.node) c.args.self.now c.work_at_once.new.self (subst (λ (did : Bool). Steps g.C.NodeCalculator.laws did (Claim c.args.node) c.args.self.now c.work_at_once.new.self) c.if-worked.false c.in_ok-worked.ensures.steps))
    c.in_ok-finished.ensures.goes

pub returns-clause-rest : goal.returns-clause-rest
returns-clause-rest g c =
    works_rest c.args.node c.in_ok-finished.finished c.args.self.now c.work_at_once.new.self c.finish_works.new.self
    (subst (λ (did : Bool). Steps g.C.NodeCalculator.laws did (Claim c.args.node) c.args.self.now c.work_at_once.new.self) c.if-worked.false c.in_ok-worked.ensures.steps) c.in_ok-finished.ensures.goes c.in_ok-finished.ensures.performed c.in_ok-finished.ensures.committed

pub returns-in_err-finished-clause-heard_some : goal.returns-in_err-finished-clause-heard_some
returns-in_err-finished-clause-heard_some g c = on_err c.from_residual-in_err-finished.result (heard_then_some g.C.NodeCalculator.laws g.H.Hears.has_heard c.args.hearer.now c.work_at_once.new.hearer c.finish_works.new.hearer c.args.self.now c.work_at_once.new.self c.in_ok-worked.ensures.heard c.in_err-finished.ensures.heard_some)

pub returns-clause-heard : goal.returns-clause-heard
returns-clause-heard g c = heard_then g.C.NodeCalculator.laws g.H.Hears.has_heard c.args.hearer.now c.work_at_once.new.hearer c.finish_works.new.hearer c.args.self.now c.work_at_once.new.self c.finish_works.new.self c.in_ok-worked.ensures.heard c.in_ok-finished.ensures.heard

pub returns-clause-only : goal.returns-clause-only
returns-clause-only g c = only_then c.args.node c.args.self.now c.work_at_once.new.self c.finish_works.new.self c.in_ok-worked.ensures.only c.in_ok-finished.ensures.only
