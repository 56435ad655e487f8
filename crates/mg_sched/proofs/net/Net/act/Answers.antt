use Rattle.std.proofs.Common.{subst}
use Rattle.mg_calc.specs.declared.event.Effect.{Effect}
use Rattle.mg_sched.specs.Acts.{Acts}
use Rattle.mg_sched.proofs.IdleStays.{idle_same}
use Rattle.mg_sched.proofs.ActsStand.{acts_stand}
use Rattle.mg_sched.proofs.ActsRun.{acts_run}
use Rattle.mg_sched.proofs.net.Net.act.Goals as goal

pub returns-clause-running : goal.returns-clause-running
returns-clause-running g c = acts_run g.C.NodeCalculator.laws c.args.event c.make.result c.args.self.now c.make.new.self c.requires.running c.make.ensures

pub returns-clause-stands : goal.returns-clause-stands
returns-clause-stands g c = λ job stands. acts_stand job c.args.event c.make.result c.args.self.now c.make.new.self c.requires.event c.requires.running stands c.make.ensures

pub returns-clause-idle : goal.returns-clause-idle
returns-clause-idle g c = λ none. idle_same c.requires.stands.job c.args.event c.args.self.now c.make.new.self c.requires.event c.requires.running c.requires.stands.stands (subst (λ (effect : Effect). Acts g.C.NodeCalculator.laws c.args.event effect c.args.self.now c.make.new.self) none c.make.ensures)
