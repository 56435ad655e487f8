use Rattle.std.proofs.Common.{◌∙◌, ap, subst, ℕ}
use Rattle.mg_node.specs.Views.{OutcomeView}
use Rattle.mg_node.specs.Shelves.{shelved}
use Rattle.mg_node.specs.Out.{ComesBack}
use Rattle.mg_sched.proofs.ComingApart.{one_more_back}
use Rattle.mg_sched.proofs.net.parting.put_back.Goals as goal

pub loop-work-preserved : goal.loop-work-preserved
loop-work-preserved g c =
    one_more_back c.args.engine.now c.loop-work.engine c.shelve.new.self c.args.work_queue.now c.loop-work.work_queue c.take_last.new.self c.in-Some.work c.loop-work.invariant c.in-Some.ensures.taken c.take_last.ensures.room
    (c.shelve.ensures.shelved ∙ ap (λ (o : OutcomeView). shelved c.loop-work.engine o) c.unrun.ensures.outcome)
    (subst (λ (n : ℕ). ComesBack c.loop-work.engine c.shelve.new.self n) (ap (λ (o : OutcomeView). o.work.number) c.unrun.ensures.outcome) c.shelve.ensures.comes_back)
