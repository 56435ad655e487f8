use Rattle.std.proofs.Common.{sym, subst}
use Rattle.mg_node.specs.Views.{WorkView, OutcomeView}
use Rattle.mg_turns.specs.Calls.{key_of}
use Rattle.mg_workers.specs.Shared.{IsSharedWith}
use Rattle.mg_crew.specs.Code.Seats.{FitsWork}
use Rattle.mg_crew.proofs.Sharing.{some_job_has, performed_work}
use Rattle.mg_crew.proofs.commits.finish.Goals as goal

pub perform-requires : goal.perform-requires
perform-requires g c = some_job_has _ _ c.requires.has.some c.requires.lawful

pub commit-requires-clause-has : goal.commit-requires-clause-has
commit-requires-clause-has g c =
    subst (λ (o : OutcomeView). IsSharedWith g.C.NodeCalculator.laws c.args.shop.now.net.now c.args.seat.now o.work) (sym c.ran.ensures.outcome)
    (performed_work c.args.shop.now.net.now c.args.seat.now c.args.work c.in-Ok.performed c.in-Ok.ensures.performed c.requires.has)

pub commit-requires-clause-lawful : goal.commit-requires-clause-lawful
commit-requires-clause-lawful g c = λ job fits. c.ran.ensures.lawful job (c.in-Ok.ensures.lawful job (c.requires.lawful job fits))

pub shelve-requires-clause-has : goal.shelve-requires-clause-has
shelve-requires-clause-has g c =
    subst (λ (o : OutcomeView). IsSharedWith g.C.NodeCalculator.laws c.args.shop.now.net.now c.args.seat.now o.work) (sym c.unrun.ensures.outcome)
    (subst (λ (w : WorkView). IsSharedWith g.C.NodeCalculator.laws c.args.shop.now.net.now c.args.seat.now w) (sym c.in-Err.ensures.unchanged) c.requires.has)

pub shelve-requires-clause-lawful : goal.shelve-requires-clause-lawful
shelve-requires-clause-lawful g c = λ job fits. c.unrun.ensures.lawful job ((subst (λ (w : WorkView). FitsWork g.C.NodeCalculator.laws (key_of c.args.shop.now.net.now) w) (sym c.in-Err.ensures.unchanged) c.requires.lawful) job fits)
