use Rattle.std.proofs.Common.{ℕ, ◌+◌, cond, is_some, subst, sym, ap, ◌∙◌}
use Rattle.mg_node.specs.Views.{WorkView, OutcomeView}
use Rattle.mg_node.specs.Shelves.{IsOut}
use Rattle.mg_node.specs.Lawful.{LawfulWork, LawfulOutcome}
use Rattle.mg_turns.proofs.Rounds.{returns_by, performed_number, shelve_returns, ran_by}
use Rattle.mg_turns.specs.Told.{committed_in}
use Rattle.mg_turns.proofs.Committed.{none_committed}
use Rattle.mg_turns.proofs.running.run_work.Goals as goal

pub returns-in-Ok-clause-returned : goal.returns-in-Ok-clause-returned
returns-in-Ok-clause-returned g c =
    let p = c.in-Ok.ensures in let o = c.ran.ensures in
    returns_by c.args.engine.now c.take_in.new.engine c.ran.result.work.number c.args.work.number (λ job. LawfulOutcome job c.ran.result) (λ job. LawfulWork job c.args.work)
    (performed_number c.args.work c.in-Ok.performed c.ran.result p.performed o.outcome) (λ job h. o.lawful job (p.lawful job h)) c.take_in.ensures.returned

pub returns-in-Err-clause-returned : goal.returns-in-Err-clause-returned
returns-in-Err-clause-returned g c =
    let p = c.in-Err.ensures in let o = c.unrun.ensures in let l = c.shelve.ensures in
    returns_by c.args.engine.now c.shelve.new.self c.unrun.result.work.number c.args.work.number (λ job. LawfulOutcome job c.unrun.result) (λ job. LawfulWork job c.args.work)
    (ap (λ (x : OutcomeView). x.work.number) o.outcome ∙ ap (λ (x : WorkView). x.number) p.unchanged) (λ job h. o.lawful job (subst (λ (x : WorkView). LawfulWork job x) (sym p.unchanged) h))
    (shelve_returns c.unrun.result c.args.engine.now c.shelve.new.self
    (subst (λ (x : OutcomeView). IsOut c.args.engine.now x.work) (sym o.outcome) (subst (λ (x : WorkView). IsOut c.args.engine.now x) (sym p.unchanged) c.requires.out)) l.shelved l.grows l.lawful)

pub returns-in-Ok-clause-counts : goal.returns-in-Ok-clause-counts
returns-in-Ok-clause-counts g c =
    ran_by c.take_in.result (λ h. h ∙ ap (λ (x : OutcomeView). committed_in c.args.engine.now + cond {A = ℕ} (is_some x.answer) 1 0) c.ran.ensures.outcome) (λ h. h) c.take_in.ensures.counts

pub returns-in-Err-clause-counts : goal.returns-in-Err-clause-counts
returns-in-Err-clause-counts g c =
    let some = c.requires.lawful in let p = c.in-Err.ensures in let o = c.unrun.ensures in
    none_committed some.job some.number c.unrun.result c.args.engine.now c.shelve.new.self some.lawful
    (subst (λ (x : OutcomeView). IsOut c.args.engine.now x.work) (sym o.outcome) (subst (λ (x : WorkView). IsOut c.args.engine.now x) (sym p.unchanged) c.requires.out)) c.shelve.ensures.shelved
