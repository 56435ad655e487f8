use Rattle.std.proofs.Common.{ap, ◌∙◌}
use Rattle.mg_node.specs.Views.{OutcomeView, EngineView}
use Rattle.mg_node.specs.Shelves.{shelved}
use Rattle.mg_turns.proofs.Rounds.{commit_returns, shelve_back}
use Rattle.mg_turns.proofs.Committed.{commit_counts, none_committed}
use Rattle.mg_turns.proofs.running.take_in.Goals as goal

pub returns-in-Ok-clause-returned : goal.returns-in-Ok-clause-returned
returns-in-Ok-clause-returned g c = (let l = c.in-Ok.ensures in commit_returns c.args.outcome c.in-Ok.field-0 c.args.engine.now c.commit.new.self c.requires.out c.requires.lawful l.commits l.grows l.lawful)

pub returns-in-Err-clause-returned : goal.returns-in-Err-clause-returned
returns-in-Err-clause-returned g c =
    let back = c.in-Err.ensures in
    let l = c.shelve.ensures in shelve_back c.args.outcome c.in-Err.outcome c.args.engine.now c.commit.new.self c.shelve.new.self c.requires.out back.returned back.unchanged l.shelved l.grows l.lawful

pub returns-in-Ok-clause-counts : goal.returns-in-Ok-clause-counts
returns-in-Ok-clause-counts g c =
    let some = c.requires.lawful in
    commit_counts some.job some.number c.args.outcome c.in-Ok.field-0 c.args.engine.now c.commit.new.self some.lawful c.requires.out c.in-Ok.ensures.commits

pub returns-in-Err-clause-came : goal.returns-in-Err-clause-came
returns-in-Err-clause-came g c =
    let b = c.in-Err.ensures in
    c.shelve.ensures.shelved ∙ (ap (λ (x : EngineView). shelved x c.in-Err.outcome) b.unchanged ∙ ap (λ (x : OutcomeView). shelved c.args.engine.now x) b.returned)

pub returns-in-Err-clause-counts : goal.returns-in-Err-clause-counts
returns-in-Err-clause-counts g c =
    let some = c.requires.lawful in
    none_committed some.job some.number c.args.outcome c.args.engine.now c.shelve.new.self some.lawful c.requires.out (returns-in-Err-clause-came g c)
