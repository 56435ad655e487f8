use Rattle.std.proofs.Common.{ap, sym, subst, ◌∙◌}
use Rattle.mg_node.specs.Views.{EngineView}
use Rattle.mg_node.specs.Shelves.{IsOut, shelved}
use Rattle.mg_sched.proofs.Finding.{engine_read, engine_fits}
use Rattle.mg_sched.proofs.Working.{lawful_at, marked, still_there, taken_out, commits_none, commits_did, commits_not}
use Rattle.mg_sched.proofs.net.Net.commit.Goals as goal

pub index_mut-engine-requires : goal.index_mut-engine-requires
index_mut-engine-requires g c = engine_fits _ c.args.self.now c.args.node _ c.self.view_is c.requires.stands c.requires.there c.self.inside.engines.ok.0

pub returns-in_default : goal.returns-in_default
returns-in_default g c =
    commits_none _ c.args.self.now c.args.node c.args.number c.index_mut-engine.result.now c.unshelve.new.self c.self.view_is c.requires.stands c.requires.there c.index_mut-engine.ensures.value c.in_default.ensures.found c.in_default.ensures.taken

pub commit-requires-clause-out : goal.commit-requires-clause-out
commit-requires-clause-out g c =
    taken_out _ c.args.self.now c.args.node c.index_mut-engine.result.now c.unshelve.new.self c.in-Some.performed c.ran.result c.self.view_is c.requires.stands c.requires.running c.requires.there c.index_mut-engine.ensures.value
    c.in-Some.ensures.out c.ran.ensures.outcome

pub commit-requires-clause-lawful : goal.commit-requires-clause-lawful
commit-requires-clause-lawful g c =
    let at = engine_read _ c.args.self.now c.args.node _ c.self.view_is c.requires.stands c.requires.there c.index_mut-engine.ensures.value in
    let lawful = lawful_at c.args.self.now c.args.node _ c.requires.stands c.requires.running c.requires.there at in
    record { job = c.requires.stands.job; number = c.args.node; lawful = (c.unshelve.ensures.lawful c.requires.stands.job c.args.node lawful).0 }

pub stop_ended-requires-clause-engine : goal.stop_ended-requires-clause-engine
stop_ended-requires-clause-engine g c = still_there _ c.args.self.now c.args.node c.commit.new.self c.self.view_is c.requires.stands c.requires.there

pub stop_ended-requires-clause-reached : goal.stop_ended-requires-clause-reached
stop_ended-requires-clause-reached g c = marked _ c.args.self.now c.args.node c.self.view_is c.requires.stands c.requires.there

pub shelve-requires : goal.shelve-requires
shelve-requires g c =
    let out = taken_out _ c.args.self.now c.args.node c.index_mut-engine.result.now c.unshelve.new.self c.in-Some.performed c.in-Err.outcome c.self.view_is c.requires.stands c.requires.running c.requires.there c.index_mut-engine.ensures.value
    c.in-Some.ensures.out (c.in-Err.ensures.returned ∙ c.ran.ensures.outcome) in
    record { out = subst (λ (e : EngineView). IsOut e c.in-Err.outcome.work) (sym c.in-Err.ensures.unchanged) out }

pub returns-in-Ok : goal.returns-in-Ok
returns-in-Ok g c =
    commits_did _ c.args.self.now c.args.node c.args.number c.index_mut-engine.result.now c.unshelve.new.self c.commit.new.self c.in-Some.performed c.ran.result c.in-Ok.field-0 c.stop_ended.new.self c.self.view_is c.requires.stands c.requires.there
    c.index_mut-engine.ensures.value c.in-Some.ensures.found c.in-Some.ensures.taken c.ran.ensures.outcome c.in-Ok.ensures.commits c.stop_ended.ensures

pub returns-in-Err : goal.returns-in-Err
returns-in-Err g c =
    commits_not _ c.args.self.now c.args.node c.args.number c.index_mut-engine.result.now c.unshelve.new.self c.shelve.new.self c.in-Some.performed c.in-Err.outcome c.self.view_is c.requires.stands c.requires.running c.requires.there
    c.index_mut-engine.ensures.value c.in-Some.ensures.found c.in-Some.ensures.taken (c.in-Err.ensures.returned ∙ c.ran.ensures.outcome)
    (c.shelve.ensures.shelved ∙ ap (λ (e : EngineView). shelved e c.in-Err.outcome) c.in-Err.ensures.unchanged)
