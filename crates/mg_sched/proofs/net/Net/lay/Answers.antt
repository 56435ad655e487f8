use Rattle.std.proofs.Common.{◌<◌, length, sym, ap, subst, ◌∙◌}
use Rattle.mg_node.specs.Views.{EngineView}
use Rattle.mg_node.specs.Shelves.{IsOut, shelved}
use Rattle.mg_sched.specs.Views.{NetView}
use Rattle.mg_sched.specs.Places.{with_engine, with_limits}
use Rattle.mg_sched.specs.Acts.{stopped_by}
use Rattle.mg_sched.proofs.Finding.{engine_there, engine_read_at, put_here}
use Rattle.mg_sched.proofs.Working.{engine_within}
use Rattle.mg_sched.proofs.WorkingAtOnce.{with_engine_within, marks, some_engine, is_out, performs, finishes}
use Rattle.mg_sched.proofs.net.Net.lay.Goals as goal

pub index_mut-engine-requires : goal.index_mut-engine-requires
index_mut-engine-requires g c = engine_within _ c.args.self.now c.args.node _ c.self.view_is (engine_there _ c.args.node c.requires.out.stands c.requires.out.there) c.self.inside.engines.ok.0

pub commit-requires-clause-out : goal.commit-requires-clause-out
commit-requires-clause-out g c =
    let out = c.requires.out in
    let at = engine_read_at _ c.args.self.now c.args.node _ c.self.view_is (engine_there _ c.args.node out.stands out.there) c.index_mut-engine.ensures.value in
    is_out c.args.self.now c.args.node c.args.number out.work_queue c.requires.work out.on out.stands out.running out.there c.requires.number_is c.index_mut-engine.result.now at c.args.performed c.ran.result c.requires.done c.ran.ensures.outcome

pub commit-requires-clause-lawful : goal.commit-requires-clause-lawful
commit-requires-clause-lawful g c =
    let out = c.requires.out in
    let at = engine_read_at _ c.args.self.now c.args.node _ c.self.view_is (engine_there _ c.args.node out.stands out.there) c.index_mut-engine.ensures.value in
    some_engine c.args.self.now c.args.node c.args.number out.work_queue c.requires.work out.on out.stands out.running out.there c.requires.number_is c.index_mut-engine.result.now at

pub stop_ended-requires-clause-engine : goal.stop_ended-requires-clause-engine
stop_ended-requires-clause-engine g c = with_engine_within _ c.args.self.now c.args.node c.commit.new.self c.self.view_is (engine_there _ c.args.node c.requires.out.stands c.requires.out.there)

pub stop_ended-requires-clause-reached : goal.stop_ended-requires-clause-reached
stop_ended-requires-clause-reached g c =
    let out = c.requires.out in
    marks c.args.self.now c.args.node c.args.number out.work_queue c.requires.work out.on out.stands out.running out.there c.requires.number_is _ c.self.view_is

pub shelve-requires : goal.shelve-requires
shelve-requires g c =
    let out = c.requires.out in
    let at = engine_read_at _ c.args.self.now c.args.node _ c.self.view_is (engine_there _ c.args.node out.stands out.there) c.index_mut-engine.ensures.value in
    let is = is_out c.args.self.now c.args.node c.args.number out.work_queue c.requires.work out.on out.stands out.running out.there c.requires.number_is c.index_mut-engine.result.now at c.args.performed c.in-Err.outcome c.requires.done
    (c.in-Err.ensures.returned ∙ c.ran.ensures.outcome) in
    record { out = subst (λ (e : EngineView). IsOut e c.in-Err.outcome.work) (sym c.in-Err.ensures.unchanged) is }

pub returns-in-Ok : goal.returns-in-Ok
returns-in-Ok g c = λ work_queue work on some running done number_is.
    let there = c.requires.out.there in
    let within = engine_there _ c.args.node some there in
    let at = engine_read_at _ c.args.self.now c.args.node _ c.self.view_is within c.index_mut-engine.ensures.value in
    let put = put_here c.self.inside.engines.items c.args.node c.commit.new.self (subst (λ (v : NetView). c.args.node < length v.engines) (sym c.self.view_is) within) in
    finishes c.args.self.now c.args.node c.args.number work_queue work on some running there number_is c.index_mut-engine.result.now at c.args.performed c.ran.result c.commit.new.self c.in-Ok.field-0 c.stop_ended.new.self done c.ran.ensures.outcome c.in-Ok.ensures.commits
    (c.stop_ended.ensures c.commit.new.self put ∙ ap (λ (v : NetView). with_limits (with_engine v c.args.node c.commit.new.self) (stopped_by c.args.node c.commit.new.self v.limits)) c.self.view_is)

pub returns-in-Err : goal.returns-in-Err
returns-in-Err g c = λ work_queue work on some running done number_is.
    let there = c.requires.out.there in
    let within = engine_there _ c.args.node some there in
    let at = engine_read_at _ c.args.self.now c.args.node _ c.self.view_is within c.index_mut-engine.ensures.value in (
      with_engine c.args.self.now c.args.node c.shelve.new.self,
      there,
      performs c.args.self.now c.args.node c.args.number work_queue work on some running there number_is c.index_mut-engine.result.now at c.args.performed c.in-Err.outcome c.shelve.new.self done (c.in-Err.ensures.returned ∙ c.ran.ensures.outcome)
          (c.shelve.ensures.shelved ∙ ap (λ (e : EngineView). shelved e c.in-Err.outcome) c.in-Err.ensures.unchanged),
      ap (λ (v : NetView). with_engine v c.args.node c.shelve.new.self) c.self.view_is,
    )
