use Rattle.std.proofs.Common.{arith}
use Rattle.mg_sched.proofs.Finding.{engine_fits}
use Rattle.mg_sched.proofs.Opening.{begun_there, begun_engine, sides_are, may_begin_next, unbegun_begins, unbegun_stands, few_begun, set_there, reached_there, begun_begins, begun_next, begun_stands}
use Rattle.mg_sched.proofs.net.Net.begin_next.Goals as goal

pub index_mut-requires : goal.index_mut-requires
index_mut-requires g c = engine_fits _ c.args.self.now c.self.inside.begun _ c.self.view_is c.requires.stands (begun_there _ c.args.self.now c.self.view_is c.requires.there) c.self.inside.engines.ok.0

pub begin-requires : goal.begin-requires
begin-requires g c = may_begin_next c.args.self.now c.in_ok-sides.sides c.index_mut.result.now c.requires.stands c.requires.there
    (begun_engine _ c.args.self.now c.index_mut.result.now c.self.view_is c.requires.stands c.requires.there c.index_mut.ensures.value)
    (sides_are _ c.args.self.now c.in_ok-sides.sides c.self.view_is c.in_ok-sides.ensures)

pub returns-in_err-begin-clause-begins : goal.returns-in_err-begin-clause-begins
returns-in_err-begin-clause-begins g c = unbegun_begins _ c.args.self.now c.in_ok-sides.sides c.index_mut.result.now c.begin.new.self c.self.view_is c.requires.stands c.requires.there c.index_mut.ensures.value c.in_ok-sides.ensures
    c.in_err-begin.ensures.grows c.in_err-begin.ensures.lawful_unbegun c.in_err-begin.ensures.unbegun

pub returns-in_err-begin-clause-stands : goal.returns-in_err-begin-clause-stands
returns-in_err-begin-clause-stands g c = λ job h. unbegun_stands job _ c.args.self.now c.in_ok-sides.sides c.index_mut.result.now c.begin.new.self c.self.view_is c.requires.stands h c.requires.there c.index_mut.ensures.value c.in_ok-sides.ensures
    c.in_err-begin.ensures.grows c.in_err-begin.ensures.lawful_unbegun

pub overflow_add-self : goal.overflow_add-self
overflow_add-self g c = (let few = few_begun _ c.args.self.now c.self.view_is c.requires.stands c.requires.there in omega (arith, few))

pub stop_ended-requires-clause-engine : goal.stop_ended-requires-clause-engine
stop_ended-requires-clause-engine g c = set_there _ c.args.self.now c.begin.new.self c.self.view_is c.requires.stands c.requires.there

pub stop_ended-requires-clause-reached : goal.stop_ended-requires-clause-reached
stop_ended-requires-clause-reached g c = reached_there _ c.args.self.now c.self.view_is c.requires.stands c.requires.there

pub returns-clause-begins : goal.returns-clause-begins
returns-clause-begins g c = begun_begins _ c.args.self.now c.in_ok-sides.sides c.index_mut.result.now c.begin.new.self c.stop_ended.new.self c.self.view_is c.requires.stands c.requires.there c.index_mut.ensures.value c.in_ok-sides.ensures
    c.in_ok-begin.ensures.grows c.in_ok-begin.ensures.begun c.stop_ended.ensures

pub returns-clause-next : goal.returns-clause-next
returns-clause-next g c = begun_next _ c.args.self.now c.begin.new.self c.stop_ended.new.self c.self.view_is c.requires.stands c.requires.there c.stop_ended.ensures

pub returns-clause-stands : goal.returns-clause-stands
returns-clause-stands g c = λ job h. begun_stands job _ c.args.self.now c.in_ok-sides.sides c.index_mut.result.now c.begin.new.self c.stop_ended.new.self c.self.view_is c.requires.stands h c.requires.there c.index_mut.ensures.value
    c.in_ok-sides.ensures c.in_ok-begin.ensures.grows c.in_ok-begin.ensures.lawful c.in_ok-begin.ensures.begun c.stop_ended.ensures
