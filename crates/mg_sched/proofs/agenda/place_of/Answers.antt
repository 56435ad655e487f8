use Rattle.mg_sched.proofs.Leading.{stream_within, source_within, source_is}
use Rattle.mg_sched.proofs.agenda.place_of.Goals as goal

pub source_of-requires : goal.source_of-requires
source_of-requires c = stream_within c.args.plan.now c.as_slice.result.now c.args.edge _ c.requires.valid c.as_slice.ensures c.requires.there

pub returns-clause-place : goal.returns-clause-place
returns-clause-place c = source_within c.args.plan.now c.as_slice.result.now c.args.edge c.source_of.result _ c.requires.valid c.as_slice.ensures c.requires.there c.source_of.ensures

pub returns-clause-from : goal.returns-clause-from
returns-clause-from c = source_is c.args.plan.now c.as_slice.result.now c.args.edge c.source_of.result _ c.as_slice.ensures c.requires.there c.source_of.ensures
