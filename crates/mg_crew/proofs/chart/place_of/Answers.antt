use Rattle.mg_sched.proofs.Leading.{stream_within}
use Rattle.mg_crew.proofs.Charted.{some_within}
use Rattle.mg_crew.proofs.chart.place_of.Goals as goal

pub source_of-requires : goal.source_of-requires
source_of-requires c = stream_within c.args.plan.now c.as_slice.result.now c.args.number _ c.requires.valid c.as_slice.ensures c.requires.there

pub returns : goal.returns
returns c = some_within c.args.plan.now c.as_slice.result.now c.args.number _ c.source_of.result c.requires.valid c.as_slice.ensures c.requires.there c.source_of.ensures
