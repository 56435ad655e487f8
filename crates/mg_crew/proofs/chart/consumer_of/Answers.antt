use Rattle.mg_crew.proofs.Charted.{consumer_within}
use Rattle.mg_crew.proofs.chart.consumer_of.Goals as goal

pub returns : goal.returns
returns c = consumer_within c.args.plan.now c.as_slice.result.now c.args.number _ c.requires.valid c.as_slice.ensures c.requires.there
