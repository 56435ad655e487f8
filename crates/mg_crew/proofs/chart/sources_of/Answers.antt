use Rattle.std.proofs.Common.{ap, ◌∙◌}
use Rattle.mg_throttle.specs.Code.Reach.{sources_among}
use Rattle.mg_crew.proofs.chart.sources_of.Goals as goal

pub returns : goal.returns
returns c = c.in_ok-sources.ensures ∙ ap sources_among c.as_slice.ensures
