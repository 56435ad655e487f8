use Rattle.std.proofs.Common.{◌≡◌, take}
use Rattle.mg_throttle.specs.Code.Reach.{sources_among}
use Rattle.mg_crew.proofs.chart.sources_among.Given as goal

abbrev pub invariant-loop-number : goal.invariant-loop-number
invariant-loop-number l = l.found.items ≡ sources_among (take l.number l.nodes)
