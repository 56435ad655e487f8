-- What a feed that read an input gives a graph.
use Rattle.std.specs.Prelude.{◌≡◌, []}
use Rattle.mg_edge.specs.Edge.{SourceTold}
use Rattle.mg_calc.specs.declared.inputs.Inputs.{Inputs}
use Rattle.mg_feed.specs.Graph.{GraphInputs}
use Rattle.mg_feed.specs.Stands.{AllGood}
use Rattle.mg_feed.specs.declared.feed_end.FeedEnd.{FeedEnd}
use Rattle.mg_answer.specs.Answer.{Read, inputs_by}
use Rattle.mg_answer.specs.Devices.{Device}
use Rattle.mg_answer.specs.Ran.{CameTo}

-- an input gave lines and this end. All of the lines are good, and the inputs are what these lines give the graph
pub record GatheredInputs (graph : GraphInputs) (input : Device SourceTold) (end : FeedEnd) (inputs : Inputs) : Type 0 where
  pub read : Read
  pub came : CameTo graph input read
  pub ended : end ≡ read.end
  pub given : inputs ≡ inputs_by graph read
  pub good : AllGood graph [] read.lines
