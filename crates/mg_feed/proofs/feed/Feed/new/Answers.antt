use Rattle.mg_feed.specs.Graph.{inputs_of}
use Rattle.mg_feed.proofs.Holding.{stands-fresh}
use Rattle.mg_feed.proofs.feed.Feed.new.Goals as goal

pub returns-clause-stands : goal.returns-clause-stands
returns-clause-stands c = stands-fresh (inputs_of c.args.plan.now) _ c.in_ok-input_buffer.ensures
