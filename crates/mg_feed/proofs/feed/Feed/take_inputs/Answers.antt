use Rattle.mg_feed.specs.FeedSeen.{seen}
use Rattle.mg_feed.proofs.Holding.{stands-taken}
use Rattle.mg_feed.proofs.feed.Feed.take_inputs.Goals as goal

pub returns-clause-stands : goal.returns-clause-stands
returns-clause-stands c = λ lines gone stands. stands-taken lines gone (seen c.args.self.now) _ stands c.in_ok-inputs.ensures.taken
