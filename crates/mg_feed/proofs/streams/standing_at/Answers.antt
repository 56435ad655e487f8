use Rattle.std.proofs.Common.{◌∙◌}
use Rattle.mg_feed.proofs.Steps.{standing-at, standing-past}
use Rattle.mg_feed.proofs.streams.standing_at.Goals as goal

pub returns-in-Some : goal.returns-in-Some
returns-in-Some c = c.standing.ensures ∙ standing-at c.args.streams.now c.args.place c.in-Some.stream.now c.in-Some.ensures.lookup.3.0 c.in-Some.ensures.lookup.1

pub returns-in-None : goal.returns-in-None
returns-in-None c = standing-past c.args.streams.now c.args.place c.in-None.ensures.lookup.3
