use Rattle.std.proofs.Common.{ap}
use Rattle.mg_feed.proofs.laws.takings_together.Goals as goal

pub returns : goal.returns
returns c = λ lines gone v stands. (stands.many, ap (λ given. given.streams) stands.given)
