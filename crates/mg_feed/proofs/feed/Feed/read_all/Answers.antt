use Rattle.std.proofs.Common.{arith}
use Rattle.mg_feed.proofs.Moving.{naming-few}
use Rattle.mg_feed.proofs.feed.Feed.read_all.Goals as goal

pub unreachable-requires : goal.unreachable-requires
unreachable-requires g c =
    let read = c.in-More.ensures.read in
    omega (arith, read.number, read.filled.0, naming-few read.taken, c.in-More.ensures.few)
