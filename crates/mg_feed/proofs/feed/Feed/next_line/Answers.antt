use Rattle.std.proofs.Common.{ap}
use Rattle.mg_feed.specs.FeedSeen.{fed}
use Rattle.mg_feed.proofs.Coming.{ends-line}
use Rattle.mg_feed.proofs.Stepping.{stopped-by}
use Rattle.mg_feed.proofs.feed.Feed.next_line.Goals as goal

pub returns-in-Err : goal.returns-in-Err
returns-in-Err c = λ source.
    let f = fed c.args.self.now in
    stopped-by c.stop_by.result f (fed c.take_line.new.self) source c.in-Err.fault _ (ap (λ x. x.view.lines) c.in-Err.ensures.0) c.stop_by.ensures c.in-Err.ensures.0
    (λ other. ends-line f c.in-Err.fault (c.in-Err.ensures.1 other))
