use Rattle.std.proofs.Common.{◌∙◌}
use Rattle.std.proofs.lemmas.Result.{err_from_is_err_and}
use Rattle.mg_feed.specs.FeedSeen.{seen}
use Rattle.mg_feed.proofs.Holding.{stands-next, refusal-seen}
use Rattle.mg_feed.proofs.feed.Feed.line.Goals as goal

pub returns-in_err-line-clause-refused : goal.returns-in_err-line-clause-refused
returns-in_err-line-clause-refused c =
    let p = err_from_is_err_and c.from_residual.result c.from_residual.ensures.1 in
    rw (p.1, p.2)
    (λ other lines gone stands. refusal-seen lines gone (seen c.args.self.now) c.args.text.now stands ∙ c.in_err-line.ensures.took.0 other)

pub returns-clause-good : goal.returns-clause-good
returns-clause-good c = λ lines gone stands.
    stands-next lines gone (seen c.args.self.now) _ c.args.text.now stands c.in_ok-line.ensures.took.0 c.in_ok-line.ensures.took.1
