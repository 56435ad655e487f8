use Rattle.std.proofs.Common.{◌∙◌}
use Rattle.std.proofs.lemmas.Result.{err_from_is_err_and}
use Rattle.mg_feed.specs.FeedSeen.{seen}
use Rattle.mg_feed.proofs.Recording.{recorded-next, recorded-seen}
use Rattle.mg_feed.proofs.feed.Feed.recorded_line.Goals as goal

pub returns-in_err-words-clause-refused : goal.returns-in_err-words-clause-refused
returns-in_err-words-clause-refused c =
    let p = err_from_is_err_and c.from_residual.result c.from_residual.ensures.1 in
    rw (p.1, p.2)
    (λ other lines has. recorded-seen lines (seen c.args.self.now) c.args.text.now has ∙ c.in_err-words.ensures.heard.0 other)

pub returns-clause-good : goal.returns-clause-good
returns-clause-good c = λ lines has.
    recorded-next lines (seen c.args.self.now) _ c.args.text.now has c.in_ok-words.ensures.heard.0 c.in_ok-words.ensures.heard.1
