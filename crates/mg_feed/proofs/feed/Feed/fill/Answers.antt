use Rattle.std.proofs.Common.{[], refl, ap, subst, sym}
use Rattle.mg_feed.specs.FeedSeen.{seen, fed}
use Rattle.mg_feed.specs.Fed.{Fed, Reading}
use Rattle.mg_feed.specs.View.{View}
use Rattle.mg_feed.specs.Lines.{NoFeed}
use Rattle.mg_feed.proofs.Moving.{heavier-bytes, heavier-end}
use Rattle.mg_feed.proofs.Stepping.{moved-bytes, moved-end, stopped-failed, kept-none, kept-short}
use Rattle.mg_feed.proofs.feed.Feed.fill.Goals as goal

abbrev reading : View → Reading → Fed
reading v r = record { view = v; read = r }

pub returns-in-Bytes : goal.returns-in-Bytes
returns-in-Bytes g c =
    let got = c.in-Bytes.ensures.filled in
    let none = kept-none _ _ c.args.self.now.reader.none (subst NoFeed (sym c.requires.passed) tt) in
    let short = kept-short _ _ c.requires.passed c.args.self.now.short in (
      got.bytes,
      moved-bytes (fed c.args.self.now) (reading (seen c.args.self.now) _) _ _ refl c.requires.open none short got,
      heavier-bytes (fed c.args.self.now) (reading (seen c.args.self.now) _) got.bytes refl c.requires.open got.ended got.kept got.some,
    )

pub returns-in-End : goal.returns-in-End
returns-in-End g c =
    let got = c.in-End.ensures.filled in
    let none = kept-none _ _ c.args.self.now.reader.none (subst NoFeed (sym c.requires.passed) tt) in (
      [],
      moved-end (fed c.args.self.now) (reading (seen c.args.self.now) _) _ _ refl c.requires.open none got,
      heavier-end (fed c.args.self.now) (reading (seen c.args.self.now) _) refl c.requires.open got.ended got.kept,
    )

pub returns-in-Failed : goal.returns-in-Failed
returns-in-Failed g c =
    let got = c.in-Failed.ensures.filled in
    let none = kept-none _ _ c.args.self.now.reader.none (subst NoFeed (sym c.requires.passed) tt) in
    stopped-failed (fed c.args.self.now) (reading (seen c.args.self.now) _) _ _ (ap (reading (seen c.args.self.now)) got.same) c.requires.open none got
