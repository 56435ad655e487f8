use Rattle.std.proofs.Common.{◌+◌, refl, ap, sym, subst}
use Rattle.mg_feed.specs.FeedSeen.{seen, fed}
use Rattle.mg_feed.specs.Fed.{Fed, Reading}
use Rattle.mg_feed.specs.View.{View}
use Rattle.mg_feed.specs.Code.Moves.{EndsReading}
use Rattle.mg_feed.specs.declared.line_fault.LineFault.{LineFault}
use Rattle.mg_feed.specs.declared.feed_end.FeedEnd.TheVariants.{Refused}
use Rattle.mg_feed.proofs.Coming.{ends-long}
use Rattle.mg_feed.proofs.Stepping.{stopped-ended, stopped-by, kept-none}
use Rattle.mg_feed.proofs.feed.Feed.read_on.Goals as goal

abbrev reading : View → Reading → Fed
reading v r = record { view = v; read = r }

pub returns-then-self : goal.returns-then-self
returns-then-self g c = stopped-ended (fed c.args.self.now) _ c.if-self.true (kept-none _ _ c.args.self.now.reader.none c.requires)

pub returns-in-Err : goal.returns-in-Err
returns-in-Err g c =
    let f = fed c.args.self.now in
    stopped-by c.stop_by.result f (reading (seen c.args.self.now) _) _ c.in-Err.fault f.view.lines refl c.stop_by.ensures (ap (reading (seen c.args.self.now)) c.in-Err.ensures.reading)
    (λ other. let long = c.in-Err.ensures.fault other in
    subst (λ (x : LineFault). EndsReading (Refused (f.view.lines + 1) x) f) (sym long.0) (ends-long f (kept-none _ _ c.args.self.now.reader.none c.requires) long.1))
