use Rattle.mg_feed.specs.Code.Readers.{reading_of}
use Rattle.mg_feed.proofs.Stepping.{kept-none}
use Rattle.mg_feed.proofs.LinesOut.{stops-ended, stops-long}
use Rattle.mg_feed.proofs.lines.Lines.read_on.Goals as goal

pub returns-then-self-clause-steps : goal.returns-then-self-clause-steps
returns-then-self-clause-steps g c = stops-ended c.args.longest _ (reading_of c.args.self.now.reader) c.if-self.true (kept-none _ _ c.args.self.now.reader.none c.requires)

pub returns-in-Err-clause-steps : goal.returns-in-Err-clause-steps
returns-in-Err-clause-steps g c =
    let long = c.in_ok-next.ensures in
    let far = c.in-Err.ensures.fault long.1 in
    stops-long c.args.longest _ (reading_of c.args.self.now.reader) _ c.in_ok-next.next long.0 c.in-Err.ensures.reading (kept-none _ _ c.args.self.now.reader.none c.requires) far.1
