use Rattle.std.proofs.Common.{subst, sym}
use Rattle.mg_feed.specs.Lines.{NoFeed}
use Rattle.mg_feed.specs.Code.Readers.{reading_of}
use Rattle.mg_feed.proofs.Stepping.{kept-none}
use Rattle.mg_feed.proofs.LinesOut.{moves-end, stops-failed}
use Rattle.mg_feed.proofs.lines.Lines.fill.Goals as goal

pub returns-in-End-clause-steps : goal.returns-in-End-clause-steps
returns-in-End-clause-steps g c = λ longest.
    let none = kept-none _ _ c.args.self.now.reader.none (subst NoFeed (sym c.requires.passed) tt) in
    moves-end (reading_of c.args.self.now.reader) _ _ _ c.requires.open none c.in-End.ensures.filled

pub returns-in-Failed-clause-steps : goal.returns-in-Failed-clause-steps
returns-in-Failed-clause-steps g c = λ longest.
    let none = kept-none _ _ c.args.self.now.reader.none (subst NoFeed (sym c.requires.passed) tt) in
    stops-failed longest (reading_of c.args.self.now.reader) _ _ _ c.requires.open none c.in-Failed.ensures.filled
