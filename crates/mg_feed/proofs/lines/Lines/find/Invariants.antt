-- More was read, and no line of it is whole.
use Rattle.std.proofs.Common.{◌≡◌, ◌-◌}
use Rattle.mg_feed.specs.Handed.{MovesOn}
use Rattle.mg_feed.specs.Code.Readers.{reading_of}
use Rattle.mg_feed.specs.Code.Handing.{weight_of}
use Rattle.mg_feed.proofs.LinesOut.{heaviest_of}
use Rattle.mg_feed.proofs.lines.Lines.find.Given as goal

abbrev pub invariant-reads : goal.invariant-reads
invariant-reads g l = MovesOn (g.S.Source.told l.fn.source) (g.S.Source.told l.source) (reading_of l.fn.self.reader) (reading_of l.self.reader) × (l.self.number ≡ l.fn.self.number)

abbrev pub decreases-reads : goal.decreases-reads
decreases-reads g l = heaviest_of - weight_of (reading_of l.self.reader)
