use Rattle.std.proofs.Common.{Option, refl, ◌∙◌, subst}
use Rattle.mg_feed.specs.Code.Readers.{reading_of}
use Rattle.mg_feed.specs.Code.Handing.{StepsOn}
use Rattle.mg_feed.specs.declared.lines.NextLine.{NextLine}
use Rattle.mg_feed.proofs.LinesOut.{moves-same, moves-then, lighter}
use Rattle.mg_feed.proofs.lines.Lines.find.Goals as goal

pub reads-init : goal.reads-init
reads-init g c = (moves-same _ (reading_of c.args.self.now.reader), refl)

pub reads-preserved : goal.reads-preserved
reads-preserved g c = (
  moves-then _ _ _ _ _ _ c.reads.invariant.0
      (subst (λ (o : Option NextLine). StepsOn c.args.longest o (g.S.Source.told c.reads.source) (g.S.Source.told c.read_on.new.source) (reading_of c.reads.self.reader) (reading_of c.read_on.new.self.reader)) c.in-None.is c.in_ok-step.ensures.steps).0,
  c.read_on.ensures.number ∙ c.reads.invariant.1,
)

pub reads-smaller : goal.reads-smaller
reads-smaller g c =
    lighter c.read_on.new.self.reader (reading_of c.reads.self.reader)
    (subst (λ (o : Option NextLine). StepsOn c.args.longest o (g.S.Source.told c.reads.source) (g.S.Source.told c.read_on.new.source) (reading_of c.reads.self.reader) (reading_of c.read_on.new.self.reader)) c.in-None.is c.in_ok-step.ensures.steps).1
