use Rattle.std.proofs.Common.{Bool, ◌++◌, ◌∷◌, [], sym, subst}
use Rattle.mg_drive.specs.Recorded.{HasEvents}
use Rattle.mg_drive.proofs.EventsPut.{event_past, event_put}
use Rattle.mg_drive.proofs.event_text.EventTextHears.hear.Goals as goal

pub returns-then-self : goal.returns-then-self
returns-then-self g c = λ began events has. (
  has.0,
  has.1,
  event_past (g.K.Sink.told began.output.now) (g.K.Sink.told c.args.self.now.output.now) began.blocks.now c.args.self.now.blocks.now c.args.event c.args.self.now.out_of_memory c.if-self.true events has.2,
)

pub returns : goal.returns
returns g c = λ began events has. (
  has.0,
  has.1,
  subst (λ (b : Bool). HasEvents (g.K.Sink.told began.output.now) began.blocks.now b (g.K.Sink.told c.put.new.output) c.put.new.self (events ++ c.args.event ∷ [])) (sym c.is_err-self.ensures.value)
      (event_put c.put.result (g.K.Sink.told began.output.now) (g.K.Sink.told c.args.self.now.output.now) (g.K.Sink.told c.put.new.output) began.blocks.now c.args.self.now.blocks.now c.put.new.self c.args.event
      c.args.self.now.out_of_memory c.if-self.false c.put.ensures.put c.put.ensures.unwritten events has.2),
)
