use Rattle.mg_drive.proofs.Tellings.{lines_written}
use Rattle.mg_drive.proofs.told_lines.OutputTextTelling.pass_on.Goals as goal

pub returns : goal.returns
returns g c = λ plan first sets h.
    lines_written c.args.self.now c.flush.new.self plan first (g.K.Sink.told c.args.output.now) (g.K.Sink.told c.flush.new.output) sets c.flush.ensures.names c.flush.ensures.put h
