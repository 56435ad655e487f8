use Rattle.mg_drive.proofs.Tellings.{lines_more}
use Rattle.mg_drive.proofs.told_lines.OutputTextTelling.tell.Goals as goal

pub returns-clause-put : goal.returns-clause-put
returns-clause-put g c = λ plan first sets timed is h.
    lines_more c.args.self.now c.put_set.new.self plan first (g.K.Sink.told c.args.output.now) (g.K.Sink.told c.put_set.new.output) sets timed c.args.set.now c.in_ok-put_set.ensures.names c.in_ok-put_set.ensures.put is h
