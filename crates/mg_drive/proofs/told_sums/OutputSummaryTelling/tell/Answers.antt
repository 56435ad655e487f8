use Rattle.mg_drive.proofs.Tellings.{few_sums, sums_more}
use Rattle.mg_drive.proofs.told_sums.OutputSummaryTelling.tell.Goals as goal

pub put_set-requires : goal.put_set-requires
put_set-requires g c = few_sums c.args.self.now (g.K.Sink.told c.args.output.now) c.requires

pub returns-clause-put : goal.returns-clause-put
returns-clause-put g c = λ plan first sets timed is h.
    sums_more c.args.self.now c.put_set.new.self plan first (g.K.Sink.told c.args.output.now) sets timed c.args.set.now c.put_set.ensures.names c.put_set.ensures.put is h
