use Rattle.std.proofs.Common.{refl, arith}
use Rattle.mg_feed.specs.FeedSeen.{fed}
use Rattle.mg_drive.proofs.BatchesRead.{batch_read, reads_further}
use Rattle.mg_drive.proofs.lines.read_on.Goals as goal

pub returns-clause-batch : goal.returns-clause-batch
returns-clause-batch g c = λ plan first past lines was.
    batch_read c.args.early plan first (g.S.Source.told c.args.input.now) (g.S.Source.told c.read_batch-end.new.source) 4096 c.read_batch-end.result (fed c.args.feed.now) (fed c.read_batch-end.new.self) (fed c.take_inputs.new.self)
    c.in_ok-inputs.inputs c.has_ended.result past lines (omega arith) refl (c.lacks_memory.ensures.0 c.if-lacks_memory.false) was
    c.read_batch-end.ensures.read c.read_batch-end.ensures.end c.read_batch-end.ensures.fault c.read_batch-end.ensures.reads c.read_batch-end.ensures.few c.read_batch-end.ensures.graph
    c.has_ended.ensures c.in_ok-inputs.ensures.streams c.in_ok-inputs.ensures.sides c.in_ok-inputs.ensures.ended
    c.in_ok-inputs.ensures.stands c.in_ok-inputs.ensures.graph c.in_ok-inputs.ensures.read

pub returns-then-lacks_memory-clause-further : goal.returns-then-lacks_memory-clause-further
returns-then-lacks_memory-clause-further g c =
    reads_further c.args.early 4096 c.read_batch-end.result (g.S.Source.told c.args.input.now) (g.S.Source.told c.read_batch-end.new.source) (fed c.args.feed.now) (fed c.read_batch-end.new.self)
    c.read_batch-end.ensures.read c.read_batch-end.ensures.end c.read_batch-end.ensures.fault c.read_batch-end.ensures.reads c.read_batch-end.ensures.graph

pub returns-in_err-inputs-clause-further : goal.returns-in_err-inputs-clause-further
returns-in_err-inputs-clause-further g c =
    reads_further c.args.early 4096 c.read_batch-end.result (g.S.Source.told c.args.input.now) (g.S.Source.told c.read_batch-end.new.source) (fed c.args.feed.now) (fed c.read_batch-end.new.self)
    c.read_batch-end.ensures.read c.read_batch-end.ensures.end c.read_batch-end.ensures.fault c.read_batch-end.ensures.reads c.read_batch-end.ensures.graph

pub returns-clause-further : goal.returns-clause-further
returns-clause-further g c =
    reads_further c.args.early 4096 c.read_batch-end.result (g.S.Source.told c.args.input.now) (g.S.Source.told c.read_batch-end.new.source) (fed c.args.feed.now) (fed c.read_batch-end.new.self)
    c.read_batch-end.ensures.read c.read_batch-end.ensures.end c.read_batch-end.ensures.fault c.read_batch-end.ensures.reads c.read_batch-end.ensures.graph
