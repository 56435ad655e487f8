use Rattle.std.proofs.Common.{[], ◌∷◌}
use Rattle.mg_feed.specs.FeedSeen.{fed}
use Rattle.mg_drive.specs.Code.Lines.{lines_of}
use Rattle.mg_drive.proofs.BatchesRead.{nothing_read}
use Rattle.mg_drive.proofs.LinesGoOn.{first_lines, more_lines, first_lines_came, more_lines_came, fewer_lines}
use Rattle.mg_drive.proofs.lines.LineBatchesBatches.next.Goals as goal

pub returns-clause-first : goal.returns-clause-first
returns-clause-first g c = λ laws plan valid new.
    first_lines c.args.self.now.early plan (g.S.Source.told c.args.input.now) (g.S.Source.told c.read_on.new.input) c.in_ok-batch.batch.end c.in_ok-batch.batch.inputs (fed c.read_on.new.feed) valid
    (c.in_ok-batch.ensures.batch plan (g.S.Source.told c.args.input.now) [] [] (nothing_read plan (g.S.Source.told c.args.input.now) (fed c.args.self.now.feed) new.graph new.stands new.unread))

pub returns-clause-goes_on : goal.returns-clause-goes_on
returns-clause-goes_on g c = λ laws began plan first so_far valid gave due.
    more_lines c.args.self.now.early plan first (g.S.Source.told c.args.input.now) (g.S.Source.told c.read_on.new.input) c.in_ok-batch.batch.end c.in_ok-batch.batch.inputs so_far (fed c.args.self.now.feed) (fed c.read_on.new.feed) valid gave
    (c.in_ok-batch.ensures.batch plan first gave.past gave.lines gave.is_read)

pub returns-clause-fewer : goal.returns-clause-fewer
returns-clause-fewer g c = λ laws began plan first so_far gave due more.
    fewer_lines c.args.self.now.early plan first (g.S.Source.told c.args.input.now) (g.S.Source.told c.read_on.new.input) c.in_ok-batch.batch.end c.in_ok-batch.batch.inputs so_far (fed c.args.self.now.feed) (fed c.read_on.new.feed) gave
    (c.in_ok-batch.ensures.batch plan first gave.past gave.lines gave.is_read) more

pub returns-clause-first_came : goal.returns-clause-first_came
returns-clause-first_came g c = λ laws plan valid new.
    first_lines_came c.args.self.now.early plan (g.S.Source.told c.args.input.now) (g.S.Source.told c.read_on.new.input) c.in_ok-batch.batch.end c.in_ok-batch.batch.inputs (fed c.read_on.new.feed) valid
    (c.in_ok-batch.ensures.batch plan (g.S.Source.told c.args.input.now) [] [] (nothing_read plan (g.S.Source.told c.args.input.now) (fed c.args.self.now.feed) new.graph new.stands new.unread))

pub returns-clause-comes_on : goal.returns-clause-comes_on
returns-clause-comes_on g c = λ laws began plan first so_far earlier valid came due.
    more_lines_came c.args.self.now.early began.early plan first (g.S.Source.told c.args.input.now) (g.S.Source.told c.read_on.new.input) c.in_ok-batch.batch.end c.in_ok-batch.batch.inputs so_far earlier (fed c.args.self.now.feed) (fed c.read_on.new.feed) valid came
    (c.in_ok-batch.ensures.batch plan first came.1.past (lines_of (came.1.newest ∷ came.1.earlier)) came.1.is_read)

pub returns-in_err-batch-clause-further : goal.returns-in_err-batch-clause-further
returns-in_err-batch-clause-further g c = λ plan first may. c.in_err-batch.ensures.further plan first

pub returns-clause-further : goal.returns-clause-further
returns-clause-further g c = λ plan first may. c.in_ok-batch.ensures.further plan first
