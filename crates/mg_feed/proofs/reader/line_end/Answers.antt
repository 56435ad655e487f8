use Rattle.mg_feed.proofs.Cutting.{line_end-from}
use Rattle.mg_feed.proofs.reader.line_end.Goals as goal

pub returns : goal.returns
returns c = line_end-from c.args.bytes.now c.memchr.result c.memchr.ensures
