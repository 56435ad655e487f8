use Rattle.mg_feed.proofs.Blocks.{within-part, part-passed}
use Rattle.mg_feed.proofs.reader.Reader.pass.Goals as goal

pub returns-clause-left : goal.returns-clause-left
returns-clause-left c =
    let r = c.args.self.now in
    part-passed r.block.items r.at r.filled c.args.count (within-part r.block.items r.at r.filled c.args.count r.ahead c.requires)
