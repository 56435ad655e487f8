use Rattle.std.proofs.Common.{sym, ap, ◌∙◌}
use Rattle.mg_feed.specs.Value.{plain_of}
use Rattle.mg_feed.proofs.Values.{plain_of-json}
use Rattle.mg_feed.proofs.judge.payload_by.Goals as goal

pub returns-in-Ok-clause-payload : goal.returns-in-Ok-clause-payload
returns-in-Ok-clause-payload c = sym (plain_of-json _) ∙ ap plain_of c.in-Ok.ensures.says
