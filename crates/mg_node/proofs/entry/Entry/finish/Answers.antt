use Rattle.std.proofs.lemmas.Result.{on_ok_weaker}
use Rattle.mg_node.proofs.Finishing.{finishes_entry}
use Rattle.mg_node.proofs.entry.Entry.finish.Goals as goal

pub returns-clause-finished : goal.returns-clause-finished
returns-clause-finished g c = on_ok_weaker c.finish_back.result (λ finishes. finishes_entry _ c.args.self.now _ c.self.view_is finishes) c.finish_back.ensures.finished
