use Rattle.std.proofs.Common.{◌∙◌}
use Rattle.mg_stream.specs.Queue.{empty_queue, raised_to}
use Rattle.mg_node.proofs.Advancing.{only_mapped}
use Rattle.mg_node.proofs.raising.raise_all.Goals as goal

pub returns-then-outputs-eq1 : goal.returns-then-outputs-eq1
returns-then-outputs-eq1 c = c.raise_first.ensures ∙ only_mapped (λ q. raised_to q c.args.bound) c.args.outputs.now empty_queue c.if-outputs-eq1.true
