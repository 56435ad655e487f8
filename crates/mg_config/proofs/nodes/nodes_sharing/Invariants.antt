use Rattle.mg_config.proofs.Noded.{AreNodes}
use Rattle.mg_config.proofs.nodes.nodes_sharing.Given as goal

abbrev pub invariant-loop-field : goal.invariant-loop-field
invariant-loop-field l = AreNodes l.fields l.field-index l.k l.nodes.items
