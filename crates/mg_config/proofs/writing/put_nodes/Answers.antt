use Rattle.std.proofs.Common.{◌∙◌, ap, ◌++◌, ◌∷◌, [], map, arith, codes}
use Rattle.mg_text.specs.View.{field_view, fields_of, inner}
use Rattle.mg_config.specs.declared.node.NodeConfig.{NodeConfig}
use Rattle.mg_config.specs.Values.{entry}
use Rattle.mg_config.specs.Config.{node_view}
use Rattle.mg_config.specs.Written.{node_entry}
use Rattle.mg_config.proofs.Appended.{map_more}
use Rattle.mg_config.proofs.writing.put_nodes.Goals as goal

pub loop-node-preserved : goal.loop-node-preserved
loop-node-preserved c =
    map_more (λ (n : NodeConfig). node_entry (node_view n)) c.args.nodes.now c.loop-node.node-index c.node-item.result _ _ _ (omega arith) c.node-item.is c.loop-node.invariant
    (c.in_ok-put_message.ensures ∙ ap (λ es. map field_view c.loop-node.out.items ++ entry (codes "node") (inner (fields_of es)) ∷ []) c.in_ok-fields.ensures)
