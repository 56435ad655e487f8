use Rattle.std.proofs.Common.{◌∙◌, ap, ◌++◌, map, codes}
use Rattle.mg_text.specs.View.{field_view}
use Rattle.mg_config.specs.Config.{node_view}
use Rattle.mg_config.specs.Written.{text_field, list_fields, number_field, node_entry}
use Rattle.mg_config.proofs.Appended.{chain, map_map}
use Rattle.mg_config.proofs.writing.graph_fields.Goals as goal

pub returns : goal.returns
returns c =
    let graph = c.args.graph.now in
    chain (map field_view c.new-fields.result.items) (map field_view c.put_text.new.out.items) (map field_view c.put_lists.new.out.items) (map field_view c.put_numbers.new.out.items) (map field_view c.put_nodes.new.out.items)
    (text_field (codes "type") graph.type_name) (list_fields graph.inputs graph.outputs graph.input_sides graph.output_sides) (number_field (codes "max_queue_size") graph.max_queue_size) (number_field (codes "num_threads") graph.num_threads) (map node_entry (map node_view graph.nodes))
    (ap (map field_view) c.new-fields.ensures.items) c.in_ok-put_text.ensures c.in_ok-put_lists.ensures c.in_ok-put_numbers.ensures
    (c.in_ok-put_nodes.ensures ∙ ap (λ es. map field_view c.put_numbers.new.out.items ++ es) (map_map node_entry node_view c.as_slice.result.now ∙ ap (λ ns. map node_entry (map node_view ns)) c.as_slice.ensures))
