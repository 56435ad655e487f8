use Rattle.std.proofs.Common.{◌∙◌, sym, ap, map}
use Rattle.std.specs.Prelude.{option_copied}
use Rattle.std.specs.Option.{option_or}
use Rattle.mg_config.specs.Config.{node_view, graph_view}
use Rattle.mg_subgraph.specs.Code.Judged.{reserved_at, reserved_in_node}
use Rattle.mg_subgraph.specs.Refusals.{first_some}
use Rattle.mg_subgraph.proofs.Looked.{copied_or, reserved_graph}
use Rattle.mg_subgraph.proofs.reserved.reserved_in_graph.Goals as goal

pub returns : goal.returns
returns c =
    let graph = graph_view c.args.graph.now in
    ap option_copied c.or.ensures
    ∙ (copied_or c.reserved_among.result c.reserved_in_nodes.result
    ∙ (ap (λ o. option_or o (option_copied c.reserved_in_nodes.result)) c.reserved_among.ensures
    ∙ (ap (λ o. option_or (reserved_at graph.inputs graph.outputs graph.input_sides graph.output_sides) o) (c.reserved_in_nodes.ensures ∙ ap (λ l. first_some reserved_in_node (map node_view l)) c.as_slice.ensures)
    ∙ sym (reserved_graph graph))))
