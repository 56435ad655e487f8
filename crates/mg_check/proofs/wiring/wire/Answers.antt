use Rattle.std.proofs.Common.{◌∙◌, sym}
use Rattle.mg_config.specs.Config.{graph_view}
use Rattle.mg_check.specs.DraftView.{drafts_view}
use Rattle.std.proofs.lemmas.List.{length-map}
use Rattle.mg_check.specs.DraftView.{draft_view}
use Rattle.mg_check.proofs.Made.{all_edges_made}
use Rattle.mg_check.proofs.wiring.wire.Goals as goal

pub returns : goal.returns
returns c =
    let graph = graph_view c.args.graph.now in
    let ds = drafts_view c.args.drafts.now in
    let made = all_edges_made graph ds c.add_collector.new.edges.items c.in_ok-edges.edges.items c.args.streams.now _ c.in_ok-add_collector.ensures c.in_ok-edges.ensures c.requires.streams (sym (length-map c.args.drafts.now draft_view)) in
    record {
      all_edges = made;
      all_mets = c.in_ok-mets.ensures (c.as_slice-3.ensures.value ∙ made);
      all_writers = c.in_ok-writers.ensures;
      in_order = c.in_ok-order.ensures;
    }
