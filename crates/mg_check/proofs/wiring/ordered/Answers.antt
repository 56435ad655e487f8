use Rattle.mg_config.specs.Config.{graph_view}
use Rattle.mg_check.proofs.Between.{sources_within, links_within}
use Rattle.mg_check.proofs.wiring.ordered.Goals as goal

pub order_of-requires-clause-sources : goal.order_of-requires-clause-sources
order_of-requires-clause-sources c = sources_within c.args.drafts.now c.as_slice.result.now c.in_ok-sources.sources.items c.as_slice.ensures.value c.in_ok-sources.ensures

pub order_of-requires-clause-links : goal.order_of-requires-clause-links
order_of-requires-clause-links c =
    links_within c.args.drafts.now (graph_view c.args.graph.now) c.as_slice-2.result.now c.in_ok-links.links.items c.args.writers.now c.args.edges.now
    c.as_slice-2.ensures.value c.in_ok-links.ensures c.requires.writers c.requires.edges
