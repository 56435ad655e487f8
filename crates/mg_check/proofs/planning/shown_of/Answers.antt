use Rattle.std.proofs.Common.{◌∙◌, ap, map}
use Rattle.std.specs.List.{range_with_len}
use Rattle.mg_config.specs.Config.{graph_view}
use Rattle.mg_check.specs.DraftView.{drafts_view}
use Rattle.mg_subgraph.specs.Refusals.{port_names}
use Rattle.mg_check.specs.Names.{number_among}
use Rattle.mg_check.proofs.Made.{shown_streams}
use Rattle.mg_check.proofs.planning.shown_of.Goals as goal

pub returns : goal.returns
returns c = record {
  as_streams = shown_streams (graph_view c.args.graph.now) (drafts_view c.args.drafts.now) c.in_ok-streams.streams c.args.plan_names.now.streams c.as_slice.result.now c.args.wiring.now.mets.items c.as_slice-2.result.now c.args.wiring.now.writers.items
      c.in_ok-streams.ensures c.requires.plan_names.of_streams c.as_slice.ensures.value c.requires.wiring.all_mets c.as_slice-2.ensures.value c.requires.wiring.all_writers;
  as_sides = c.in_ok-sides.ensures;
  as_inputs = c.in_ok-inputs.ensures ∙ ap (range_with_len 0) c.len.ensures;
  as_outputs = c.in_ok-outputs.ensures ∙ ap (λ names. map (number_among names) (port_names c.args.graph.now.outputs)) c.requires.plan_names.of_streams;
}
