use Rattle.std.proofs.Common.{◌∙◌, ap, not}
use Rattle.mg_subgraph.specs.Refusals.{has_fields}
use Rattle.mg_subgraph.proofs.Looked.{has_some}
use Rattle.mg_subgraph.proofs.nodes.has_options.Goals as goal

pub returns : goal.returns
returns c = ap not c.is_empty.ensures ∙ (has_some c.as_slice.result.now ∙ ap has_fields c.as_slice.ensures)
