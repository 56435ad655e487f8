use Rattle.std.proofs.Common.{◌∙◌, ap, map, is_some}
use Rattle.std.specs.Prelude.{position}
use Rattle.mg_config.specs.Config.{graph_view}
use Rattle.mg_subgraph.specs.Library.{is_of}
use Rattle.mg_subgraph.proofs.Looked.{some_place}
use Rattle.mg_subgraph.proofs.reserved.is_subgraph.Goals as goal

pub returns : goal.returns
returns c =
    let library = map graph_view c.args.library.now.files.now in
    c.is_some.ensures ∙ (ap is_some c.find.ensures ∙ (ap (λ l. is_some (position (is_of l) library)) c.as_str.ensures ∙ some_place (is_of c.args.node.now.calculator) library))
