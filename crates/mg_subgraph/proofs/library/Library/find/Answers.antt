use Rattle.std.proofs.Common.{◌∙◌, map}
use Rattle.mg_config.specs.Config.{graph_view}
use Rattle.mg_subgraph.specs.Names.{names}
use Rattle.mg_subgraph.proofs.Indexed.{position-map}
use Rattle.mg_subgraph.proofs.library.Library.find.Goals as goal

pub returns : goal.returns
returns c =
    let files = map graph_view c.args.self.now.files.now in
    c.get.ensures ∙ (c.args.self.now.placed.first c.args.calculator.now
    ∙ position-map (names c.args.calculator.now) (λ file. file.type_name) files)
