use Rattle.std.proofs.Common.{◌∙◌, ap}
use Rattle.mg_names.specs.Renaming.{with_names}
use Rattle.mg_subgraph.specs.Code.Bindings.{new_name}
use Rattle.mg_subgraph.proofs.Meeting.{names_renamed}
use Rattle.mg_subgraph.proofs.renaming.Binding.renamed.Goals as goal

pub returns : goal.returns
returns c = c.with_names.ensures ∙ (ap (with_names c.args.ports) c.in_ok-names.ensures ∙ names_renamed (new_name c.args.self.now c.args.prefix.now) c.args.ports)
