use Rattle.std.proofs.Common.{◌∙◌, ◌++◌, sym, Some, None}
use Rattle.mg_subgraph.specs.Names.{names}
use Rattle.mg_subgraph.proofs.Indexed.{place_found}
use Rattle.mg_subgraph.proofs.Meeting.{joined_none, joined_some, joined_place}
use Rattle.mg_subgraph.proofs.renaming.Binding.outer_name.Goals as goal

pub returns-in-None : goal.returns-in-None
returns-in-None c =
    let binding = c.args.self.now in
    let name = c.args.name.now in
    let none = joined_place binding.names.now binding.inputs.now binding.outputs.now name None binding.placed c.in-None.ensures in
    sym (joined_none binding.given_in.now binding.given_out.now binding.inputs.now binding.outputs.now name none)

pub returns-in-Some : goal.returns-in-Some
returns-in-Some c =
    let binding = c.args.self.now in
    let name = c.args.name.now in
    let place = c.in-Some.place in
    let found = joined_place binding.names.now binding.inputs.now binding.outputs.now name (Some place) binding.placed c.in-Some.ensures in
    let here = place_found (λ port. names name port.name) (binding.inputs.now ++ binding.outputs.now) place found in
    c.name_beside.ensures here.0 here.1 ∙ sym (joined_some binding.given_in.now binding.given_out.now binding.inputs.now binding.outputs.now name place here.0 binding.once found here.1)
