use Rattle.std.proofs.Common.{◌≡◌, ◌∙◌, [], length, refl, sym}
use Rattle.mg_subgraph.specs.Code.Index.{is_name}
use Rattle.mg_subgraph.specs.Refusals.{port_names}
use Rattle.mg_subgraph.proofs.Steps.{length-map}
use Rattle.mg_subgraph.proofs.shared.index_ports.Goals as goal

pub returns : goal.returns
returns c =
    let inputs = c.args.inputs.now in
    let count : length (port_names inputs) ≡ c.len.result = length-map (λ p. p.name) inputs ∙ sym c.len.ensures in
    c.in_ok-add_ports-2.ensures (port_names inputs) count (c.in_ok-add_ports.ensures [] refl (c.new-table.ensures is_name))
