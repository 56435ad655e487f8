use Rattle.std.proofs.Common.{◌≡◌, ◌∙◌, sym, ap, Some, false}
use Rattle.std.specs.Prelude.{find}
use Rattle.std.proofs.lemmas.Bool.{cond-false}
use Rattle.mg_subgraph.specs.Names.{is_reserved}
use Rattle.mg_subgraph.specs.Refusals.{list_names}
use Rattle.mg_subgraph.proofs.Looked.{reserved_lists}
use Rattle.mg_subgraph.proofs.reserved.reserved_in_node.Goals as goal

pub returns : goal.returns
returns c =
    let node = c.args.node.now in
    let free : is_reserved node.name ≡ false = ap is_reserved (sym c.as_bytes.ensures.bytes) ∙ (sym c.is_reserved.ensures ∙ c.if-is_reserved.false) in
    c.reserved_among.ensures
    ∙ sym (cond-false (is_reserved node.name) (Some node.name) (find is_reserved (list_names node.inputs node.outputs node.input_sides node.output_sides)) free
    ∙ reserved_lists node.inputs node.outputs node.input_sides node.output_sides)
