use Rattle.std.proofs.Common.{◌≡◌, ◌∙◌, Ok, ap, map, subst, sym, true}
use Rattle.std.proofs.lemmas.Result.{err_from_is_err_and}
use Rattle.mg_text.specs.View.{field_view}
use Rattle.mg_config.specs.Values.{has_name}
use Rattle.mg_config.specs.Config.{node_view}
use Rattle.mg_config.proofs.Named.{node_name}
use Rattle.mg_config.proofs.Noded.{AreNodes, nodes_first, nodes_skip, nodes_fault, nodes_more, nodes_all}
use Rattle.mg_config.proofs.nodes.nodes_sharing.Goals as goal

pub returns-in_err-node-clause-err : goal.returns-in_err-node-clause-err
returns-in_err-node-clause-err c =
    let p = err_from_is_err_and c.from_residual.result c.from_residual.ensures.1 in
    let here : has_name node_name (field_view c.field-item.result) ≡ true = sym c.if-not-has_name.ensures in
    rw (p.1, p.2) (λ ne. nodes_fault c.args.fields.now c.loop-field.field-index c.loop-field.k c.field-item.result c.fields_of_value.result.now c.loop-field.nodes.items c.in_err-node.field-0.0
    c.loop-field-test.true c.field-item.is here c.loop-field.invariant c.fields_of_value.ensures (c.in_err-node.ensures.err ne))

pub loop-field-preserved : goal.loop-field-preserved
loop-field-preserved c =
    let here : has_name node_name (field_view c.field-item.result) ≡ true = sym c.if-not-has_name.ensures in
    nodes_more c.args.fields.now c.loop-field.field-index c.loop-field.k c.field-item.result c.fields_of_value.result.now c.loop-field.nodes.items _ c.in_ok-node.node
    c.loop-field-test.true c.field-item.is here c.loop-field.invariant c.fields_of_value.ensures c.in_ok-node.ensures.ok c.in_ok-push.ensures.items

pub loop-field-init : goal.loop-field-init
loop-field-init c = subst (AreNodes c.args.fields.now 0 0) (sym c.new-nodes.ensures.items) (nodes_first c.args.fields.now)

pub loop-field-preserved-then-not-has_name : goal.loop-field-preserved-then-not-has_name
loop-field-preserved-then-not-has_name c =
    nodes_skip c.args.fields.now c.loop-field.field-index c.loop-field.k c.field-item.result c.loop-field.nodes.items c.loop-field-test.true c.field-item.is (sym c.if-not-has_name.ensures) c.loop-field.invariant

pub returns-clause-ok : goal.returns-clause-ok
returns-clause-ok c =
    nodes_all c.args.fields.now c.loop-field.field-index c.loop-field.k c.loop-field.nodes.items c.loop-field-test.false c.loop-field.invariant ∙ ap (λ nodes. Ok (map node_view nodes)) (sym c.in_ok-from_vec.ensures.entries)
