use Rattle.std.proofs.Common.{◌≡◌, ◌∙◌, sym, ap, true, false, Some}
use Rattle.std.specs.Prelude.{option_map}
use Rattle.mg_config.specs.Config.{node_view}
use Rattle.mg_check.specs.Choosing.{is_short}
use Rattle.mg_check.specs.Code.Choices.{too_few_of}
use Rattle.mg_check.proofs.Firsts.{found_here, found_later}
use Rattle.mg_check.proofs.choosing.check_boxes.Goals as goal

pub returns-then-is_short-clause-err : goal.returns-then-is_short-clause-err
returns-then-is_short-clause-err c = λ ne outers all stock wanted.
    let node = c.node-item.result in
    let passes : is_short outers all (node_view node) ≡ true = sym (c.is_short.ensures outers all stock wanted) ∙ c.if-is_short.true in
    ap (option_map (too_few_of outers all))
    (c.loop-node.invariant outers all stock wanted ∙ found_here (is_short outers all) node_view c.args.nodes.now c.loop-node.node-index node c.loop-node-test.true c.node-item.is passes)
    ∙ ap Some (sym (c.in_ok-too_few.ensures outers all stock wanted))

pub loop-node-preserved : goal.loop-node-preserved
loop-node-preserved c = λ outers all stock wanted.
    let node = c.node-item.result in
    let fails : is_short outers all (node_view node) ≡ false = sym (c.is_short.ensures outers all stock wanted) ∙ c.if-is_short.false in
    c.loop-node.invariant outers all stock wanted ∙ found_later (is_short outers all) node_view c.args.nodes.now c.loop-node.node-index node c.loop-node-test.true c.node-item.is fails
