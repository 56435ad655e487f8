use Rattle.std.proofs.Common.{map, take, subst, sym}
use Rattle.mg_config.specs.Config.{node_view}
use Rattle.mg_check.specs.Choosing.{chosen_nodes}
use Rattle.mg_check.proofs.ChoiceSteps.{chosen_put}
use Rattle.mg_subgraph.proofs.Steps.{taken}
use Rattle.mg_check.specs.Code.Choices.{choices_view, IsWanted}
use Rattle.mg_check.proofs.choosing.choices_of.Goals as goal

pub loop-place-preserved : goal.loop-place-preserved
loop-place-preserved c =
    let nodes = c.args.nodes.now in
    let place = c.loop-place.place in
    let node = c.index-nodes-place.result in
    let bytes = c.as_bytes-name.result.now in
    record {
      list = λ outers stock.
          chosen_put outers nodes place node c.args.stock.now c.loop-place.wanted bytes c.get.result.now c.get-in-loop-place.result.now c.kind_for-kind.result
          (choices_view c.loop-place.list.items) (choices_view c.push_choice.new.list.items) (chosen_nodes outers (map node_view nodes))
          c.loop-place-test.true c.index-nodes-place.is c.as_bytes-name.ensures.bytes c.get.ensures c.get-in-loop-place.ensures c.kind_for-kind.ensures c.in_ok-push_choice.ensures
          stock c.loop-place.invariant.wanted (c.loop-place.invariant.list outers stock);
      wanted =
          subst (IsWanted c.count_node.new.wanted) (sym (taken node_view nodes place node c.loop-place-test.true c.index-nodes-place.is))
          (c.in_ok-count_node.ensures (map node_view (take place nodes)) c.loop-place.invariant.wanted);
    }
