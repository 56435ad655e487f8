use Rattle.mg_check.proofs.NodeFaults.{judged_more}
use Rattle.mg_check.proofs.drafting.judge.Goals as goal

pub loop-choice-preserved : goal.loop-choice-preserved
loop-choice-preserved c =
    judged_more c.loop-choice.node_drafts c.put.new.node_drafts c.args.outers.now c.args.choices.now c.loop-choice.choice-index c.choice-item.result c.in_ok-judged.field-0 c.loop-choice-test.true c.choice-item.is
    c.in_ok-judged.ensures c.in_ok-put.ensures.drafts c.in_ok-put.ensures.wrongs c.loop-choice.invariant
