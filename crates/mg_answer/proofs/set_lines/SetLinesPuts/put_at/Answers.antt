use Rattle.std.proofs.Common.{◌∙◌}
use Rattle.mg_feed.proofs.WholeOrNone.{put_whole, put_none}
use Rattle.mg_answer.proofs.set_lines.SetLinesPuts.put_at.Goals as goal

pub returns-clause-put : goal.returns-clause-put
returns-clause-put c =
    put_whole c.push_set-put.result c.whole_or_none.result c.args.text.now.items c.push_set-put.new.text.items c.whole_or_none.new.text.items _ c.len-len.result
    c.whole_or_none.ensures.same c.whole_or_none.ensures.items c.push_set-put.ensures.put

pub returns-clause-unchanged : goal.returns-clause-unchanged
returns-clause-unchanged c =
    put_none c.push_set-put.result c.whole_or_none.result c.args.text.now.items c.push_set-put.new.text.items c.whole_or_none.new.text.items c.len-len.result
    c.whole_or_none.ensures.same c.whole_or_none.ensures.items (c.len-len.ensures ∙ c.args.text.now.ok.0) c.push_set-put.ensures.part
