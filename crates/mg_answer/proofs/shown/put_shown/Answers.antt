use Rattle.std.proofs.Common.{◌∙◌}
use Rattle.mg_feed.proofs.WholeOrNone.{put_whole, put_none}
use Rattle.mg_answer.proofs.shown.put_shown.Goals as goal

pub returns-clause-put : goal.returns-clause-put
returns-clause-put c =
    put_whole c.put_bytes-put.result c.whole_or_none.result c.args.note.now.items c.put_bytes-put.new.note.items c.whole_or_none.new.text.items _ c.len-len.result
    c.whole_or_none.ensures.same c.whole_or_none.ensures.items c.put_bytes-put.ensures.put

pub returns-clause-unchanged : goal.returns-clause-unchanged
returns-clause-unchanged c =
    put_none c.put_bytes-put.result c.whole_or_none.result c.args.note.now.items c.put_bytes-put.new.note.items c.whole_or_none.new.text.items c.len-len.result
    c.whole_or_none.ensures.same c.whole_or_none.ensures.items (c.len-len.ensures ∙ c.args.note.now.ok.0) c.put_bytes-put.ensures.part
