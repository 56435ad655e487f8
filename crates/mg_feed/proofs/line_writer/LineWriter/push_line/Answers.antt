use Rattle.std.proofs.Common.{◌∙◌, ap, sym, ◌++◌}
use Rattle.std.proofs.lemmas.Result.{on_ok_weaker}
use Rattle.mg_feed.specs.Code.LineHead.{line_head, line_tail}
use Rattle.mg_feed.proofs.Text.{line_text-parts}
use Rattle.mg_feed.proofs.WholeOrNone.{put_whole, put_none}
use Rattle.mg_feed.proofs.line_writer.LineWriter.push_line.Goals as goal

pub returns-clause-line : goal.returns-clause-line
returns-clause-line c =
    let head = c.deref.ensures.value ∙ c.self.invariant ∙ ap line_head c.self.view_is in
    let whole = ap (λ h. h ++ line_tail c.args.packet.now) head ∙ sym (line_text-parts c.args.self.now c.args.packet.now) in
    put_whole c.push_with_head-pushed.result c.whole_or_none.result c.args.text.now.items c.push_with_head-pushed.new.text.items c.whole_or_none.new.text.items _ c.len-len.result
    c.whole_or_none.ensures.same c.whole_or_none.ensures.items
    (on_ok_weaker c.push_with_head-pushed.result (λ e. e ∙ ap (λ l. c.args.text.now.items ++ l) whole) c.push_with_head-pushed.ensures.line)

pub returns-clause-unchanged : goal.returns-clause-unchanged
returns-clause-unchanged c =
    put_none c.push_with_head-pushed.result c.whole_or_none.result c.args.text.now.items c.push_with_head-pushed.new.text.items c.whole_or_none.new.text.items c.len-len.result
    c.whole_or_none.ensures.same c.whole_or_none.ensures.items (c.len-len.ensures ∙ c.args.text.now.ok.0) c.push_with_head-pushed.ensures.part
