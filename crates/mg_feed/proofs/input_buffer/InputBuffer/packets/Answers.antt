use Rattle.std.proofs.Common.{sym, ap, ◌∙◌}
use Rattle.serde_json.specs.View.{view, members_view}
use Rattle.mg_feed.specs.Form.{listed}
use Rattle.mg_feed.specs.View.{View, with_streams}
use Rattle.mg_feed.specs.Seen.{input_buffer}
use Rattle.mg_feed.specs.Code.Due.{with_due}
use Rattle.mg_feed.proofs.Room.{packets-heard}
use Rattle.mg_feed.proofs.input_buffer.InputBuffer.packets.Goals as goal

pub returns : goal.returns
returns c = packets-heard (input_buffer c.args.self.now) _ (view c.args.time.now) (listed (members_view c.args.members.now.entries)) c.in_ok-due.due.items
    (sym c.knows_all.ensures ∙ c.if-not-knows_all.false) c.in_ok-due.ensures.good c.in_ok-due.ensures.due
    (c.lay.ensures ∙ ap (λ (v : View). with_streams v (with_due c.in_ok-due.due.items v.given.streams)) c.in_ok-make_room.ensures.kept)
