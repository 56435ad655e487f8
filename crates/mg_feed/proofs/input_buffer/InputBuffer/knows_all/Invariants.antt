use Rattle.std.proofs.Common.{◌≡◌}
use Rattle.std.specs.List.{list_all}
use Rattle.serde_json.specs.View.{members_view}
use Rattle.mg_feed.specs.Form.{listed}
use Rattle.mg_feed.specs.Accepted.{is_stream}
use Rattle.mg_feed.specs.View.{before_seen}
use Rattle.mg_feed.specs.Seen.{input_buffer}
use Rattle.mg_feed.proofs.input_buffer.InputBuffer.knows_all.Given as goal

-- the names so far are known
abbrev pub invariant-loop-name : goal.invariant-loop-name
invariant-loop-name l =
    list_all (λ v. is_stream (before_seen (input_buffer l.self)) v.name) (listed (members_view l.members.entries))
    ≡ list_all (λ v. is_stream (before_seen (input_buffer l.self)) v.name) (listed (members_view l.name-iterator))
