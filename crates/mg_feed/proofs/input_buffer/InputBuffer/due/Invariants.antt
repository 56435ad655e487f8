use Rattle.std.proofs.Common.{◌≡◌, ◌++◌, List}
use Rattle.serde_json.specs.View.{view, members_view}
use Rattle.mg_feed.specs.Form.{listed, time_of}
use Rattle.mg_feed.specs.Accepted.{first_refusal, several_refusals}
use Rattle.mg_feed.specs.View.{before_seen}
use Rattle.mg_feed.specs.Seen.{input_buffer}
use Rattle.mg_feed.specs.Code.Due.{AreDue}
use Rattle.mg_feed.proofs.Several.{Member}
use Rattle.mg_feed.proofs.input_buffer.InputBuffer.due.Given as goal

-- the packets of the members so far, which are good
abbrev pub invariant-loop-name : goal.invariant-loop-name
invariant-loop-name l =
    (done : List Member) × (l.members.entries ≡ done ++ l.name-iterator)
    × AreDue (input_buffer l.self).graph (time_of (view l.time)) (listed (members_view done)) l.due.items
    × (first_refusal (several_refusals (before_seen (input_buffer l.self)) (time_of (view l.time)) (listed (members_view l.members.entries)))
    ≡ first_refusal (several_refusals (before_seen (input_buffer l.self)) (time_of (view l.time)) (listed (members_view l.name-iterator))))
