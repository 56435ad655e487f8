use Rattle.std.proofs.Common.{arith}
use Rattle.std.proofs.lemmas.Result.{err_from_is_err_and}
use Rattle.mg_settled.specs.Prefix.{appended}
use Rattle.mg_feed.specs.Code.Streams.{waiting, was_taken}
use Rattle.mg_feed.proofs.Steps.{map-stepped, map-same, stepped-past}
use Rattle.mg_feed.proofs.streams.append_at.Goals as goal

pub returns-in_err-push_packet-clause-unchanged : goal.returns-in_err-push_packet-clause-unchanged
returns-in_err-push_packet-clause-unchanged c =
    let p = err_from_is_err_and c.from_residual.result c.from_residual.ensures.1 in
    rw p.1 (map-same waiting c.args.streams.now c.args.place c.push_packet.new.stream c.index-streams-i.result (omega arith) c.in_err-push_packet.ensures.unchanged)

pub returns-in_err-push_packet-clause-taken : goal.returns-in_err-push_packet-clause-taken
returns-in_err-push_packet-clause-taken c =
    map-same was_taken c.args.streams.now c.args.place c.push_packet.new.stream c.index-streams-i.result (omega arith) c.in_err-push_packet.ensures.taken

pub returns-in_ok-push_packet-clause-good : goal.returns-in_ok-push_packet-clause-good
returns-in_ok-push_packet-clause-good c =
    map-stepped waiting (λ s. appended s c.args.packet) c.args.streams.now c.args.place c.push_packet.new.stream c.index-streams-i.result (omega arith)
    c.in_ok-push_packet.ensures.good

pub returns-in_ok-push_packet-clause-taken : goal.returns-in_ok-push_packet-clause-taken
returns-in_ok-push_packet-clause-taken c =
    map-same was_taken c.args.streams.now c.args.place c.push_packet.new.stream c.index-streams-i.result (omega arith) c.in_ok-push_packet.ensures.taken

pub returns-else-i-streams-clause-good : goal.returns-else-i-streams-clause-good
returns-else-i-streams-clause-good c = stepped-past waiting (λ s. appended s c.args.packet) c.args.streams.now c.args.place (omega arith)
