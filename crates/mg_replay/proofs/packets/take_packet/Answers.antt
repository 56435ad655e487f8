use Rattle.std.proofs.Common.{sym, ◌∙◌}
use Rattle.mg_feed.specs.FeedSeen.{seen}
use Rattle.mg_replay.proofs.PacketLines.{other_takes, good_takes, bad_takes}
use Rattle.mg_replay.proofs.packets.take_packet.Goals as goal

pub returns-then-not-may_say_packet : goal.returns-then-not-may_say_packet
returns-then-not-may_say_packet c = other_takes c.args.line.now (seen c.args.feed.now) (seen c.args.feed.now) (sym c.may_say_packet.ensures ∙ c.if-not-may_say_packet.true)

pub returns-in-Ok : goal.returns-in-Ok
returns-in-Ok c = good_takes c.args.line.now _ _ (sym c.may_say_packet.ensures ∙ c.if-not-may_say_packet.false) c.in-Ok.ensures.graph c.in-Ok.ensures.good

pub returns-in_ok-cause-in-Err : goal.returns-in_ok-cause-in-Err
returns-in_ok-cause-in-Err c =
    bad_takes c.args.line.now _ _ c.in-Err.fault c.in_ok-cause-in-Err.cause (sym c.may_say_packet.ensures ∙ c.if-not-may_say_packet.false) c.in_ok-cause-in-Err.ensures.0 (c.in-Err.ensures.refused c.in_ok-cause-in-Err.ensures.1)
