use Rattle.std.proofs.Common.{Option, refl, subst}
use Rattle.mg_feed.specs.FeedSeen.{seen}
use Rattle.mg_replay.specs.Code.Packets.{TakesPackets}
use Rattle.mg_replay.specs.declared.trace_end.TraceFault.{TraceFault}
use Rattle.mg_replay.proofs.opening.take_other.Goals as goal

pub returns-in-Some : goal.returns-in-Some
returns-in-Some c = (c.in-Some.cause, refl, subst (λ (o : Option TraceFault). TakesPackets o c.args.line.now (seen c.args.feed.now) (seen c.take_packet.new.feed)) c.in-Some.is c.in_ok-refusal.ensures)

pub returns-in-None : goal.returns-in-None
returns-in-None c = subst (λ (o : Option TraceFault). TakesPackets o c.args.line.now (seen c.args.feed.now) (seen c.take_packet.new.feed)) c.in-None.is c.in_ok-refusal.ensures
