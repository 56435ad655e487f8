use Rattle.std.proofs.Common.{Option, subst, arith}
use Rattle.mg_calc.specs.Rules.{no_laws}
use Rattle.mg_feed.specs.FeedSeen.{seen}
use Rattle.mg_feed.specs.LinesSeen.{reading, number_of}
use Rattle.mg_replay.specs.Code.Reading.{OpensOn}
use Rattle.mg_replay.specs.declared.opening.Opened.{Opened}
use Rattle.mg_replay.proofs.JobLines.{opening_then}
use Rattle.mg_replay.proofs.opening.read_job.Goals as goal

pub packets-init : goal.packets-init
packets-init g c = (c.requires, λ plan first o. o)

pub packets-preserved : goal.packets-preserved
packets-preserved g c =
    let some = c.packets.invariant.0 in (
      record { plan = some.plan; first = some.first; opening = opening_then no_laws c.in_ok-read.read some.plan some.first _ _ _ _ (c.in_ok-read.ensures.opens no_laws some.plan some.first some.opening) c.in-None.is },
      λ plan first o. opening_then no_laws c.in_ok-read.read plan first _ _ _ _ (c.in_ok-read.ensures.opens no_laws plan first (c.packets.invariant.1 plan first o)) c.in-None.is,
    )

pub packets-smaller : goal.packets-smaller
packets-smaller g c = (let less = c.in_ok-read.ensures.more c.in-None.is in omega (arith, less.0, less.1))

pub returns-in-Some : goal.returns-in-Some
returns-in-Some g c = λ laws plan first o.
    subst (λ (r : Option Opened). OpensOn laws r plan first (g.S.Source.told c.next_packet.new.input) (reading c.next_packet.new.lines) (number_of c.next_packet.new.lines) (seen c.next_packet.new.feed)) c.in-Some.is
    (c.in_ok-read.ensures.opens laws plan first (c.packets.invariant.1 plan first o))
