-- Packet lines were read.
use Rattle.std.proofs.Common.{◌-◌, ◌^◌}
use Rattle.mg_edge.specs.Edge.{SourceTold}
use Rattle.mg_calc.specs.declared.plan.Plan.{Plan}
use Rattle.mg_feed.specs.FeedSeen.{seen}
use Rattle.mg_feed.specs.LinesSeen.{reading, number_of}
use Rattle.mg_replay.specs.Reading.{IsOpening, IsSomeOpening}
use Rattle.mg_replay.proofs.opening.read_job.Given as goal

abbrev pub invariant-packets : goal.invariant-packets
invariant-packets g l =
    IsSomeOpening (g.S.Source.told l.input) (reading l.lines) (number_of l.lines) (seen l.feed)
    × ((plan : Plan) (first : SourceTold) → IsOpening plan first (g.S.Source.told l.fn.input) (reading l.fn.lines) (number_of l.fn.lines) (seen l.fn.feed)
    → IsOpening plan first (g.S.Source.told l.input) (reading l.lines) (number_of l.lines) (seen l.feed))

abbrev pub decreases-packets : goal.decreases-packets
decreases-packets g l = 2 ^ 64 - number_of l.lines
