use Rattle.std.proofs.Common.{refl, arith}
use Rattle.mg_settled.specs.Prefix.{closed}
use Rattle.mg_feed.specs.Code.Streams.{waiting, was_taken}
use Rattle.mg_feed.proofs.Steps.{map-stepped, map-same, stepped-past}
use Rattle.mg_feed.proofs.streams.close_at.Goals as goal

pub returns-then-i-streams-clause-closed : goal.returns-then-i-streams-clause-closed
returns-then-i-streams-clause-closed c =
    map-stepped waiting closed c.args.streams.now c.args.place _ c.index-streams-i.result (omega arith) refl

pub returns-then-i-streams-clause-taken : goal.returns-then-i-streams-clause-taken
returns-then-i-streams-clause-taken c =
    map-same was_taken c.args.streams.now c.args.place _ c.index-streams-i.result (omega arith) refl

pub returns-else-i-streams-clause-closed : goal.returns-else-i-streams-clause-closed
returns-else-i-streams-clause-closed c = stepped-past waiting closed c.args.streams.now c.args.place (omega arith)
