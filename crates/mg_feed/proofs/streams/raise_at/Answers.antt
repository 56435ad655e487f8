use Rattle.std.proofs.Common.{arith}
use Rattle.mg_settled.specs.Prefix.{raised}
use Rattle.mg_feed.specs.Code.Streams.{waiting, was_taken}
use Rattle.mg_feed.proofs.Steps.{map-stepped, map-same, stepped-past}
use Rattle.mg_feed.proofs.streams.raise_at.Goals as goal

pub returns-then-i-streams-clause-raised : goal.returns-then-i-streams-clause-raised
returns-then-i-streams-clause-raised c =
    map-stepped waiting (λ s. raised s c.args.bound) c.args.streams.now c.args.place c.raise.new.stream c.index-streams-i.result (omega arith) c.raise.ensures.raised

pub returns-then-i-streams-clause-taken : goal.returns-then-i-streams-clause-taken
returns-then-i-streams-clause-taken c =
    map-same was_taken c.args.streams.now c.args.place c.raise.new.stream c.index-streams-i.result (omega arith) c.raise.ensures.taken

pub returns-else-i-streams-clause-raised : goal.returns-else-i-streams-clause-raised
returns-else-i-streams-clause-raised c = stepped-past waiting (λ s. raised s c.args.bound) c.args.streams.now c.args.place (omega arith)
