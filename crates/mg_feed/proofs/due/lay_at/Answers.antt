use Rattle.std.proofs.Common.{◌+◌, ℕ, Option, map, sym, subst, arith, ◌∙◌, ap}
use Rattle.mg_settled.specs.Prefix.{appended}
use Rattle.mg_feed.specs.Accepted.{stepped_at}
use Rattle.mg_feed.specs.Code.Streams.{waiting, was_taken}
use Rattle.mg_feed.specs.Code.Due.{HasRoom}
use Rattle.mg_feed.proofs.Steps.{map-same, map-stepped, stepped-past}
use Rattle.mg_feed.proofs.Room.{room-there, room-fewer, has_room-after}
use Rattle.mg_feed.proofs.due.lay_at.Goals as goal

pub put-requires : goal.put-requires
put-requires c =
    room-there 1 c.args.streams.now c.in-Some.at c.index-streams-i.result (omega arith)
    (subst (λ (p : Option ℕ). HasRoom 1 c.args.streams.now p) c.in-Some.is c.requires)

pub returns-then-i-streams-clause-laid : goal.returns-then-i-streams-clause-laid
returns-then-i-streams-clause-laid c =
    map-stepped waiting (λ s. appended s c.args.packet) c.args.streams.now c.in-Some.at c.put.new.stream c.index-streams-i.result (omega arith) c.put.ensures.appended
    ∙ ap (λ (p : Option ℕ). stepped_at p (λ s. appended s c.args.packet) (map waiting c.args.streams.now)) (sym c.in-Some.is)

pub returns-then-i-streams-clause-taken : goal.returns-then-i-streams-clause-taken
returns-then-i-streams-clause-taken c = map-same was_taken c.args.streams.now c.in-Some.at c.put.new.stream c.index-streams-i.result (omega arith) c.put.ensures.taken

pub returns-then-i-streams-clause-room : goal.returns-then-i-streams-clause-room
returns-then-i-streams-clause-room c = λ n p room.
    has_room-after (n + 1) n c.args.streams.now c.in-Some.at p c.put.new.stream c.index-streams-i.result (omega arith)
    (λ was. let e = c.put.ensures.length in let f = c.put.ensures.capacity in omega arith) room

pub returns-else-i-streams-clause-laid : goal.returns-else-i-streams-clause-laid
returns-else-i-streams-clause-laid c =
    stepped-past waiting (λ s. appended s c.args.packet) c.args.streams.now c.in-Some.at (omega arith)
    ∙ ap (λ (p : Option ℕ). stepped_at p (λ s. appended s c.args.packet) (map waiting c.args.streams.now)) (sym c.in-Some.is)

pub returns-else-i-streams-clause-room : goal.returns-else-i-streams-clause-room
returns-else-i-streams-clause-room c = λ n p room. room-fewer n c.args.streams.now p room

pub returns-in_default-clause-room : goal.returns-in_default-clause-room
returns-in_default-clause-room c = λ n p room. room-fewer n c.args.streams.now p room
