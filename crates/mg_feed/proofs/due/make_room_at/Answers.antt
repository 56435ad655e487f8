use Rattle.std.proofs.Common.{ℕ, Option, sym, subst, arith}
use Rattle.std.proofs.Math.ListN.{set}
use Rattle.mg_feed.specs.Code.Streams.{waiting, was_taken}
use Rattle.mg_feed.specs.Code.Due.{HasRoom}
use Rattle.mg_feed.proofs.Steps.{map-same}
use Rattle.mg_feed.proofs.Room.{room-here, room-past, has_room-after}
use Rattle.mg_feed.proofs.due.make_room_at.Goals as goal

pub returns-in_err-reserve-clause-kept : goal.returns-in_err-reserve-clause-kept
returns-in_err-reserve-clause-kept c = map-same waiting c.args.streams.now c.in-Some.at c.reserve.new.stream c.index-streams-i.result (omega arith) c.in_err-reserve.ensures.kept

pub returns-in_err-reserve-clause-taken : goal.returns-in_err-reserve-clause-taken
returns-in_err-reserve-clause-taken c = map-same was_taken c.args.streams.now c.in-Some.at c.reserve.new.stream c.index-streams-i.result (omega arith) c.in_err-reserve.ensures.taken

pub returns-in_err-reserve-clause-others : goal.returns-in_err-reserve-clause-others
returns-in_err-reserve-clause-others c = λ p room.
    has_room-after c.args.packets c.args.packets c.args.streams.now c.in-Some.at p c.reserve.new.stream c.index-streams-i.result (omega arith)
    (λ was. let e = c.in_err-reserve.ensures.length in let f = c.in_err-reserve.ensures.capacity in omega arith) room

pub returns-in_ok-reserve-clause-kept : goal.returns-in_ok-reserve-clause-kept
returns-in_ok-reserve-clause-kept c = map-same waiting c.args.streams.now c.in-Some.at c.reserve.new.stream c.index-streams-i.result (omega arith) c.in_ok-reserve.ensures.kept

pub returns-in_ok-reserve-clause-taken : goal.returns-in_ok-reserve-clause-taken
returns-in_ok-reserve-clause-taken c = map-same was_taken c.args.streams.now c.in-Some.at c.reserve.new.stream c.index-streams-i.result (omega arith) c.in_ok-reserve.ensures.taken

pub returns-in_ok-reserve-clause-room : goal.returns-in_ok-reserve-clause-room
returns-in_ok-reserve-clause-room c =
    subst (λ (p : Option ℕ). HasRoom c.args.packets (set c.args.streams.now c.in-Some.at c.reserve.new.stream) p) (sym c.in-Some.is) (room-here c.args.packets c.args.streams.now c.in-Some.at c.reserve.new.stream c.in_ok-reserve.ensures.room)

pub returns-in_ok-reserve-clause-others : goal.returns-in_ok-reserve-clause-others
returns-in_ok-reserve-clause-others c = λ p room.
    has_room-after c.args.packets c.args.packets c.args.streams.now c.in-Some.at p c.reserve.new.stream c.index-streams-i.result (omega arith)
    (λ was. let e = c.in_ok-reserve.ensures.length in let f = c.in_ok-reserve.ensures.capacity in omega arith) room

pub returns-else-i-streams-clause-room : goal.returns-else-i-streams-clause-room
returns-else-i-streams-clause-room c =
    subst (λ (p : Option ℕ). HasRoom c.args.packets c.args.streams.now p) (sym c.in-Some.is) (room-past c.args.packets c.args.streams.now c.in-Some.at (omega arith))
