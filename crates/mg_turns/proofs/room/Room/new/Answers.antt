use Rattle.std.proofs.Common.{rules}
use Rattle.mg_turns.proofs.Rooms.{stored}
use Rattle.mg_turns.proofs.room.Room.new.Goals as goal

pub new-requires : goal.new-requires
new-requires g c = stored {V = Unit {0}} _ c.in_ok-vector.vector _ _ tt (search rules) c.push_reserved.ensures.items (search rules)
