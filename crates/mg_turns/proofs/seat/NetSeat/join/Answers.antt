use Rattle.std.proofs.Common.{rules, ap}
use Rattle.mg_turns.specs.Code.Plays.{Sat}
use Rattle.mg_turns.proofs.Apart.{joins_apart}
use Rattle.mg_turns.proofs.Ends.{nil}
use Rattle.mg_turns.proofs.Keeping.{join_knows}
use Rattle.mg_turns.proofs.seat.NetSeat.join.Goals as goal

pub join_seat-requires : goal.join_seat-requires
join_seat-requires g c = let me = c.args.other.idle in
    (search rules, search rules, nil _ me.2, search rules, joins_apart _ _ _ c.args.self.now.seat.me.0 c.args.other.seat.me.0 c.args.self.now.idle.0 me.1 c.requires.work)

pub returns-clause-knows : goal.returns-clause-knows
returns-clause-knows g c = join_knows c.args.self.now.seat.me.0 c.args.other.seat.me.0 c.join_seat.new.seat.me.0 (ap (λ (s : Sat). s.0) c.join_seat.ensures.2)
