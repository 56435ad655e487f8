use Rattle.std.proofs.Common.{rules}
use Rattle.mg_turns.proofs.Apart.{splits_apart}
use Rattle.mg_turns.proofs.seat.cut.Goals as goal

pub split_seat-requires : goal.split_seat-requires
split_seat-requires g c = (search rules, search rules, splits_apart _ _ g.N.Amount.amount _ (search rules) (search rules))
