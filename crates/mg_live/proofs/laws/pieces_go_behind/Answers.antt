use Rattle.mg_live.proofs.HandedOn.{packets_behind, bound_behind}
use Rattle.mg_live.proofs.laws.pieces_go_behind.Goals as goal

pub returns-clause-packets : goal.returns-clause-packets
returns-clause-packets c = packets_behind

pub returns-clause-bound : goal.returns-clause-bound
returns-clause-bound c = bound_behind
