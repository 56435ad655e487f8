use Rattle.mg_route.specs.TableLaws.{table_laws}
use Rattle.mg_workers.specs.Shared.{IsShared}
use Rattle.mg_bench.proofs.turns.rounds_by_seat.Given as goal

abbrev pub invariant-loop : goal.invariant-loop
invariant-loop l = IsShared table_laws l.net l.seat
