use Rattle.mg_route.specs.TableLaws.{table_laws}
use Rattle.mg_seats.specs.Held.{HasOutputs}
use Rattle.mg_test_turns.proofs.nets.last_taken.Given as goal

abbrev pub invariant-loop : goal.invariant-loop
invariant-loop l = HasOutputs table_laws 1 l.net
