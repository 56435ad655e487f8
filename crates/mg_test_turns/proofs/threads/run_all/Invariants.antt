use Rattle.mg_route.specs.TableLaws.{table_laws}
use Rattle.mg_workers.specs.Shared.{StaysShared}
use Rattle.mg_test_turns.proofs.threads.run_all.Given as goal

abbrev pub invariant-loop-node : goal.invariant-loop-node
invariant-loop-node l = StaysShared table_laws l.net l.initial.seat l.seat
