use Rattle.mg_route.specs.TableLaws.{table_laws}
use Rattle.mg_nets.specs.Driven.{IsDriven}
use Rattle.mg_bench.proofs.turns.works.Given as goal

abbrev pub invariant-loop : goal.invariant-loop
invariant-loop l = IsDriven table_laws l.driver.plan l.driver.inputs l.driver.net
