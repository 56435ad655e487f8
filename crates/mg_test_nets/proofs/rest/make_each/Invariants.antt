use Rattle.mg_route.specs.TableLaws.{table_laws}
use Rattle.mg_nets.specs.Driven.{IsDriven}
use Rattle.mg_test_nets.proofs.rest.make_each.Given as goal

abbrev pub invariant-loop-event : goal.invariant-loop-event
invariant-loop-event l = IsDriven table_laws l.driver.plan l.driver.inputs l.driver.net
