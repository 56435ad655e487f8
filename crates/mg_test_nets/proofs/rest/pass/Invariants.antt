use Rattle.mg_route.specs.TableLaws.{table_laws}
use Rattle.mg_nets.specs.Driven.{IsDriven}
use Rattle.mg_test_nets.proofs.rest.pass.Given as goal

abbrev pub invariant-loop-number : goal.invariant-loop-number
invariant-loop-number l = IsDriven table_laws l.driver.plan l.driver.inputs l.driver.net
