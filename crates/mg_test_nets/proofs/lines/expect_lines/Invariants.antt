use Rattle.mg_route.specs.TableLaws.{table_laws}
use Rattle.mg_nets.specs.Driven.{IsDriven}
use Rattle.mg_test_nets.proofs.lines.expect_lines.Given as goal

abbrev pub invariant-loop-row : goal.invariant-loop-row
invariant-loop-row l = IsDriven table_laws l.driver.plan l.driver.inputs l.driver.net
