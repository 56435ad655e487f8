use Rattle.mg_route.specs.TableLaws.{table_laws}
use Rattle.mg_test_cells.specs.Cell.{IsCell}
use Rattle.mg_test_cells.proofs.rows.answered.Given as goal

abbrev pub invariant-loop-row : goal.invariant-loop-row
invariant-loop-row l = IsCell table_laws l.cell.plan l.cell.inputs l.cell.engine l.cell.intake l.cell.sink
