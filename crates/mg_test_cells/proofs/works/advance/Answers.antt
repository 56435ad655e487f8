use Rattle.mg_route.specs.TableLaws.{table_laws}
use Rattle.mg_test_cells.specs.Cell.{job_of}
use Rattle.mg_test_cells.proofs.Cells.{advanced_cell}
use Rattle.mg_test_cells.proofs.works.advance.Goals as goal

pub returns : goal.returns
returns c = advanced_cell c.args.cell.now.plan c.args.cell.now.inputs c.args.cell.now.engine c.advance.new.self c.args.cell.now.intake c.args.cell.now.sink c.requires c.advance.ensures.advanced
    (c.advance.ensures.lawful (job_of table_laws c.args.cell.now.plan c.args.cell.now.inputs) 0 c.requires.lawful_engine c.requires.lawful_intake c.requires.agree)
