use Rattle.mg_route.specs.TableLaws.{table_laws}
use Rattle.mg_test_cells.specs.Cell.{job_of}
use Rattle.mg_test_cells.proofs.Cells.{committed_cell}
use Rattle.mg_test_cells.proofs.works.commit_outcome.Goals as goal

pub returns : goal.returns
returns c =
    committed_cell c.args.cell.now.plan c.args.cell.now.inputs c.args.cell.now.sink c.in-Ok.laid c.args.cell.now.engine c.commit.new.self c.args.cell.now.intake c.args.outcome c.requires.cell
    (c.in-Ok.ensures.lawful (job_of table_laws c.args.cell.now.plan c.args.cell.now.inputs) 0 c.requires.cell.lawful_engine c.requires.lawful) c.in-Ok.ensures.commits
