use Rattle.mg_route.specs.TableLaws.{table_laws}
use Rattle.mg_test_cells.specs.Cell.{job_of}
use Rattle.mg_test_cells.proofs.Cells.{done_out}
use Rattle.mg_test_cells.proofs.works.taken.Goals as goal

pub returns-in-Some-clause-lawful : goal.returns-in-Some-clause-lawful
returns-in-Some-clause-lawful c =
    let job = job_of table_laws c.args.cell.now.plan c.args.cell.now.inputs in
    c.ran.ensures.lawful job (c.in-Some.ensures.lawful job 0 c.requires.lawful_engine).1

pub returns-in-Some-clause-out : goal.returns-in-Some-clause-out
returns-in-Some-clause-out c =
    let job = job_of table_laws c.args.cell.now.plan c.args.cell.now.inputs in
    done_out c.unshelve.new.self c.in-Some.performed c.ran.result (c.in-Some.ensures.out job 0 c.requires.lawful_engine) c.ran.ensures.outcome
