use Rattle.mg_route.specs.TableLaws.{table_laws}
use Rattle.std.proofs.Common.{refl}
use Rattle.mg_test_cells.specs.Cell.{job_of}
use Rattle.mg_test_cells.proofs.Making.{solved}
use Rattle.mg_test_cells.proofs.cell.intake_of.Goals as goal

pub returns-clause-lawful : goal.returns-clause-lawful
returns-clause-lawful c =
    let s = solved c.args.plan.now c.args.inputs.now c.requires.job in
    c.in_ok-new.ensures.lawful table_laws (job_of table_laws c.args.plan.now c.args.inputs.now) s.0 refl s.1
