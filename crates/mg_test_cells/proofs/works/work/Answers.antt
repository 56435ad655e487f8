use Rattle.mg_route.specs.TableLaws.{table_laws}
use Rattle.mg_test_cells.specs.Cell.{job_of}
use Rattle.mg_test_cells.proofs.works.work.Goals as goal

pub performed-requires : goal.performed-requires
performed-requires c =
    let job = job_of table_laws c.claim_work.new.cell.plan c.claim_work.new.cell.inputs in
    record { job = job; lawful = c.in_ok-shown.ensures.lawful job c.in-Ok.ensures.lawful }
