use contract.Lifetimes.{Lfts}
use denote.Param.Send.{IsSend, param_send, sendable}
use Rattle.mg_node.proofs.Sent.{intake_field}
use Rattle.mg_test_cells.specs.contracts.cell.Cell as Cell
use Rattle.mg_test_cells.proofs.Sent.{plan, inputs, engine}
use Rattle.mg_test_cells.proofs.threads.called_there.Lts as Lts
use Rattle.mg_test_cells.proofs.threads.called_there.Given.{Over}
use Rattle.mg_test_cells.proofs.threads.called_there.Goals as goal

cell : IsSend (Cell.the_field).row
cell = search (plan, inputs, engine, intake_field, sendable) depth 40 fits 50000

closure : (g : Over) (κs : Lfts 6) → IsSend (Lts.arg-0-1 g.row.R g.R.laws g.R.Threads-dict κs)
closure g κs = search (cell, sendable) depth 40 fits 50000

pub join-cell-requires-send-F : goal.join-cell-requires-send-F
join-cell-requires-send-F g c κs within = param_send 1 _ (closure g κs)

pub join-cell-requires-send-A : goal.join-cell-requires-send-A
join-cell-requires-send-A g c κs within = search (cell, sendable) depth 20 fits 20000
