use Rattle.mg_route.specs.TableLaws.{table_laws}
use Rattle.std.proofs.Common.{rules, ◌≡◌, ℕ, ◌-◌, ◌<◌, ◌≤◌, length, Some, slice_get, sym, subst}
use Rattle.mg_node.specs.Job.{ports_of}
use Rattle.mg_node.specs.Lawful.{of_node, LawfulIntake}
use Rattle.mg_node.specs.Leading.{Leads}
use Rattle.mg_test_cells.specs.Cell.{job_of}
use Rattle.mg_test_cells.proofs.Edges.{edge_of, out_stream, out_leads, sunk_cell}
use Rattle.mg_test_cells.proofs.streams.deliver_out.Goals as goal

pub deliver-requires : goal.deliver-requires
deliver-requires c =
    let there : slice_get c.args.cell.now.plan.nodes 0 ≡ Some c.in_ok-node.node.now = search rules in
    let first_at : slice_get c.in_ok-node.node.now.outputs 0 ≡ Some c.in_ok-first.field-0.now = search rules in
    let at : slice_get c.args.cell.now.plan.outputs c.args.port ≡ Some c.in_ok-stream.field-0.now = search rules in
    let from : c.in_ok-first.field-0.now ≤ c.in_ok-stream.field-0.now = search rules in
    let below : c.in_ok-stream.field-0.now - c.in_ok-first.field-0.now < length c.args.cell.now.engine.outputs = search rules in
    subst (λ (n : ℕ). Leads table_laws c.args.cell.now.engine (edge_of c.in_ok-stream.field-0.now n c.args.port) c.args.cell.now.sink) (sym c.len.ensures)
    (out_leads c.args.cell.now.plan c.args.cell.now.inputs c.args.cell.now.engine c.args.cell.now.intake c.args.cell.now.sink c.in_ok-node.node.now c.in_ok-first.field-0.now c.args.port c.in_ok-stream.field-0.now c.requires there first_at at from below)

pub returns : goal.returns
returns c =
    let at : slice_get c.args.cell.now.plan.outputs c.args.port ≡ Some c.in_ok-stream.field-0.now = search rules in
    let plan = c.args.cell.now.plan in
    let job = job_of table_laws plan c.args.cell.now.inputs in
    sunk_cell plan c.args.cell.now.inputs c.args.cell.now.engine c.args.cell.now.intake c.args.cell.now.sink c.deliver.new.intake c.requires
    (subst (λ (n : ℕ). LawfulIntake job n c.deliver.new.intake) c.len.ensures
    (c.deliver.ensures.lawful job (of_node 0) c.requires.lawful_engine (subst (λ (n : ℕ). LawfulIntake job n c.args.cell.now.sink) (sym c.len.ensures) c.requires.lawful_sink)
    (subst (λ (n : ℕ). slice_get (ports_of plan n) c.args.port ≡ Some c.in_ok-stream.field-0.now) (sym c.len.ensures) (out_stream plan c.args.port c.in_ok-stream.field-0.now at))))
