use Rattle.mg_route.specs.TableLaws.{table_laws}
use Rattle.std.proofs.Common.{rules, ◌≡◌, Some, slice_get, refl}
use Rattle.mg_node.proofs.Knowing.{input_known}
use Rattle.mg_test_cells.specs.Cell.{job_of}
use Rattle.mg_test_cells.proofs.Making.{solved, input_stream}
use Rattle.mg_test_cells.proofs.streams.feed_of.Goals as goal

pub returns-clause-lawful : goal.returns-clause-lawful
returns-clause-lawful c =
    let at : slice_get c.args.inputs.now.streams c.args.input ≡ Some c.in_ok-prefix.prefix.now = search rules in
    let s = solved c.args.plan.now c.args.inputs.now c.requires.job in
    c.in_ok-of_input.ensures.lawful (job_of table_laws c.args.plan.now c.args.inputs.now) s.0 refl s.1
    (input_stream c.args.plan.now c.args.inputs.now s.0 c.args.input c.in_ok-prefix.prefix.now s.1 at)

pub returns-clause-first : goal.returns-clause-first
returns-clause-first c = (input_known (job_of table_laws c.args.plan.now c.args.inputs.now) c.args.input _ (returns-clause-lawful c)).first
