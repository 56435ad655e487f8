use Rattle.mg_node.proofs.ShownAtOnce.{shown_well, shown_fault, shown_none}
use Rattle.mg_node.proofs.context.Context.show.Goals as goal

pub returns-in-Ok-clause-shown : goal.returns-in-Ok-clause-shown
returns-in-Ok-clause-shown g c = shown_well c.args.at _ c.args.self.now _ c.requires c.in-Ok.ensures

pub returns-in-Err-Fault-clause-shown : goal.returns-in-Err-Fault-clause-shown
returns-in-Err-Fault-clause-shown g c = shown_fault c.args.at _ c.args.self.now _ c.requires (rw c.in-Err-Fault.field-0-is at c.in-Err-Fault.ensures)

pub returns-in-Err-OutOfMemory-clause-unchanged : goal.returns-in-Err-OutOfMemory-clause-unchanged
returns-in-Err-OutOfMemory-clause-unchanged g c = shown_none c.args.at c.args.self.now _ c.requires (rw c.in-Err-OutOfMemory.field-0-is at c.in-Err-OutOfMemory.ensures)
